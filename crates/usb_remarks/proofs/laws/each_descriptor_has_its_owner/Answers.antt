use Rattle.usb_remarks.proofs.rest.Inputs.{whole_shows}
use Rattle.usb_remarks.proofs.laws.each_descriptor_has_its_owner.Goals as goal

pub returns : goal.returns
returns c = whole_shows
