use Rattle.usb_remarks.proofs.rest.Inputs.{whole_tells}
use Rattle.usb_remarks.proofs.laws.each_finding_is_reported_once.Goals as goal

pub returns : goal.returns
returns c = whole_tells
