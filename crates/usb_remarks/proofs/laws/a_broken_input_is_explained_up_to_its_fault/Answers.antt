use Rattle.usb_remarks.proofs.rest.Broken.{broken_covers}
use Rattle.usb_remarks.proofs.laws.a_broken_input_is_explained_up_to_its_fault.Goals as goal

pub returns : goal.returns
returns c = broken_covers
