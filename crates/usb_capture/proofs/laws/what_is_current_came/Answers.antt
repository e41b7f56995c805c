use Rattle.usb_capture.proofs.FindingLaws.{current_came}
use Rattle.usb_capture.proofs.laws.what_is_current_came.Goals as goal

pub returns : goal.returns
returns c = current_came
