use Rattle.usb_capture.proofs.ReadingLaws.{kept_came}
use Rattle.usb_capture.proofs.laws.what_is_kept_came.Goals as goal

pub returns : goal.returns
returns c = kept_came
