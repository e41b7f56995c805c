use Rattle.usb_capture.proofs.ReadingLaws.{the_last}
use Rattle.usb_capture.proofs.laws.the_last_reading_is_kept.Goals as goal

pub returns : goal.returns
returns c = the_last
