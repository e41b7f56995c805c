use Rattle.usb_capture.proofs.Unique.{parts_are_read}
use Rattle.usb_capture.proofs.laws.each_part_is_read.Goals as goal

pub returns : goal.returns
returns c = record { frames = parts_are_read }
