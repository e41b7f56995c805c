use Rattle.usb_capture.proofs.RecordingLaws.{received_again}
use Rattle.usb_capture.proofs.laws.recorded_transactions_are_read.Goals as goal

pub returns : goal.returns
returns c = received_again
