use Rattle.usb_capture.proofs.BusTransferLaws.{a_transfer}
use Rattle.usb_capture.proofs.laws.a_setup_and_its_status_are_a_transfer.Goals as goal

pub returns : goal.returns
returns c = a_transfer
