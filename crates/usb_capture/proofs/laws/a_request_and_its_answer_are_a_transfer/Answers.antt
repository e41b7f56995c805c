use Rattle.usb_capture.proofs.OpenTransfers.{a_transfer}
use Rattle.usb_capture.proofs.laws.a_request_and_its_answer_are_a_transfer.Goals as goal

pub returns : goal.returns
returns c = a_transfer
