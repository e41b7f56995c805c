use Rattle.usb_capture.proofs.TransferLemmas.{taken_more}
use Rattle.usb_capture.proofs.control_transfers.ControlTransfers.take.Goals as goal

pub returns-clause-ok : goal.returns-clause-ok
returns-clause-ok c = taken_more c.step.result c.args.event.now c.args.self.now c.step.new.self c.step.ensures.held c.step.ensures.over
