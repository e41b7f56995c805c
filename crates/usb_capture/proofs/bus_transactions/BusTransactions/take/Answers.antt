use Rattle.usb_capture.proofs.TransactionLemmas.{received_more}
use Rattle.usb_capture.proofs.bus_transactions.BusTransactions.take.Goals as goal

pub returns-clause-ok : goal.returns-clause-ok
returns-clause-ok c = received_more c.step.result c.args.recorded.now c.args.self.now c.step.new.self c.step.ensures.bus c.step.ensures.over
