use Rattle.usb_capture.proofs.BusTransferLemmas.{made_more}
use Rattle.usb_capture.proofs.bus_transfers.BusTransfers.take.Goals as goal

pub returns-clause-ok : goal.returns-clause-ok
returns-clause-ok c =
    let report = c.in_ok-over.ensures in
    made_more c.in_ok-over.over c.args.transaction.now c.args.self.now (record { pipes = c.take.new.self; sizes = c.take-2.new.self })
    report.pipes report.over c.take-2.ensures
