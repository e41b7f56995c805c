use Rattle.usb_capture.proofs.BusTransferLemmas.{found_after}
use Rattle.usb_capture.proofs.bus_transfers.BusTransfers.finds.Goals as goal

pub returns : goal.returns
returns c = found_after c.finds_now.result c.args.finding c.args.transaction.now c.args.self.now c.finds_now.ensures
