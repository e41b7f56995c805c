use Rattle.std.proofs.Common.{◌≡◌, List, take}
use Rattle.std.specs.List.{flat_map}
use Rattle.usb_capture.specs.declared.control_transfer.ControlTransfer.{ControlTransfer}
use Rattle.usb_capture.specs.declared.transaction.Transaction.{Transaction}
use Rattle.usb_capture.specs.BusTransfers.{HasMade}
use Rattle.usb_capture_lines.specs.BusFindings.{found_one}
use Rattle.usb_capture_lines.proofs.observer.Observer.found_among.Given as goal

abbrev pub invariant-loop-finding : goal.invariant-loop-finding
invariant-loop-finding l =
    (before : List Transaction) (given : List ControlTransfer) → HasMade before given l.self.transfers
    → l.found.items ≡ flat_map (found_one before l.transaction) (take l.finding-index l.findings)
