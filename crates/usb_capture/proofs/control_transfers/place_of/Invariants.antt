use Rattle.std.proofs.Common.{◌≡◌, ◌+◌, drop}
use Rattle.usb_capture.specs.Transfers.{place_with}
use Rattle.usb_capture.proofs.control_transfers.place_of.Given as goal

abbrev pub invariant-loop-held : goal.invariant-loop-held
invariant-loop-held l = (l.place ≡ l.held-index) × (l.place + place_with l.fn.id (drop l.place l.fn.opens) ≡ place_with l.fn.id l.fn.opens)
