use Rattle.std.proofs.Common.{◌≡◌, ◌++◌, [], take}
use Rattle.std.specs.List.{flat_map}
use Rattle.usb_capture.specs.declared.open_transfer.OpenTransfer.{OpenTransfer}
use Rattle.usb_capture_lines.specs.Recordings.{lines_of}
use Rattle.usb_capture_lines.proofs.teller.put_open.Given as goal

abbrev pub invariant-loop-open : goal.invariant-loop-open
invariant-loop-open l =
    l.text ≡ l.initial.text ++ flat_map (λ (one : OpenTransfer). lines_of l.selection l.origin one.transfer []) (take l.open-index l.opens)
