use Rattle.std.proofs.Common.{◌≡◌, length}
use Rattle.usb_hex.specs.Columns.{after_all}
use Rattle.usb_hex.specs.Labels.{is_in_directive}
use Rattle.usb_hex.proofs.label.after_directive.Given as goal

abbrev pub invariant-loop-rest : goal.invariant-loop-rest
invariant-loop-rest l = after_all is_in_directive l.rest ≡ after_all is_in_directive l.text

abbrev pub decreases-loop-rest : goal.decreases-loop-rest
decreases-loop-rest l = length l.rest
