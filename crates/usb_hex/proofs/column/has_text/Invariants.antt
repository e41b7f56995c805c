use Rattle.std.proofs.Common.{◌≡◌, length}
use Rattle.usb_hex.specs.Columns.{has_text}
use Rattle.usb_hex.proofs.column.has_text.Given as goal

abbrev pub invariant-loop-rest : goal.invariant-loop-rest
invariant-loop-rest l = has_text l.rest ≡ has_text l.text

abbrev pub decreases-loop-rest : goal.decreases-loop-rest
decreases-loop-rest l = length l.rest
