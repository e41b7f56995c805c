use Rattle.std.proofs.Common.{◌≡◌, ◌≤◌, length}
use Rattle.usb_hex.specs.Columns.{after_all, is_blank}
use Rattle.usb_hex.proofs.column.after_blanks.Given as goal

abbrev pub invariant-loop-rest : goal.invariant-loop-rest
invariant-loop-rest l = (after_all is_blank l.rest ≡ after_all is_blank l.text) × (length l.rest ≤ length l.text)

abbrev pub decreases-loop-rest : goal.decreases-loop-rest
decreases-loop-rest l = length l.rest
