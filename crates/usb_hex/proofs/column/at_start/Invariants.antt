use Rattle.std.proofs.Common.{◌≡◌, ◌≤◌, length}
use Rattle.usb_hex.specs.Columns.{after_all, is_before_line}
use Rattle.usb_hex.proofs.column.at_start.Given as goal

abbrev pub invariant-loop-rest : goal.invariant-loop-rest
invariant-loop-rest l = (after_all is_before_line l.rest ≡ after_all is_before_line l.text) × (length l.rest ≤ length l.text)

abbrev pub decreases-loop-rest : goal.decreases-loop-rest
decreases-loop-rest l = length l.rest
