use Rattle.std.proofs.Common.{◌≡◌, ◌≤◌, length, true}
use Rattle.usb_hex.specs.Columns.{columns_of}
use Rattle.usb_hex.proofs.column.columns_in.Given as goal

abbrev pub invariant-loop-rest : goal.invariant-loop-rest
invariant-loop-rest l = (columns_of true l.rest ≡ columns_of true l.text) × (length l.rest ≤ length l.text)

abbrev pub decreases-loop-rest : goal.decreases-loop-rest
decreases-loop-rest l = length l.rest
