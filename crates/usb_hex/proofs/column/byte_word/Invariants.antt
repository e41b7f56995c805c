use Rattle.std.proofs.Common.{◌≡◌, ◌≤◌, length}
use Rattle.usb_hex.specs.Columns.{byte_word}
use Rattle.usb_hex.proofs.column.byte_word.Given as goal

abbrev pub invariant-loop-rest : goal.invariant-loop-rest
invariant-loop-rest l = (byte_word l.starts_word l.rest ≡ byte_word l.starts l.text) × (length l.rest ≤ length l.text)

abbrev pub decreases-loop-rest : goal.decreases-loop-rest
decreases-loop-rest l = length l.rest
