use Rattle.std.proofs.Common.{◌≡◌, ◌≤◌, length}
use Rattle.hex.specs.Hex.{is_hex_digit}
use Rattle.usb_hex.specs.Columns.{after_all}
use Rattle.usb_hex.proofs.column.after_hex_digits.Given as goal

abbrev pub invariant-loop-rest : goal.invariant-loop-rest
invariant-loop-rest l = (after_all is_hex_digit l.rest ≡ after_all is_hex_digit l.text) × (length l.rest ≤ length l.text)

abbrev pub decreases-loop-rest : goal.decreases-loop-rest
decreases-loop-rest l = length l.rest
