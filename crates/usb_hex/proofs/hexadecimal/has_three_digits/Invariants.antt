use Rattle.std.proofs.Common.{◌≡◌, length}
use Rattle.usb_hex.specs.Hexadecimal.{has_three_digits}
use Rattle.usb_hex.proofs.hexadecimal.has_three_digits.Given as goal

abbrev pub invariant-loop-rest : goal.invariant-loop-rest
invariant-loop-rest l = has_three_digits l.rest ≡ has_three_digits l.text

abbrev pub decreases-loop-rest : goal.decreases-loop-rest
decreases-loop-rest l = length l.rest
