use Rattle.std.proofs.Common.{◌≡◌, length}
use Rattle.usb_hex.specs.Hexadecimal.{has_long_number}
use Rattle.usb_hex.proofs.hexadecimal.has_long_number.Given as goal

abbrev pub invariant-loop-rest : goal.invariant-loop-rest
invariant-loop-rest l = has_long_number l.rest ≡ has_long_number l.text

abbrev pub decreases-loop-rest : goal.decreases-loop-rest
decreases-loop-rest l = length l.rest
