use Rattle.std.proofs.Common.{◌≡◌, ◌≤◌, false, length}
use Rattle.usb_hex.specs.Literals.{literal_in}
use Rattle.usb_hex.proofs.literal.literal_in.Given as goal

abbrev pub invariant-loop-rest : goal.invariant-loop-rest
invariant-loop-rest l = (literal_in l.named l.rest ≡ literal_in false l.text) × (length l.rest ≤ length l.text)

abbrev pub decreases-loop-rest : goal.decreases-loop-rest
decreases-loop-rest l = length l.rest
