use Rattle.std.proofs.Common.{◌≡◌, ◌++◌, length}
use Rattle.usb_hex.specs.Brackets.{first_side, within}
use Rattle.usb_hex.proofs.bracket.within.Given as goal

-- what is shown so far, and what is to come
abbrev pub invariant-loop-rest : goal.invariant-loop-rest
invariant-loop-rest l = l.inner.items ++ within l.bracket l.side l.rest ≡ within l.bracket (first_side l.bracket l.text) l.text

abbrev pub decreases-loop-rest : goal.decreases-loop-rest
decreases-loop-rest l = length l.rest
