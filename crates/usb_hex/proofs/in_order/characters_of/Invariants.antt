use Rattle.std.proofs.Common.{◌≡◌, length}
use Rattle.usb_hex.specs.Columns.{characters_of}
use Rattle.usb_hex.proofs.in_order.characters_of.Given as goal

abbrev pub invariant-loop-rest : goal.invariant-loop-rest
invariant-loop-rest l = characters_of l.rest ≡ characters_of l.text

abbrev pub decreases-loop-rest : goal.decreases-loop-rest
decreases-loop-rest l = length l.rest
