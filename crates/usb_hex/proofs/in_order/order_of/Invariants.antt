use Rattle.std.proofs.Common.{◌≡◌, false, length}
use Rattle.usb_hex.specs.Columns.{order_of}
use Rattle.usb_hex.proofs.in_order.order_of.Given as goal

abbrev pub invariant-loop-rest : goal.invariant-loop-rest
invariant-loop-rest l = order_of false 0 l.rest l.shown ≡ order_of false 0 l.text l.characters

abbrev pub decreases-loop-rest : goal.decreases-loop-rest
decreases-loop-rest l = length l.rest
