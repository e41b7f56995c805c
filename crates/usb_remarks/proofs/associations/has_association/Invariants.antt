use Rattle.std.proofs.Common.{◌≡◌, length}
use Rattle.usb_remarks.specs.Associations.{has_association}
use Rattle.usb_walk.specs.Trees.{descriptors}
use Rattle.usb_remarks.proofs.associations.has_association.Given as goal

abbrev pub invariant-loop-d : goal.invariant-loop-d
invariant-loop-d l = has_association (descriptors l.rest) ≡ has_association (descriptors l.set)

abbrev pub decreases-loop-d : goal.decreases-loop-d
decreases-loop-d l = length l.rest
