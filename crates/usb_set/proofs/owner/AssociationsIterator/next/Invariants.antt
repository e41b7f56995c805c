use Rattle.std.proofs.Common.{◌≡◌, length}
use Rattle.usb_set.specs.Owners.{associations_left, extras_left}
use Rattle.usb_set.proofs.owner.AssociationsIterator.next.Given as goal

abbrev pub invariant-loop-owner : goal.invariant-loop-owner
invariant-loop-owner l = associations_left l.self ≡ associations_left l.initial.self

abbrev pub decreases-loop-owner : goal.decreases-loop-owner
decreases-loop-owner l = length (extras_left l.self.extras)
