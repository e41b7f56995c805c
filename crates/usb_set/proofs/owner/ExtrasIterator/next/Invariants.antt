use Rattle.std.proofs.Common.{◌≡◌, length}
use Rattle.usb_set.specs.Owners.{extras_left, holders_left}
use Rattle.usb_set.proofs.owner.ExtrasIterator.next.Given as goal

abbrev pub invariant-owners : goal.invariant-owners
invariant-owners l = extras_left l.self ≡ extras_left l.initial.self

abbrev pub decreases-owners : goal.decreases-owners
decreases-owners l = length (holders_left l.self.owners)
