use Rattle.std.proofs.Common.{◌≡◌, ◌≤◌, ◌-◌, ◌+◌, ◌/◌}
use Rattle.usb_find.specs.inside.Walks.{reaches}
use Rattle.usb_find.proofs.ways.near.Given as goal

-- the place is still reached where it was, and each look went over a block
abbrev pub invariant-loop-spot : goal.invariant-loop-spot
invariant-loop-spot g l =
    (reaches l.fn.bytes l.fn.from l.end ≡ reaches l.bytes l.spot l.end) × (l.fn.from.place ≤ l.spot.place) × (l.initial.looks ≤ l.looks)
    × (l.looks + (l.fn.from.place - l.base) / 1000 ≤ l.initial.looks + (l.spot.place - l.base) / 1000)
    × (l.looks ≤ l.initial.looks + ((l.end - l.base) / 1000 - (l.fn.from.place - l.base) / 1000))

abbrev pub decreases-loop-spot : goal.decreases-loop-spot
decreases-loop-spot g l = (l.end - l.base) / 1000 - (l.spot.place - l.base) / 1000
