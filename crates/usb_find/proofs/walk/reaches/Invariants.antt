use Rattle.std.proofs.Common.{◌≡◌, ◌≤◌, ◌*◌, ◌-◌, ◌+◌}
use Rattle.usb_find.specs.inside.Walks.{reaches}
use Rattle.usb_find.proofs.walk.reaches.Given as goal

-- the place is still reached where it was, and each look went over two bytes
abbrev pub invariant-loop-spot : goal.invariant-loop-spot
invariant-loop-spot g l =
    (reaches l.fn.bytes l.fn.from l.end ≡ reaches l.bytes l.spot l.end) × (l.initial.looks ≤ l.looks) × (2 * (l.looks - l.initial.looks) ≤ l.spot.place - l.fn.from.place)
    × (2 * (l.looks - l.initial.looks) ≤ l.end - l.fn.from.place + 1) × (l.fn.from.place ≤ l.spot.place)

abbrev pub decreases-loop-spot : goal.decreases-loop-spot
decreases-loop-spot g l = l.end - l.spot.place
