use Rattle.std.proofs.Common.{◌≡◌, ◌≤◌, ◌*◌, ◌+◌, length}
use Rattle.usb_find.specs.inside.Walks.{AreWays}
use Rattle.usb_find.proofs.ways.make_ways.Given as goal

-- the ways from there on are made
abbrev pub invariant-loop-left : goal.invariant-loop-left
invariant-loop-left g l =
    AreWays l.bytes l.base l.ways l.left × (length l.ways ≡ length l.initial.ways) × (l.left ≤ length l.ways) × (l.initial.looks ≤ l.looks)
    × (l.looks + 4 * l.left ≤ l.initial.looks + 4 * length l.ways)

abbrev pub decreases-loop-left : goal.decreases-loop-left
decreases-loop-left g l = l.left
