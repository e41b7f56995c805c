use Rattle.std.proofs.Common.{◌≡◌, ◌≤◌, ◌+◌, ◌-◌, ◌*◌, drop, length, false}
use Rattle.usb_find.specs.inside.Bounds.{IsKept, paid}
use Rattle.usb_find.specs.inside.Seeking.{first_standing}
use Rattle.usb_find.proofs.search.first_standing.Given as goal

-- what stands first is to come, and the looks are no more than those of the places so far
abbrev pub invariant-loop-place : goal.invariant-loop-place
invariant-loop-place g l =
    (first_standing l.start (drop l.start l.bytes) ≡ first_standing l.place (drop l.place l.bytes)) × IsKept l.bytes l.kept × (l.start ≤ l.place) × (l.place ≤ l.start + (length l.bytes - l.start))
    × (l.kept.base ≤ l.place + 9) × (l.kept.refused ≡ false → l.initial.kept.refused ≡ false)
    × (l.kept.refused ≡ false → l.looks + paid l.initial.kept ≤ l.initial.looks + 571 * (l.place - l.start) + paid l.kept)

abbrev pub decreases-loop-place : goal.decreases-loop-place
decreases-loop-place g l = length l.bytes - l.place
