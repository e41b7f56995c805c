use Rattle.std.proofs.Common.{◌≡◌, ◌≤◌, ◌+◌, ◌-◌, ◌*◌, take, drop, length, false}
use Rattle.usb_find.specs.Found.{FindsAll}
use Rattle.usb_find.specs.inside.Bounds.{IsKept, paid}
use Rattle.usb_find.proofs.series.find_counted.Given as goal

-- those so far were found, and the looks are no more than those of the places so far
abbrev pub invariant-loop-count : goal.invariant-loop-count
invariant-loop-count g l =
    FindsAll l.bytes l.start (take l.count l.found) l.place × (drop l.count l.found ≡ drop l.count l.initial.found) × (l.count ≤ length l.found) × (length l.found ≡ length l.initial.found)
    × IsKept l.bytes l.kept × (l.start ≤ l.place) × (l.place ≤ l.start + (length l.bytes - l.start)) × (l.kept.base ≤ l.place + 9)
    × (l.kept.refused ≡ false → l.looks + paid l.initial.kept ≤ l.initial.looks + 571 * (l.place - l.start) + paid l.kept)

abbrev pub decreases-loop-count : goal.decreases-loop-count
decreases-loop-count g l = length l.found - l.count
