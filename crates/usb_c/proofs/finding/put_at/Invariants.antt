use Rattle.std.proofs.Common.{◌≡◌, ◌+◌, ◌++◌, drop, map, take}
use Rattle.usb_remarks.specs.Outline.{described}
use Rattle.usb_c.specs.Facts.{placed}
use Rattle.usb_c.proofs.finding.put_at.Given as goal

abbrev pub invariant-loop-number : goal.invariant-loop-number
invariant-loop-number l =
    l.out ≡ take l.filled l.fn.out ++ map (placed (described l.descriptor)) (take l.number l.found-items) ++ drop (l.filled + l.number) l.fn.out
