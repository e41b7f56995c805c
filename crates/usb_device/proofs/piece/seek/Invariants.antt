use Rattle.std.proofs.Common.{◌≡◌, ◌+◌, ◌-◌, ◌≤◌, drop, find, length}
use Rattle.usb_device.specs.Images.{has_key, pieces_of}
use Rattle.usb_device.proofs.piece.seek.Given as goal

-- the piece is among those that are left
abbrev pub invariant-loop-start : goal.invariant-loop-start
invariant-loop-start l = record {
  same : find (has_key l.kind l.index l.number) (pieces_of (drop (l.start - 8) l.pieces)) ≡ find (has_key l.kind l.index l.number) (pieces_of l.pieces);
  head : 8 ≤ l.start;
}

abbrev pub decreases-loop-start : goal.decreases-loop-start
decreases-loop-start l = length l.pieces + 1 - l.start
