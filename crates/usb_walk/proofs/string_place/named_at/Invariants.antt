use Rattle.std.proofs.Common.{◌≡◌, ◌+◌, length}
use Rattle.usb_walk.proofs.Named.{marked_before}
use Rattle.usb_walk.proofs.string_place.named_at.Given as goal

-- this many are to be passed over behind those below
abbrev pub invariant-loop-index : goal.invariant-loop-index
invariant-loop-index l = l.left + length (marked_before l.index l.words) ≡ l.number
