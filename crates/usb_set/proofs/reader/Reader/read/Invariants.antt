use Rattle.std.proofs.Common.{◌≡◌, ◌≤◌, ◌+◌, ◌-◌, length, take}
use Rattle.usb_set.specs.inside.Reading.{reads}
use Rattle.usb_set.specs.inside.Stepping.{InWork, taken}
use Rattle.usb_set.proofs.reader.Reader.read.Given as goal

abbrev pub invariant-loop-used : goal.invariant-loop-used
invariant-loop-used l = (l.used ≤ length l.piece) × (reads l.fn.self (take l.used l.piece) ≡ l.self) × (taken l.self ≡ taken l.fn.self + l.used) × InWork l.self

abbrev pub decreases-loop-used : goal.decreases-loop-used
decreases-loop-used l = length l.piece - l.used
