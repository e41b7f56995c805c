use Rattle.std.proofs.Common.{◌≡◌, ◌≤◌, ◌<◌, ◌+◌, ℕ, length, slice_index}
use Rattle.usb_walk.specs.Trees.{descriptors}
use Rattle.usb_remarks.specs.inside.Coming.{interfaces_of}
use Rattle.usb_remarks.proofs.later_interfaces.LaterInterfaces.begin.Given as goal

abbrev pub invariant-loop-d : goal.invariant-loop-d
invariant-loop-d l = record {
  cells : length l.self ≡ 256;
  each : (n : ℕ) → n < 256 → slice_index l.self n + interfaces_of n (descriptors l.rest) ≡ interfaces_of n (descriptors l.set);
  room : (n : ℕ) → n < 256 → slice_index l.self n + length l.rest ≤ length l.set;
}

abbrev pub decreases-loop-d : goal.decreases-loop-d
decreases-loop-d l = length l.rest
