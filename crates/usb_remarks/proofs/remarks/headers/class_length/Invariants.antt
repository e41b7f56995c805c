use Rattle.std.proofs.Common.{◌≡◌, ◌≤◌, ◌+◌, length}
use Rattle.usb_walk.specs.Trees.{descriptors}
use Rattle.usb_remarks.specs.HeaderRemarks.{class_length}
use Rattle.usb_remarks.proofs.remarks.headers.class_length.Given as goal

abbrev pub invariant-loop-length : goal.invariant-loop-length
invariant-loop-length l = record {
  counts : class_length (descriptors l.set) ≡ class_length (descriptors l.rest) + l.count;
  room : l.count + length l.rest ≤ length l.set;
}

abbrev pub decreases-loop-length : goal.decreases-loop-length
decreases-loop-length l = length l.rest
