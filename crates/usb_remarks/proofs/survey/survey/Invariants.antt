use Rattle.std.proofs.Common.{◌≤◌, ◌+◌, length}
use Rattle.usb_walk.specs.Trees.{descriptors}
use Rattle.usb_remarks.specs.inside.Walking.{Gathers}
use Rattle.usb_remarks.proofs.survey.survey.Given as goal

abbrev pub invariant-loop-d : goal.invariant-loop-d
invariant-loop-d l = record {
  gathers : Gathers (descriptors l.set) l.evidence l.bindings l.associations l.interfaces (descriptors l.rest);
  count : l.associations + length l.rest ≤ length l.set;
}

abbrev pub decreases-loop-d : goal.decreases-loop-d
decreases-loop-d l = length l.rest
