use Rattle.std.proofs.Common.{length}
use Rattle.usb_walk.specs.Trees.{descriptors}
use Rattle.usb_remarks.specs.inside.Walking.{Collects}
use Rattle.usb_remarks.proofs.speed_evidence.Evidence.of.Given as goal

abbrev pub invariant-loop-d : goal.invariant-loop-d
invariant-loop-d l = Collects (descriptors l.sets) l.evidence (descriptors l.rest)

abbrev pub decreases-loop-d : goal.decreases-loop-d
decreases-loop-d l = length l.rest
