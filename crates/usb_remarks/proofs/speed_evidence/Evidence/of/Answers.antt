use Rattle.usb_walk.specs.Trees.{descriptors}
use Rattle.usb_remarks.proofs.Tables.{collects_none, receives_on}
use Rattle.usb_remarks.proofs.speed_evidence.Evidence.of.Goals as goal

pub loop-d-init : goal.loop-d-init
loop-d-init c = rw c.none-evidence.ensures (collects_none (descriptors c.args.sets.now))

pub loop-d-preserved : goal.loop-d-preserved
loop-d-preserved c =
    rw c.add.ensures (receives_on (descriptors c.args.sets.now) c.loop-d.evidence c.in-Some.d.now (descriptors c.in-Some.behind.now) (rw c.in-Some.ensures.first at c.loop-d.invariant))
