use Rattle.std.proofs.Common.{◌∷◌, arith}
use Rattle.usb_walk.specs.Trees.{descriptors}
use Rattle.usb_remarks.specs.inside.Walking.{Gathers}
use Rattle.usb_remarks.proofs.Tables.{gathered_all, gathered_on, gathers_none}
use Rattle.usb_remarks.proofs.survey.survey.Goals as goal

pub loop-d-init : goal.loop-d-init
loop-d-init c = record {
  gathers = rw (c.none-evidence.ensures, c.clear.ensures, c.clear-2.ensures) (gathers_none (descriptors c.args.set.now));
  count = omega arith;
}

pub loop-d-preserved : goal.loop-d-preserved
loop-d-preserved c =
    let before : Gathers (descriptors c.args.set.now) c.loop-d.evidence c.loop-d.bindings c.loop-d.associations c.loop-d.interfaces (c.in-Some.d.now ∷ descriptors c.in-Some.behind.now) =
    rw c.in-Some.ensures.first at c.loop-d.invariant.gathers in
    record {
      gathers = rw c.add.ensures (gathered_on (descriptors c.args.set.now) c.loop-d.evidence c.loop-d.bindings c.loop-d.associations c.loop-d.interfaces c.in-Some.d.now
          (descriptors c.in-Some.behind.now) before _ _ _ c.add-associations.ensures.cells c.add-associations.ensures.binds c.add-in-Some.ensures.cells c.add-in-Some.ensures.numbers);
      count = omega (arith, c.add-associations.ensures.count, c.in-Some.ensures.least, c.in-Some.ensures.whole, c.loop-d.invariant.count);
    }

pub returns : goal.returns
returns c =
    gathered_all (descriptors c.args.set.now) c.loop-d.evidence c.loop-d.bindings c.loop-d.associations c.loop-d.interfaces
    (rw c.in_default.ensures.first at c.loop-d.invariant.gathers)
