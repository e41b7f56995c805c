use Rattle.std.proofs.Common.{sym, ◌∙◌, arith}
use Rattle.usb_find.proofs.Leading.{hops, hops_not}
use Rattle.usb_find.proofs.ways.near.Goals as goal

pub loop-spot-preserved : goal.loop-spot-preserved
loop-spot-preserved g c =
    let i = c.loop-spot.invariant in
    let h = hops c.args.bytes.now c.args.base c.args.ways.now c.loop-spot.spot c.in-Some.next c.args.end c.requires.ways (omega arith) c.requires.end.0 c.requires.end.1 c.loop-spot-test.true (sym c.in-Some.ensures.value) in (
      i.0 ∙ h.same,
      omega (arith, i.1, h.after),
      omega (arith, i.2, c.in-Some.ensures.looks),
      omega (arith, i.3, h.block, c.in-Some.ensures.looks),
      omega (arith, i.3, i.4, c.loop-spot-test.true, c.in-Some.ensures.looks),
    )

pub returns-in-None-clause-none : goal.returns-in-None-clause-none
returns-in-None-clause-none g c =
    c.loop-spot.invariant.0
    ∙ hops_not c.args.bytes.now c.args.base c.args.ways.now c.loop-spot.spot c.args.end c.requires.ways (omega arith) c.requires.end.0 c.requires.end.1 c.loop-spot-test.true (sym c.in-None.ensures.value)

pub loop-spot-smaller : goal.loop-spot-smaller
loop-spot-smaller g c =
    let h = hops c.args.bytes.now c.args.base c.args.ways.now c.loop-spot.spot c.in-Some.next c.args.end c.requires.ways (omega arith) c.requires.end.0 c.requires.end.1 c.loop-spot-test.true (sym c.in-Some.ensures.value) in
    omega (arith, h.block, c.loop-spot-test.true)
