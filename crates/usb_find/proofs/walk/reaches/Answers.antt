use Rattle.std.proofs.Common.{sym, ◌∙◌, arith}
use Rattle.usb_find.proofs.Reaching.{ahead, arrives, onward, stuck}
use Rattle.usb_find.proofs.walk.reaches.Goals as goal

pub loop-spot-preserved : goal.loop-spot-preserved
loop-spot-preserved g c =
    let next = sym c.in-Some.ensures.value in
    let more = ahead c.args.bytes.now c.loop-spot.spot c.in-Some.next next in
    let i = c.loop-spot.invariant in (
      i.0 ∙ onward c.args.bytes.now c.loop-spot.spot c.in-Some.next c.args.end c.loop-spot-test.true next,
      omega (arith, i.1, c.in-Some.ensures.looks),
      omega (arith, more, i.1, i.2, i.4, c.in-Some.ensures.looks),
      omega (arith, more, i.1, i.2, i.4, c.loop-spot-test.true, c.in-Some.ensures.looks),
      omega (arith, more, i.4),
    )

pub returns-in-None-clause-value : goal.returns-in-None-clause-value
returns-in-None-clause-value g c = sym (c.loop-spot.invariant.0 ∙ stuck c.args.bytes.now c.loop-spot.spot c.args.end c.loop-spot-test.true (sym c.in-None.ensures.value))

pub returns-clause-value : goal.returns-clause-value
returns-clause-value g c = arrives c.args.bytes.now c.loop-spot.spot c.args.end (omega (arith, c.loop-spot-test.false)) (omega (arith, c.requires)) ∙ sym c.loop-spot.invariant.0
