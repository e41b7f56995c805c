use Rattle.std.proofs.Common.{arith}
use Rattle.std.proofs.lemmas.Bool.{eq-eqb}
use Rattle.usb_remarks.proofs.Telling.{one_on}
use Rattle.usb_remarks.proofs.outline_state.OutlineState.count_here.Goals as goal

pub loop-one-preserved : goal.loop-one-preserved
loop-one-preserved c =
    let more = one_on c.args.self.now c.args.found.now c.loop-one.one-index _ c.loop-one-test.true (eq-eqb _ _ c.if-one-self.false) in
    record {
      count = omega (arith, more, c.loop-one.invariant.count);
      before = omega (arith, c.loop-one.invariant.before);
    }

pub overflow_add-count : goal.overflow_add-count
overflow_add-count c = omega (arith, c.loop-one.invariant.before, c.loop-one-test.true)
