use Rattle.std.proofs.Common.{arith, refl}
use Rattle.usb_file_data.proofs.Sorting.{ends_next, in_order_next}
use Rattle.usb_file_data.proofs.order.is_by_rule.Goals as goal

pub loop-one-preserved : goal.loop-one-preserved
loop-one-preserved c =
    let xs = c.args.found.now in
    let i = c.loop-one.one-index in
    let inv = c.loop-one.invariant in
    let below = c.loop-one-test.true in
    let up = c.if-one-last.false in
    record {
      some = omega (arith, inv.some, up);
      ends = ends_next xs i c.loop-one.last _ _ below refl up inv.ends;
      same = λ last. in_order_next xs i c.loop-one.last _ _ below refl inv.some up last inv.ends (inv.same (omega (arith, up, last)));
    }
