use Rattle.std.proofs.Common.{arith}
use Rattle.usb_file.proofs.Rows.{next_set, one_more}
use Rattle.usb_file.proofs.sets.read_sets.Goals as goal

pub sets-preserved : goal.sets-preserved
sets-preserved c =
    let next = c.in_ok-end.ensures.ok in
    let below = c.sets-test.true in
    let grown = one_more c.sets.sets c.read_next_set.new.sets next.set next.grown in (
      next_set c.args.kind c.args.b.now c.args.place c.sets.sets c.sets.end c.read_next_set.new.sets c.in_ok-end.end c.sets.invariant.0 next,
      omega (arith, grown, c.len.ensures, c.from.ensures),
    )
