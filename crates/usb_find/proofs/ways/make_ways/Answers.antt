use Rattle.usb_find.proofs.Leading.{from_suc}
use Rattle.usb_find.proofs.ways.make_ways.Goals as goal

pub make_way-requires-clause-after : goal.make_way-requires-clause-after
make_way-requires-clause-after g c = from_suc c.args.bytes.now c.args.base _ c.loop-left.left c.loop-left-test.true c.loop-left.invariant.0
