use Rattle.usb_find.proofs.Leading.{one_more}
use Rattle.usb_find.proofs.ways.make_way.Goals as goal

pub returns-clause-ways : goal.returns-clause-ways
returns-clause-ways g c =
    one_more c.args.bytes.now c.args.base c.args.ways.now c.args.index (record { outside = c.way_out-outside.result; inside = c.way_out-inside.result }) c.requires.index c.requires.after c.way_out-outside.ensures.out
    c.way_out-inside.ensures.out
