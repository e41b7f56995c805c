use Rattle.usb_file_data.proofs.SetsAhead.{one_more}
use Rattle.usb_file_data.proofs.likeness.after_sets.Goals as goal

pub loop-preserved : goal.loop-preserved
loop-preserved c = cc (one_more c.loop.counter c.args.b.now)
