use Rattle.usb_find.proofs.Fresh.{fresh}
use Rattle.usb_find.proofs.series.find_with.Goals as goal

pub find_counted-requires-clause-kept : goal.find_counted-requires-clause-kept
find_counted-requires-clause-kept g c = fresh c.args.bytes.now _ c.new-kept.ensures.ways c.new-kept.ensures.walked
