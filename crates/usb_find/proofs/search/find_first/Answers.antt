use Rattle.usb_find.proofs.Fresh.{fresh}
use Rattle.usb_find.proofs.search.find_first.Goals as goal

pub next_found-requires-clause-kept : goal.next_found-requires-clause-kept
next_found-requires-clause-kept g c = fresh c.args.bytes.now _ c.new-kept.ensures.ways c.new-kept.ensures.walked
