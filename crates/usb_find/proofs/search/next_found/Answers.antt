use Rattle.usb_find.proofs.Standing.{none_first, some_first}
use Rattle.usb_find.proofs.search.next_found.Goals as goal

pub returns-clause-some : goal.returns-clause-some
returns-clause-some g c = some_first c.args.bytes.now c.args.start c.first_standing.result c.known_bytes.ensures c.first_standing.ensures.value

pub returns-clause-none : goal.returns-clause-none
returns-clause-none g c = none_first c.args.bytes.now c.args.start c.first_standing.result c.known_bytes.ensures c.first_standing.ensures.value
