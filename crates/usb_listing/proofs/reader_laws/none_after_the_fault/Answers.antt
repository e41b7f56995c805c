use Rattle.usb_listing.proofs.LawLemmas.{judged, reached}
use Rattle.usb_listing.proofs.reader_laws.none_after_the_fault.Goals as goal

pub returns-clause-reached : goal.returns-clause-reached
returns-clause-reached c = reached

pub returns-clause-judged : goal.returns-clause-judged
returns-clause-judged c = judged
