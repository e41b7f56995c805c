use Rattle.usb_listing.proofs.CommentLemmas.{numbers_stay, text_stays, written_stays}
use Rattle.usb_listing.proofs.comment_laws.nothing_dropped.Goals as goal

pub returns-clause-text : goal.returns-clause-text
returns-clause-text c = text_stays

pub returns-clause-numbers : goal.returns-clause-numbers
returns-clause-numbers c = numbers_stay

pub returns-clause-written : goal.returns-clause-written
returns-clause-written c = written_stays
