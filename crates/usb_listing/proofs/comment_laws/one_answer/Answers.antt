use Rattle.usb_listing.proofs.CommentLawLemmas.{commented_or_fault, not_both_commented, one_commented_fault}
use Rattle.usb_listing.proofs.comment_laws.one_answer.Goals as goal

pub returns-clause-some : goal.returns-clause-some
returns-clause-some c = commented_or_fault

pub returns-clause-one_fault : goal.returns-clause-one_fault
returns-clause-one_fault c = one_commented_fault

pub returns-clause-not_both : goal.returns-clause-not_both
returns-clause-not_both c = not_both_commented
