use Rattle.usb_listing.proofs.CommentLawLemmas.{reached_commented}
use Rattle.usb_listing.proofs.comment_laws.none_after_the_fault.Goals as goal

pub returns : goal.returns
returns c = reached_commented
