use Rattle.usb_listing.proofs.FeedLemmas.{feed_found}
use Rattle.usb_listing.proofs.assembly.cut_line.Goals as goal

pub returns-in-Some-clause-some : goal.returns-in-Some-clause-some
returns-in-Some-clause-some c = feed_found c.args.text.now c.first_feed.result c.in-Some.end c.first_feed.ensures c.in-Some.is
