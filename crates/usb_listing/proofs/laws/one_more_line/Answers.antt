use Rattle.usb_listing.proofs.LineLemmas.{line_more}
use Rattle.usb_listing.proofs.laws.one_more_line.Goals as goal

pub returns : goal.returns
returns c = line_more
