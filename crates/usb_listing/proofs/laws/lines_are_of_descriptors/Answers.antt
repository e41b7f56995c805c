use Rattle.usb_listing.proofs.LineLemmas.{set_is}
use Rattle.usb_listing.proofs.laws.lines_are_of_descriptors.Goals as goal

pub returns : goal.returns
returns c = set_is
