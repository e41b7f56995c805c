use Rattle.std.proofs.Common.{arith}
use Rattle.usb_listing.proofs.ListingLengthLemmas.{lines_at_most}
use Rattle.usb_listing.proofs.laws.listings_fit.Goals as goal

pub returns : goal.returns
returns c = λ f b h. omega (arith, lines_at_most f b h)
