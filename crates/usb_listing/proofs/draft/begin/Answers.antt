use Rattle.std.proofs.Common.{None, refl}
use Rattle.usb_listing.proofs.CountLemmas.{first_draft}
use Rattle.usb_listing.proofs.draft.begin.Goals as goal

pub returns : goal.returns
returns c = first_draft _ c.in-Ok.device c.args.bytes.now c.requires c.in-Ok.ensures.ok (λ i. record { device = c.in-Ok.device; sets = c.new.ensures i; other = None; strings = None }) refl refl
