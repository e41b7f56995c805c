use Rattle.usb_listing.proofs.CountLemmas.{string_draft_if}
use Rattle.usb_listing.proofs.draft.add_string.Goals as goal

pub returns : goal.returns
returns c = string_draft_if c.push_string.result c.args.draft.now c.push_string.new.f c.args.units c.requires.holds c.requires.item c.requires.may c.push_string.ensures
