use Rattle.std.proofs.Common.{refl}
use Rattle.usb_listing.proofs.CountLemmas.{described_draft}
use Rattle.usb_listing.proofs.draft.add_described.Goals as goal

pub returns-in-Ok-clause-ok : goal.returns-in-Ok-clause-ok
returns-in-Ok-clause-ok c =
    described_draft c.args.draft.now _ c.args.word c.args.bytes.now c.requires.holds c.requires.item c.requires.may c.in-Ok.ensures c.work_with-work.ensures c.if-work-gt-LONGEST.false refl
