use Rattle.usb_listing.proofs.WholeLemmas.{whole_then}
use Rattle.usb_listing.proofs.assembly.is_whole.Goals as goal

pub returns-then-has_all_sets : goal.returns-then-has_all_sets
returns-then-has_all_sets c =
    whole_then c.args.draft.now.file c.args.draft.now.total c.has_all_sets.result c.has_all_strings.result c.requires.begun c.requires.total
    c.has_all_sets.ensures c.if-has_all_sets.true c.has_all_strings.ensures
