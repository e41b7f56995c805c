use Rattle.usb_listing.proofs.DraftLemmas.{joined_there, joins_there}
use Rattle.usb_listing.proofs.draft.add_to_last.Goals as goal

pub add_to_set-requires : goal.add_to_set-requires
add_to_set-requires c = joins_there c.args.bytes.now c.args.sets.now c.at_mut.result.now c.len-last.result c.len-last.ensures c.at_mut.ensures.value c.requires

pub returns : goal.returns
returns c =
    joined_there c.add_to_set.result c.args.bytes.now c.args.sets.now c.at_mut.result.now c.add_to_set.new.c c.len-last.result c.len-last.ensures c.at_mut.ensures.value c.requires c.add_to_set.ensures
