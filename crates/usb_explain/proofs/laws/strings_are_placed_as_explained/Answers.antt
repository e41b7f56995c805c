use Rattle.usb_explain.proofs.StringsShown.{walk_is_as_explained}
use Rattle.usb_explain.proofs.laws.strings_are_placed_as_explained.Goals as goal

pub returns : goal.returns
returns c = walk_is_as_explained
