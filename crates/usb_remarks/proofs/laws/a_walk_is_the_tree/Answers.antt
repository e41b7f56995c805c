use Rattle.usb_remarks.proofs.WalkedOutlines.{walk_is_tree}
use Rattle.usb_remarks.proofs.laws.a_walk_is_the_tree.Goals as goal

pub returns : goal.returns
returns c = walk_is_tree
