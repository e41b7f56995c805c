use Rattle.usb_remarks.proofs.WalkedOutlines.{walk_is_outline}
use Rattle.usb_remarks.proofs.laws.a_walk_is_the_outline.Goals as goal

pub returns : goal.returns
returns c = walk_is_outline
