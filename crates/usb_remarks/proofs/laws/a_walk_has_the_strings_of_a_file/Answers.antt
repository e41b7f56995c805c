use Rattle.usb_remarks.proofs.WalkedOutlines.{walk_has_strings}
use Rattle.usb_remarks.proofs.laws.a_walk_has_the_strings_of_a_file.Goals as goal

pub returns : goal.returns
returns c = walk_has_strings
