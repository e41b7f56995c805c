use Rattle.std.proofs.Common.{length}
use Rattle.usb_hex.proofs.comment.+begins_word_of.Given as goal

abbrev pub decreases-begins_word_of : goal.decreases-begins_word_of
decreases-begins_word_of l = length l.name.now
