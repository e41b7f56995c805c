use Rattle.std.proofs.Common.{length}
use Rattle.usb_text.proofs.characters.+put_shown_in.Given as goal

abbrev pub decreases-put_shown_in : goal.decreases-put_shown_in
decreases-put_shown_in l = length l.b.now
