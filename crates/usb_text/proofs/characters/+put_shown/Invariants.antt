use Rattle.std.proofs.Common.{length}
use Rattle.usb_text.proofs.characters.+put_shown.Given as goal

abbrev pub decreases-put_shown : goal.decreases-put_shown
decreases-put_shown l = length l.units.now
