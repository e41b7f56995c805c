use Rattle.std.proofs.Common.{length}
use Rattle.usb_text.proofs.shown.+put_escaped_in.Given as goal

abbrev pub decreases-put_escaped_in : goal.decreases-put_escaped_in
decreases-put_escaped_in l = length l.b.now
