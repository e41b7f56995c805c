use Rattle.std.proofs.Common.{length}
use Rattle.usb_explain.proofs.form.bits.+put_bits_meaning.Given as goal

-- fewer bits are left
abbrev pub decreases-put_bits_meaning : goal.decreases-put_bits_meaning
decreases-put_bits_meaning g l = length l.bits.now
