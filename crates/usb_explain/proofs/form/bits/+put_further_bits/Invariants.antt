use Rattle.std.proofs.Common.{length}
use Rattle.usb_explain.proofs.form.bits.+put_further_bits.Given as goal

-- fewer bits are left
abbrev pub decreases-put_further_bits : goal.decreases-put_further_bits
decreases-put_further_bits g l = length l.bits.now
