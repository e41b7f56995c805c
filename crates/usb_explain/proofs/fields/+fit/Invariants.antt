use Rattle.std.proofs.Common.{length}
use Rattle.usb_explain.proofs.fields.+fit.Given as goal

-- fewer fields are left
abbrev pub decreases-fit : goal.decreases-fit
decreases-fit l = length l.fields.now
