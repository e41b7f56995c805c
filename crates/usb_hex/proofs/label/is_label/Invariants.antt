use Rattle.std.proofs.Common.{◌≡◌, false, length}
use Rattle.usb_hex.specs.Labels.{is_label}
use Rattle.usb_hex.proofs.label.is_label.Given as goal

abbrev pub invariant-loop-rest : goal.invariant-loop-rest
invariant-loop-rest l = is_label l.named l.rest ≡ is_label false l.text

abbrev pub decreases-loop-rest : goal.decreases-loop-rest
decreases-loop-rest l = length l.rest
