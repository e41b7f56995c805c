use Rattle.std.proofs.Common.{◌≡◌, false, length}
use Rattle.usb_hex.specs.Labels.{is_declaration}
use Rattle.usb_hex.proofs.label.is_declaration.Given as goal

abbrev pub invariant-loop-rest : goal.invariant-loop-rest
invariant-loop-rest l = is_declaration l.named l.last l.rest ≡ is_declaration false 32 l.text

abbrev pub decreases-loop-rest : goal.decreases-loop-rest
decreases-loop-rest l = length l.rest
