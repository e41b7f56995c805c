use Rattle.std.proofs.Common.{◌≡◌, length}
use Rattle.usb_hex.specs.HexItems.{is_gap}
use Rattle.usb_hex.specs.Columns.{after_all}
use Rattle.usb_hex.proofs.hexadecimal.after_gaps.Given as goal

abbrev pub invariant-loop-rest : goal.invariant-loop-rest
invariant-loop-rest l = after_all is_gap l.rest ≡ after_all is_gap l.text

abbrev pub decreases-loop-rest : goal.decreases-loop-rest
decreases-loop-rest l = length l.rest
