use Rattle.std.proofs.Common.{◌≡◌, length}
use Rattle.usb_hex.specs.Columns.{offset_value}
use Rattle.usb_hex.proofs.offset.offset_value.Given as goal

abbrev pub invariant-loop-rest : goal.invariant-loop-rest
invariant-loop-rest l = offset_value l.radix l.value l.rest ≡ offset_value l.radix 0 l.text

abbrev pub decreases-loop-rest : goal.decreases-loop-rest
decreases-loop-rest l = length l.rest
