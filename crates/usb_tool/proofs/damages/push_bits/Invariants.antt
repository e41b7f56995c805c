use Rattle.std.proofs.Common.{◌≡◌, drop}
use Rattle.usb_tool.specs.Damages.{all_said, bit_said}
use Rattle.usb_tool.proofs.DamageLemmas.{with_rest}
use Rattle.usb_tool.proofs.damages.push_bits.Given as goal

abbrev pub invariant-loop-bit : goal.invariant-loop-bit
invariant-loop-bit l =
    record {
      read : with_rest l.initial.changes.items (all_said (λ x. bit_said l.transaction l.packet x.now) l.bit-items)
          ≡ with_rest l.changes.items (all_said (λ x. bit_said l.transaction l.packet x.now) (drop l.bit-index l.bit-items));
    }
