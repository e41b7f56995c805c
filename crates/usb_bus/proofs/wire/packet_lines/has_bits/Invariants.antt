use Rattle.std.proofs.Common.{◌≡◌, drop}
use Rattle.usb_bus.specs.Damaged.{bits_of}
use Rattle.usb_bus.specs.PacketLines.{has_bits}
use Rattle.usb_bus.proofs.wire.packet_lines.has_bits.Given as goal

abbrev pub invariant-loop-change : goal.invariant-loop-change
invariant-loop-change l =
    record {
      left : has_bits (bits_of (drop l.change-index l.damages.changes.now) l.damages.transaction l.number)
          ≡ has_bits (bits_of l.damages.changes.now l.damages.transaction l.number);
    }
