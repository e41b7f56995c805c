use Rattle.std.proofs.Common.{◌≡◌, ◌++◌, drop}
use Rattle.usb_bus.specs.Damaged.{bits_of}
use Rattle.usb_bus.specs.PacketLines.{listed}
use Rattle.usb_bus.proofs.wire.packet_lines.put_numbers.Given as goal

abbrev pub invariant-loop-change : goal.invariant-loop-change
invariant-loop-change l =
    record {
      left : l.text ++ listed (bits_of (drop l.change-index l.damages.changes.now) l.damages.transaction l.number)
          ≡ l.initial.text ++ listed (bits_of l.damages.changes.now l.damages.transaction l.number);
    }
