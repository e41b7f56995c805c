use Rattle.std.proofs.Common.{◌≡◌, drop}
use Rattle.usb_bus.specs.Damaged.{bits_of, with_changed}
use Rattle.usb_bus.proofs.wire.change.change_bits.Given as goal

abbrev pub invariant-loop-change : goal.invariant-loop-change
invariant-loop-change l =
    record {
      left : with_changed (bits_of (drop l.change-index l.changes) l.transaction l.packet) l.bytes
          ≡ with_changed (bits_of l.changes l.transaction l.packet) l.initial.bytes;
    }
