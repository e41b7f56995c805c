-- What fits in a packet of endpoint zero (USB 2.0, 5.5.3).
use Rattle.std.specs.Prelude.{◌≤◌, length}
use Rattle.usb_fields.specs.Packets.{Reply, AckReply, NakReply, StallReply, DataReply, NoReply}

-- a reply of at most 64 bytes
abbrev pub HasRoom : Reply → Type 0
HasRoom AckReply = Unit {0}
HasRoom NakReply = Unit {0}
HasRoom StallReply = Unit {0}
HasRoom (DataReply toggle bytes) = length bytes ≤ 64
HasRoom NoReply = Unit {0}
