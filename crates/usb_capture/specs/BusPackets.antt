-- Frames that are packets of the bus.
use Rattle.std.specs.Prelude.{◌≡◌, ℕ, ◌==◌, ◌||◌, Bool, true, Option, Some, Result, Ok, Err, nat_lt, if◌then◌else◌}
use Rattle.std.specs.Option.{option_map}
use Rattle.usb_wire.specs.declared.packet.Packet.{Packet}
use Rattle.usb_wire.specs.Damages.{damage_of}
use Rattle.usb_wire.specs.Packets.{IsLegal, packet_bytes, view_of}
use Rattle.usb_capture.specs.declared.bus_packet.PacketFault.{PacketFault}
use Rattle.usb_capture.specs.declared.bus_packet.PacketFault.TheVariants.{Link, Cut, Damaged}
use Rattle.usb_capture.specs.declared.frame.Frame.{Frame}

-- the link types of USB 2.0, and of its packets at low, full and high speed
abbrev pub is_of_bus : ℕ → Bool
is_of_bus link = link == 288 || link == 293 || link == 294 || link == 295

-- the first fault of a frame as a packet
abbrev pub packet_fault : Frame → Option PacketFault
packet_fault frame =
    if is_of_bus frame.link then (if nat_lt frame.captured frame.original then Some Cut else option_map Damaged (damage_of frame.bytes))
    else Some Link

-- the packet that a frame is, or its fault
abbrev pub IsPacketOf : Frame → Result Packet PacketFault → Type 0
IsPacketOf frame (Ok packet) = (is_of_bus frame.link ≡ true) × (frame.bytes ≡ packet_bytes (view_of packet)) × IsLegal (view_of packet)
IsPacketOf frame (Err fault) = packet_fault frame ≡ Some fault
