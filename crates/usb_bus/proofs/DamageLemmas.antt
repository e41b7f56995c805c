-- Bytes of a packet in a room, and bits that change in them.
use Rattle.std.proofs.Common.{◌≡◌, ◌≤◌, ◌/◌, ℕ, List, ◌++◌, length, drop, take, sym, ap, ◌∙◌, arith}
use Rattle.std.proofs.lemmas.List.{length-append, set_past, take_at}
use Rattle.usb_wire.specs.Crc.{data_crc}
use Rattle.usb_wire.specs.Packets.{PacketView, TokenPacket, FramePacket, DataPacket, HandshakePacket, SplitPacket, PrePacket, IsLegal, packet_bytes, two_bytes}
use Rattle.usb_bus.specs.Damaged.{with_bit_changed}

-- the longest packet has 1,027 bytes
pub short : (p : PacketView) → IsLegal p → length (packet_bytes p) ≤ 1027
short (TokenPacket kind to) legal = omega arith
short (FramePacket number) legal = omega arith
short (DataPacket kind bytes) legal = let sum = length-append bytes (two_bytes (data_crc bytes)) in let few = legal.1 in omega (arith, sum, few)
short (HandshakePacket kind) legal = omega arith
short (SplitPacket fields) legal = omega arith
short PrePacket legal = omega arith

-- what was written at the beginning of a room
pub written : (bytes room out : List ℕ) (n : ℕ) → n ≡ length bytes → out ≡ bytes ++ drop n room → take n out ≡ bytes
written bytes room out n is put = ap (take n) put ∙ take_at bytes (drop n room) n (sym is)

pub none_to_change : (bytes : List ℕ) (n : ℕ) → length bytes ≤ n / 8 → with_bit_changed n bytes ≡ bytes
unfolding with_bit_changed
none_to_change bytes n past = set_past bytes (n / 8) _ past
