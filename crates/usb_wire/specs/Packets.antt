-- The packets of the bus and their bytes (USB 2.0, 8.3 and 8.4).
use Rattle.std.specs.Prelude.{ℕ, ◌+◌, ◌-◌, ◌*◌, ◌/◌, ◌%◌, ◌<◌, ◌≤◌, List, [], ◌∷◌, ◌++◌, length}
use Rattle.std.specs.List.{AllByRecursion}
use Rattle.usb_wire.specs.declared.pid.TokenKind.{TokenKind}
use Rattle.usb_wire.specs.declared.pid.TokenKind.TheVariants as tokens
use Rattle.usb_wire.specs.declared.pid.DataKind.{DataKind}
use Rattle.usb_wire.specs.declared.pid.DataKind.TheVariants as datas
use Rattle.usb_wire.specs.declared.pid.Handshake.{Handshake}
use Rattle.usb_wire.specs.declared.pid.Handshake.TheVariants as handshakes
use Rattle.usb_wire.specs.declared.pid.Pid.{Pid}
use Rattle.usb_wire.specs.declared.pid.Pid.TheVariants as pids
use Rattle.usb_wire.specs.declared.address.AddressFields.{AddressFields}
use Rattle.usb_wire.specs.declared.packet.Packet.{Packet}
use Rattle.usb_wire.specs.declared.packet.Packet.TheVariants as packets
use Rattle.usb_wire.specs.Crc.{token_crc, data_crc}

-- a number that one byte holds
abbrev pub IsByte : ℕ → Type 0
IsByte x = x < 256

-- each of these numbers is a byte
abbrev pub AreBytes : List ℕ → Type 0
AreBytes b = AllByRecursion IsByte b

-- Packet identifiers (8.3.1).

-- the four bits of a PID (table 8-1)
abbrev pub pid_number : Pid → ℕ
pid_number (pids.Token tokens.Out) = 1
pid_number (pids.Token tokens.In) = 9
pid_number pids.StartOfFrame = 5
pid_number (pids.Token tokens.Setup) = 13
pid_number (pids.Data datas.Data0) = 3
pid_number (pids.Data datas.Data1) = 11
pid_number (pids.Data datas.Data2) = 7
pid_number (pids.Data datas.MData) = 15
pid_number (pids.Handshake handshakes.Ack) = 2
pid_number (pids.Handshake handshakes.Nak) = 10
pid_number (pids.Handshake handshakes.Stall) = 14
pid_number (pids.Handshake handshakes.Nyet) = 6
pid_number pids.Pre = 12
pid_number pids.Split = 8
pid_number (pids.Token tokens.Ping) = 4

-- the byte of a PID: its four bits, and above them their complement, the check bits
abbrev pub pid_byte : Pid → ℕ
pid_byte pid = pid_number pid + 16 * (15 - pid_number pid)

-- Fields with their CRC.

-- the two bytes of a 16-bit number, the low byte first, and the three of a 24-bit number
abbrev pub two_bytes : ℕ → List ℕ
two_bytes n = n % 256 ∷ n / 256 ∷ []

abbrev pub three_bytes : ℕ → List ℕ
three_bytes n = n % 256 ∷ n / 256 % 256 ∷ n / 65536 ∷ []

-- the 11 bits of a token or of a start of frame, and above them their CRC (8.4.1, 8.4.3)
abbrev pub token_field : ℕ → List ℕ
token_field n = two_bytes (n + 2048 * token_crc 11 n)

-- the 19 bits of a SPLIT, and above them their CRC (8.4.2)
abbrev pub split_field : ℕ → List ℕ
split_field n = three_bytes (n + 524288 * token_crc 19 n)

-- data and their CRC (8.4.4)
abbrev pub data_field : List ℕ → List ℕ
data_field b = b ++ two_bytes (data_crc b)

-- Packets, without where their bytes lie.
pub data PacketView : Type 0 where
  TokenPacket : (kind : TokenKind) → (to : AddressFields) → PacketView
  FramePacket : (number : ℕ) → PacketView
  DataPacket : (kind : DataKind) → (bytes : List ℕ) → PacketView
  HandshakePacket : (kind : Handshake) → PacketView
  SplitPacket : (fields : ℕ) → PacketView
  PrePacket : PacketView

abbrev pub view_of : Packet → PacketView
view_of (packets.Token kind to) = TokenPacket kind to
view_of (packets.StartOfFrame number) = FramePacket number
view_of (packets.Data kind bytes) = DataPacket kind bytes.now
view_of (packets.Handshake kind) = HandshakePacket kind
view_of (packets.Split fields) = SplitPacket fields
view_of packets.Pre = PrePacket

-- whether the fields fit: 7 and 4 bits, 11 bits, 1,024 bytes, 19 bits (8.3.2, 8.3.3, 8.3.4, 8.4.2)
abbrev pub IsLegal : PacketView → Type 0
IsLegal (TokenPacket kind to) = (to.address < 128) × (to.endpoint < 16)
IsLegal (FramePacket number) = number < 2048
IsLegal (DataPacket kind bytes) = AreBytes bytes × (length bytes ≤ 1024)
IsLegal (HandshakePacket kind) = Unit {0}
IsLegal (SplitPacket fields) = fields < 524288
IsLegal PrePacket = Unit {0}

-- the PID of a packet, and what follows it
abbrev pub pid_of : PacketView → Pid
pid_of (TokenPacket kind to) = pids.Token kind
pid_of (FramePacket number) = pids.StartOfFrame
pid_of (DataPacket kind bytes) = pids.Data kind
pid_of (HandshakePacket kind) = pids.Handshake kind
pid_of (SplitPacket fields) = pids.Split
pid_of PrePacket = pids.Pre

-- the 11 bits of a token: the device's address, and above it the number of its endpoint (8.3.2)
abbrev pub address_bits : AddressFields → ℕ
address_bits to = to.address + 128 * to.endpoint

abbrev pub body_of : PacketView → List ℕ
body_of (TokenPacket kind to) = token_field (address_bits to)
body_of (FramePacket number) = token_field number
body_of (DataPacket kind bytes) = data_field bytes
body_of (HandshakePacket kind) = []
body_of (SplitPacket fields) = split_field fields
body_of PrePacket = []

-- the bytes of a packet in the order in which they are sent, from its PID to its CRC (8.4)
abbrev pub packet_bytes : PacketView → List ℕ
packet_bytes p = pid_byte (pid_of p) ∷ body_of p
