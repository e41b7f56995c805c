-- Packets of the bus as numbers (USB 2.0, 8.3 and 8.4).
use Rattle.std.specs.Prelude.{◌≡◌, ℕ, ◌⊎◌, List, length, Option, Some, None, Result, Ok, Err}
use Rattle.usb_wire.specs.declared.damage.Damage.{Damage}
use Rattle.usb_wire.specs.declared.damage.Damage.TheVariants as damages
use Rattle.usb_wire.specs.declared.pid.Pid.{Pid}
use Rattle.usb_wire.specs.declared.pid.Pid.TheVariants as pids
use Rattle.usb_wire.specs.Damages.{pid_read}
use Rattle.usb_wire.specs.Packets.{PacketView, TokenPacket, FramePacket, DataPacket, HandshakePacket, SplitPacket, PrePacket, IsLegal, packet_bytes, pid_byte}
use Rattle.usb_c.specs.declared.packet.NzgPacketFields.{NzgPacketFields}
use Rattle.usb_c.specs.declared.answer.Verdict.{Verdict}
use Rattle.usb_c.specs.declared.answer.Verdict.TheVariants as verdicts
use Rattle.usb_c.specs.Answers.{Puts}

-- the number of a damage, and 0 of none
abbrev pub damage_number : Damage → ℕ
damage_number damages.Empty = 1
damage_number damages.Pid = 2
damage_number damages.Reserved = 3
damage_number damages.Length = 4
damage_number damages.Crc5 = 5
damage_number damages.Crc16 = 6

abbrev pub damage_reported : Option Damage → ℕ
damage_reported None = 0
damage_reported (Some damage) = damage_number damage

-- a packet as numbers: those of its fields, where its data are among its bytes, and 0 for what it does not have
abbrev pub of_pid : Pid → NzgPacketFields
of_pid pid = record { split = 0; frame = 0; place = 0; length = 0; pid = pid_byte pid; address = 0; endpoint = 0 }

abbrev pub fields_of : PacketView → NzgPacketFields
fields_of (TokenPacket kind to) = record (of_pid (pids.Token kind)) { address = to.address; endpoint = to.endpoint }
fields_of (FramePacket number) = record (of_pid pids.StartOfFrame) { frame = number }
fields_of (DataPacket kind bytes) = record (of_pid (pids.Data kind)) { place = 1; length = length bytes }
fields_of (HandshakePacket kind) = of_pid (pids.Handshake kind)
fields_of (SplitPacket fields) = record (of_pid pids.Split) { split = fields }
fields_of PrePacket = of_pid pids.Pre

-- the packet that numbers are, with these data, where they begin with a PID
abbrev pub packet_with : Result Pid Damage → NzgPacketFields → List ℕ → Option PacketView
packet_with (Ok (pids.Token kind)) f bytes = Some (TokenPacket kind (record { address = f.address; endpoint = f.endpoint }))
packet_with (Ok pids.StartOfFrame) f bytes = Some (FramePacket f.frame)
packet_with (Ok (pids.Data kind)) f bytes = Some (DataPacket kind bytes)
packet_with (Ok (pids.Handshake kind)) f bytes = Some (HandshakePacket kind)
packet_with (Ok pids.Split) f bytes = Some (SplitPacket f.split)
packet_with (Ok pids.Pre) f bytes = Some PrePacket
packet_with (Err damage) f bytes = None

abbrev pub packet_given : NzgPacketFields → List ℕ → Option PacketView
packet_given f bytes = packet_with (pid_read f.pid) f bytes

-- the bytes are those of a packet, and it is reported
pub record TellsPacket (b : List ℕ) (new : NzgPacketFields) : Type 0 where
  pub packet : PacketView
  pub legal : IsLegal packet
  pub bytes : b ≡ packet_bytes packet
  pub fields : new ≡ fields_of packet

-- they are, or they have this damage, and nothing changes
abbrev pub Parses : List ℕ → Option Damage → NzgPacketFields → NzgPacketFields → Type 0
Parses b None old new = TellsPacket b new
Parses b (Some damage) old new = new ≡ old

-- The bytes of a packet whose fields fit are put into the buffer; of any other the buffer is as it was.
abbrev pub WritesPacket : Option PacketView → List ℕ → List ℕ → Verdict → Type 0
WritesPacket None old new verdict = (verdict ≡ verdicts.BadArgument 12) × (new ≡ old)
WritesPacket (Some p) old new verdict =
    (IsLegal p × Puts verdicts.Done (packet_bytes p) old new verdict)
    ⊎ ((IsLegal p → ⊥) × (verdict ≡ verdicts.BadArgument 12) × (new ≡ old))
