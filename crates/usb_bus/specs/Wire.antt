-- A transaction as packets of bytes, on a bus that loses some of them and changes few bits of others (USB 2.0, 8.4 to 8.7).
use Rattle.std.specs.Prelude.{◌≡◌, ◌⊎◌, ◌==◌, ◌+◌, ℕ, not, List, [], ◌∷◌, Bool, true, false, if◌then◌else◌, Option, Some, None, IsSome}
use Rattle.usb_wire.specs.declared.pid.TokenKind.{TokenKind}
use Rattle.usb_wire.specs.declared.pid.TokenKind.TheVariants as tokens
use Rattle.usb_wire.specs.declared.pid.DataKind.{DataKind}
use Rattle.usb_wire.specs.declared.pid.DataKind.TheVariants as datas
use Rattle.usb_wire.specs.declared.pid.Handshake.TheVariants as handshakes
use Rattle.usb_wire.specs.Packets.{PacketView, TokenPacket, DataPacket, HandshakePacket, AreBytes, IsLegal, packet_bytes}
use Rattle.usb_wire.specs.Changes.{IsSlightlyDamaged}
use Rattle.usb_wire.specs.Damages.{damage_of}
use Rattle.usb_fields.specs.declared.packet.Toggle.{Toggle}
use Rattle.usb_fields.specs.declared.packet.Toggle.TheVariants as toggles
use Rattle.usb_fields.specs.declared.setup.Setup.{Setup}
use Rattle.usb_fields.specs.Packets.{Token, SetupToken, InToken, OutToken, Sent, Reply, AckReply, NakReply, StallReply, DataReply, NoReply}
use Rattle.usb_device.specs.declared.state.State.{State}
use Rattle.usb_device.specs.Requests.{Outcome}
use Rattle.usb_device.specs.Step.{DeviceView, Served, served, acked}
use Rattle.usb_bus.specs.Bus.{is_data}

-- The packets of a transaction with endpoint zero (8.5.3).

-- the token
abbrev pub token_kind : Token → TokenKind
token_kind (SetupToken bytes) = tokens.Setup
token_kind InToken = tokens.In
token_kind (OutToken toggle bytes) = tokens.Out

abbrev pub token_packet : Sent → PacketView
token_packet s = TokenPacket (token_kind s.token) (record { address = s.address; endpoint = 0 })

-- the data packet after a SETUP or an OUT; that of a SETUP is DATA0
abbrev pub data_kind : Toggle → DataKind
data_kind toggles.Data0 = datas.Data0
data_kind toggles.Data1 = datas.Data1

abbrev pub data_packet : Token → Option PacketView
data_packet (SetupToken bytes) = Some (DataPacket datas.Data0 bytes)
data_packet InToken = None
data_packet (OutToken toggle bytes) = Some (DataPacket (data_kind toggle) bytes)

-- what a device answers
abbrev pub reply_packet : Reply → Option PacketView
reply_packet AckReply = Some (HandshakePacket handshakes.Ack)
reply_packet NakReply = Some (HandshakePacket handshakes.Nak)
reply_packet StallReply = Some (HandshakePacket handshakes.Stall)
reply_packet (DataReply toggle bytes) = Some (DataPacket (data_kind toggle) bytes)
reply_packet NoReply = None

-- what a host sends after what it has received: an ACK of data
abbrev pub ack_packet : Reply → Option PacketView
ack_packet reply = if is_data reply then Some (HandshakePacket handshakes.Ack) else None

-- What becomes of a packet.

-- It arrives as it was sent, or slightly damaged, or not at all.
abbrev pub Arrives : PacketView → List ℕ → Type 0
Arrives p bytes = (bytes ≡ packet_bytes p) ⊎ ((AreBytes bytes × IsSlightlyDamaged p bytes) ⊎ (bytes ≡ []))

-- A receiver takes the bytes of a packet for that packet, and ignores any others (8.7.1).
abbrev pub Receives : List ℕ → Option PacketView → Type 0
Receives bytes None = IsSome (damage_of bytes)
Receives bytes (Some p) = IsLegal p × (packet_bytes p ≡ bytes)

-- A packet is sent, which is a legal one, and this is received of it.
pub record IsReceived (p : PacketView) (received : Option PacketView) : Type 0 where
  pub legal : IsLegal p
  pub bytes : List ℕ
  pub arrives : Arrives p bytes
  pub receives : Receives bytes received

-- the same where there may be no packet, of which nothing is received
abbrev pub IsReceivedOf : Option PacketView → Option PacketView → Type 0
IsReceivedOf None received = received ≡ None
IsReceivedOf (Some p) received = IsReceived p received

-- What the two ends make of what they receive.

-- a device, of a token to its endpoint zero and of what comes after the token
abbrev pub received_token : TokenKind → ℕ → Option PacketView → Option Sent
received_token tokens.In address after = Some (record { address = address; token = InToken })
received_token tokens.Setup address (Some (DataPacket datas.Data0 bytes)) = Some (record { address = address; token = SetupToken bytes })
received_token tokens.Setup address after = None
received_token tokens.Out address (Some (DataPacket datas.Data0 bytes)) = Some (record { address = address; token = OutToken toggles.Data0 bytes })
received_token tokens.Out address (Some (DataPacket datas.Data1 bytes)) = Some (record { address = address; token = OutToken toggles.Data1 bytes })
received_token tokens.Out address after = None
received_token tokens.Ping address after = None

abbrev pub received_sent : Option PacketView → Option PacketView → Option Sent
received_sent (Some (TokenPacket kind to)) after = if to.endpoint == 0 then received_token kind to.address after else None
received_sent other after = None

-- a host, of an answer: what is none is silence (8.7.2)
abbrev pub received_reply : Option PacketView → Reply
received_reply (Some (HandshakePacket handshakes.Ack)) = AckReply
received_reply (Some (HandshakePacket handshakes.Nak)) = NakReply
received_reply (Some (HandshakePacket handshakes.Stall)) = StallReply
received_reply (Some (DataPacket datas.Data0 bytes)) = DataReply toggles.Data0 bytes
received_reply (Some (DataPacket datas.Data1 bytes)) = DataReply toggles.Data1 bytes
received_reply other = NoReply

-- a device, of a host's ACK
abbrev pub is_ack : Option PacketView → Bool
is_ack (Some (HandshakePacket handshakes.Ack)) = true
is_ack other = false

-- What happens to a transaction: whether the device is ready, and whether some packet of it doesn't arrive as it was sent.
pub record Event : Type 0 where
  pub ready : Bool
  pub damaged : Bool

abbrev pub one_if : Bool → ℕ
one_if true = 1
one_if false = 0

-- how many of these transactions have a packet that doesn't arrive as it was sent, and how many meet a device that isn't ready
abbrev pub damages : List Event → ℕ
damages [] = 0
damages (v ∷ events) = one_if v.damaged + damages events

abbrev pub delays : List Event → ℕ
delays [] = 0
delays (v ∷ events) = one_if (not v.ready) + delays events

-- for any answers to requests, and any packet size of the device
module _ (answer : State → Setup → Outcome) (packet : ℕ) where
  -- A device answers a transaction that it has received whole. Of a token whose data it doesn't receive it keeps nothing.
  abbrev pub served_received : DeviceView → Option Sent → Bool → Served
  served_received d None ready = record { reply = NoReply; device = d }
  served_received d (Some sent) ready = served answer packet d sent ready

  -- what it does where this was received of the token and of the data
  abbrev pub served_from : DeviceView → Option PacketView → Option PacketView → Bool → Served
  served_from d token after ready = served_received d (received_sent token after) ready

  -- The packets of a transaction, in the order in which they are sent, are received as they were sent.
  pub record IsWhole (d : DeviceView) (sent : Sent) (ready : Bool) (token after reply ack : Option PacketView) : Type 0 where
    pub token_whole : token ≡ Some (token_packet sent)
    pub data_whole : after ≡ data_packet sent.token
    pub reply_whole : reply ≡ reply_packet (served_from d token after ready).reply
    pub ack_whole : ack ≡ ack_packet (received_reply reply)

  -- One transaction over the bus: what is received of each packet, and what comes of it, which is the reply that the host receives
  -- and the device after it.
  pub record OnWire (d : DeviceView) (sent : Sent) (v : Event) (r : Served) : Type 0 where
    pub token : Option PacketView
    pub after : Option PacketView
    pub reply : Option PacketView
    pub ack : Option PacketView
    pub token_is : IsReceivedOf (Some (token_packet sent)) token
    pub after_is : IsReceivedOf (data_packet sent.token) after
    pub reply_is : IsReceivedOf (reply_packet (served_from d token after v.ready).reply) reply
    pub ack_is : IsReceivedOf (ack_packet (received_reply reply)) ack
    pub whole : v.damaged ≡ false → IsWhole d sent v.ready token after reply ack
    pub receives_reply : r.reply ≡ received_reply reply
    pub device : r.device ≡ (let x = (served_from d token after v.ready).device in if is_ack ack then acked answer packet x else x)
