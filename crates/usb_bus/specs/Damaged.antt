-- A transaction over a bus of bytes on which given bits change: what arrives of its packets, and what both ends make of it
-- (USB 2.0, 8.4 to 8.7).
use Rattle.std.specs.Prelude.{◌≡◌, ◌≤◌, ◌<◌, ℕ, ◌+◌, ◌/◌, ◌%◌, ◌^◌, ◌==◌, ◌&&◌, Bool, true, false, if◌then◌else◌, List, [], ◌∷◌, length, slice_index_or, slice_set, bit_xor, Option, Some, None}
use Rattle.usb_fields.specs.declared.setup.Setup.{Setup}
use Rattle.usb_fields.specs.Packets.{Token, SetupToken, InToken, OutToken, Sent, Reply}
use Rattle.usb_wire.specs.Packets.{PacketView, IsLegal, packet_bytes}
use Rattle.usb_device.specs.declared.state.State.{State}
use Rattle.usb_device.specs.Requests.{Outcome}
use Rattle.usb_device.specs.Step.{DeviceView, Served, acked}
use Rattle.usb_bus.specs.declared.fate.Fate.{Fate}
use Rattle.usb_bus.specs.declared.fate.Fate.TheVariants.{Busy}
use Rattle.usb_bus.specs.declared.wire.change.BitChange.{BitChange}
use Rattle.usb_bus.specs.Exchanges.{is_lost_ack, is_lost_down, is_lost_up}
use Rattle.usb_bus.specs.Wire.{Receives, ack_packet, data_packet, received_reply, received_sent, is_ack, reply_packet, served_received, token_packet}

-- the bits that change in a packet of a transaction, both counted from 1
abbrev pub bits_of : List BitChange → ℕ → ℕ → List ℕ
bits_of [] transaction packet = []
bits_of (c ∷ changes) transaction packet =
    if (c.transaction == transaction) && (c.packet == packet) then c.bit ∷ bits_of changes transaction packet
    else bits_of changes transaction packet

-- Bytes in which bit n is changed. Bits are counted from 0 as they are sent: the lowest of each byte first (8.1). Where they
-- are fewer, nothing is changed.
unfoldable pub with_bit_changed : ℕ → List ℕ → List ℕ
with_bit_changed n bytes = slice_set bytes (n / 8) (bit_xor (slice_index_or bytes (n / 8) 0) (2 ^ (n % 8)))

-- the same of several bits, one after another
abbrev pub with_changed : List ℕ → List ℕ → List ℕ
with_changed [] bytes = bytes
with_changed (n ∷ bits) bytes = with_changed bits (with_bit_changed n bytes)

-- what arrives of a packet in which these bits change, and which may be lost
abbrev pub arriving : Bool → List ℕ → PacketView → List ℕ
arriving true bits p = []
arriving false bits p = with_changed bits (packet_bytes p)

-- what is received of a packet, if one is sent, which is a legal one
abbrev pub IsTakenOf : Bool → List ℕ → Option PacketView → Option PacketView → Type 0
IsTakenOf lost bits None received = received ≡ None
IsTakenOf lost bits (Some p) received = IsLegal p × Receives (arriving lost bits p) received

-- what a host may send: an address of 7 bits, a setup packet of 8 bytes, and data for which a packet has room (8.3.2, 8.3.4
-- and 9.3)
abbrev pub HasLegalData : Token → Type 0
HasLegalData (SetupToken bytes) = length bytes ≡ 8
HasLegalData InToken = Unit {0}
HasLegalData (OutToken toggle bytes) = length bytes ≤ 1024

pub record IsLegalSent (sent : Sent) : Type 0 where
  pub address : sent.address < 128
  pub bytes : HasLegalData sent.token

-- a device takes a setup packet of 8 bytes, and no other one
abbrev pub fits : Token → Bool
fits (SetupToken bytes) = length bytes == 8
fits token = true

abbrev pub fitting : Option Sent → Option Sent
fitting None = None
fitting (Some sent) = if fits sent.token then Some sent else None

-- Which packet of a transaction the answer is: the second one after an IN, and else the third one, after the data.
abbrev pub reply_number : Token → ℕ
reply_number InToken = 2
reply_number token = 3

-- whether a device that receives is ready
abbrev pub is_ready : Fate → Bool
is_ready Busy = false
is_ready fate = true

-- For any answers to requests, and any packet size of the device. Of the packets of the transaction these bits change, by the
-- packet's number.
module _ (answer : State → Setup → Outcome) (packet : ℕ) where
  -- A device receives this, if anything, and answers; its answer has this number. The host takes what it receives of it, and
  -- acknowledges data.
  pub record IsAnswered (d : DeviceView) (arrived : Option Sent) (number : ℕ) (fate : Fate) (bits : ℕ → List ℕ) (answered : Reply) (r : Served) : Type 0 where
    pub reply : Option PacketView
    pub ack : Option PacketView
    pub answers : answered ≡ (served_received answer packet d arrived (is_ready fate)).reply
    pub reply_is : IsTakenOf (is_lost_up fate) (bits number) (reply_packet answered) reply
    pub ack_is : IsTakenOf (is_lost_ack fate) (bits (number + 1)) (ack_packet (received_reply reply)) ack
    pub receives_reply : r.reply ≡ received_reply reply
    pub device : r.device ≡ (let x = (served_received answer packet d arrived (is_ready fate)).device in if is_ack ack then acked answer packet x else x)

  -- One transaction: the device answers what it has received, and this comes of it.
  pub record IsExchanged (d : DeviceView) (sent : Sent) (fate : Fate) (bits : ℕ → List ℕ) (answered : Reply) (r : Served) : Type 0 where
    pub token : Option PacketView
    pub after : Option PacketView
    pub token_is : IsTakenOf (is_lost_down fate) (bits 1) (Some (token_packet sent)) token
    pub after_is : IsTakenOf (is_lost_down fate) (bits 2) (data_packet sent.token) after
    pub rest : IsAnswered d (fitting (received_sent token after)) (reply_number sent.token) fate bits answered r
