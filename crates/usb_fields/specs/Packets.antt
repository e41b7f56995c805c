-- Packets, without where their bytes lie, and those of a data stage that its receiver keeps (USB 2.0, 8.4 to 8.6).
use Rattle.std.specs.Prelude.{ℕ, List, zero, suc, ◌-◌, ◌==◌, nat_lt, Bool, true, false, [], ◌∷◌, ◌++◌, length, take, drop, replicate, if◌then◌else◌}
use Rattle.usb_fields.specs.declared.packet.Toggle.{Toggle}
use Rattle.usb_fields.specs.declared.packet.Toggle.TheVariants.{Data0, Data1}
use Rattle.usb_fields.specs.declared.packet.Stage.{Stage}
use Rattle.usb_fields.specs.declared.packet.Stage.TheVariants.{Setup, In, Out}
use Rattle.usb_fields.specs.declared.packet.Transaction.{Transaction}
use Rattle.usb_fields.specs.declared.packet.Answer.{Answer}
use Rattle.usb_fields.specs.declared.packet.Answer.TheVariants.{Ack, Nak, Stall, Data, Silence}

-- Packets, without where their bytes lie (USB 2.0, 8.4 to 8.6).

-- the other toggle
abbrev pub flipped : Toggle → Toggle
flipped Data0 = Data1
flipped Data1 = Data0

-- what a host sends: SETUP, IN or OUT, with the bytes that go with it
pub data Token : Type 0 where
  SetupToken : (bytes : List ℕ) → Token
  InToken : Token
  OutToken : (toggle : Toggle) → (bytes : List ℕ) → Token

-- the token of a stage
abbrev pub token_of : Stage → Token
token_of (Setup bytes) = SetupToken bytes
token_of In = InToken
token_of (Out toggle bytes) = OutToken toggle bytes.now

-- a token and the address that it goes to
pub record Sent : Type 0 where
  pub address : ℕ
  pub token : Token

-- what a transaction sends
abbrev pub sent_of : Transaction → Sent
sent_of t = record { address = t.address; token = token_of t.stage }

-- what comes back: a handshake, a data packet with its bytes, or nothing
pub data Reply : Type 0 where
  AckReply : Reply
  NakReply : Reply
  StallReply : Reply
  DataReply : (toggle : Toggle) → (bytes : List ℕ) → Reply
  NoReply : Reply

-- the reply that an answer is
abbrev pub reply_of : Answer → Reply
reply_of Ack = AckReply
reply_of Nak = NakReply
reply_of Stall = StallReply
reply_of (Data toggle bytes) = DataReply toggle bytes.now
reply_of Silence = NoReply

-- The packets of a data stage, and those that its receiver keeps (USB 2.0, 8.5.3 and 8.6).

-- the packets of these bytes, as below, or the first `most` of them
unfoldable pub packets_within : ℕ → List ℕ → ℕ → ℕ → List (List ℕ)
packets_within zero bytes size limit = []
packets_within (suc most) bytes size limit =
    if limit == 0 then []
    else if nat_lt (length bytes) size then bytes ∷ []
    else take size bytes ∷ packets_within most (drop size bytes) size (limit - size)

-- The packets of a data stage that answers with these bytes, at most `limit` of them, which is wLength. Packets
-- have up to `size` bytes, at least one. There are packets of `size` bytes until `limit` bytes have gone, or else
-- a shorter packet, which may be empty, to end the stage (8.5.3.2).
unfoldable pub packets : List ℕ → ℕ → ℕ → List (List ℕ)
packets bytes size limit = packets_within limit bytes size limit

-- the toggle of packet k, counted from 0: DATA1 first, and then in turn (8.5.3)
abbrev pub toggle_of : ℕ → Toggle
toggle_of zero = Data1
toggle_of (suc k) = flipped (toggle_of k)

-- a packet and the toggle that it carries
pub record Toggled : Type 0 where
  pub toggle : Toggle
  pub packet : List ℕ

-- whether both are DATA0, or both DATA1
abbrev pub is_same_toggle : Toggle → Toggle → Bool
is_same_toggle Data0 Data0 = true
is_same_toggle Data0 Data1 = false
is_same_toggle Data1 Data0 = false
is_same_toggle Data1 Data1 = true

-- what a receiver keeps: the packets that carry the toggle that it awaits, which flips at each of them (8.6)
abbrev pub kept : List Toggled → Toggle → List (List ℕ)
kept [] awaited = []
kept (p ∷ more) awaited =
    if is_same_toggle p.toggle awaited then p.packet ∷ kept more (flipped awaited) else kept more awaited

-- the packets one after another, the first with this toggle and the others in turn, each sent once and then again
-- as often as the number at its place says, or no more where there is none (8.6.4)
abbrev pub repeated : List (List ℕ) → Toggle → List ℕ → List Toggled
repeated [] toggle again = []
repeated (p ∷ ps) toggle [] = record { toggle = toggle; packet = p } ∷ repeated ps (flipped toggle) []
repeated (p ∷ ps) toggle (times ∷ again) =
    record { toggle = toggle; packet = p } ∷ replicate times (record { toggle = toggle; packet = p })
    ++ repeated ps (flipped toggle) again

-- the lists one after another
abbrev pub joined : List (List ℕ) → List ℕ
joined [] = []
joined (p ∷ ps) = p ++ joined ps
