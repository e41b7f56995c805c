-- A device that answers more requests than its descriptors say.
use Rattle.std.specs.Prelude.{◌≡◌, ℕ, ◌<◌, ◌≤◌, true, false, List, length, ◌⊎◌, Bool, [], ◌∷◌, Option, Some, None}
use Rattle.usb_fields.specs.declared.setup.Setup.{Setup as SetupPacket, Setup}
use Rattle.usb_fields.specs.declared.setup.Direction.TheVariants as directions
use Rattle.usb_fields.specs.Setup.{direction_of}
use Rattle.usb_fields.specs.Packets.{packets, Token, SetupToken, InToken, OutToken, Sent, Reply, AckReply}
use Rattle.usb_device.specs.declared.state.State.{State}
use Rattle.usb_device.specs.Requests.{Outcome, Bytes, Done, Refused, Takes}
use Rattle.usb_device.specs.Step.{is_set_address, DeviceStage, Receiving, DeviceView, Served, served}
use Rattle.usb_fields.specs.Bytes.{AreBytes}
use Rattle.usb_device.specs.Beside.{is_open, Response, answered, beside, judged, refused_in}
use Rattle.usb_bus.specs.declared.fate.Fate.{Fate}
use Rattle.usb_bus.specs.Bus.{Ends, step_of}

-- What is asked of a device's answers to requests.

-- What one answer must keep for the ends to agree on the stages. There are bytes only where they are asked for and go to
-- the host, and data are taken only where there are some and they go to the device; what is only done has no data stage, and
-- SET_ADDRESS alone changes the address.
pub record IsAnswering (answer : State → SetupPacket → Outcome) (s : State) (q : SetupPacket) : Type 0 where
  pub bytes : (b : List ℕ) → answer s q ≡ Bytes b → (0 < q.length) × (direction_of q.request_type ≡ directions.In)
  pub takes : (judge : List ℕ → Bool) → answer s q ≡ Takes judge → (0 < q.length) × (direction_of q.request_type ≡ directions.Out)
  pub done : (t : State) → answer s q ≡ Done t → q.length ≡ 0
  pub stays : (t : State) → answer s q ≡ Done t → is_set_address q ≡ false → t.address ≡ s.address

-- What a table of requests keeps in every state. No more bytes are given than are asked for. SET_ADDRESS changes the
-- address, to at most 127, and nothing else; a class or vendor request with bRequest 5 is another request.
pub record IsTable (answer : State → SetupPacket → Outcome) : Type 0 where
  pub answering : (s : State) (q : SetupPacket) → IsAnswering answer s q
  pub fits : (s : State) (q : SetupPacket) (b : List ℕ) → answer s q ≡ Bytes b → length b ≤ q.length
  pub goes : (s : State) (q : SetupPacket) (t : State) → answer s q ≡ Done t → is_set_address q ≡ true → (q.value < 128) × (t ≡ record s { address = q.value })

-- The packets that a device cuts by its packet size are those that it would cut by the size that the host knows.
abbrev pub CutsAlike : ℕ → ℕ → ℕ → List ℕ → Type 0
CutsAlike cut size limit b = (0 < size) × (length b ≤ limit) × (packets b cut limit ≡ packets b size limit)

-- The packets of a write are cut by the size that the host knows, and the device awaits just these.
abbrev pub SizesAlike : ℕ → ℕ → Type 0
SizesAlike cut size = (0 < size) × (cut ≡ size)

-- the numbers of a state that a device tells are bytes: the configuration and the alternate settings
abbrev pub HasBytes : State → Type 0
HasBytes s = (s.selected < 256) × AreBytes s.alternates

-- what an answer gives are bytes, and a state after it has such numbers
abbrev pub IsOfBytes : Outcome → Type 0
IsOfBytes (Bytes bytes) = AreBytes bytes
IsOfBytes (Done next) = HasBytes next
IsOfBytes Refused = Unit {0}
IsOfBytes (Takes judge) = Unit {0}

-- Answers beside a device's own table: they keep what each table keeps; a request is answered as the own table says, but for
-- one that it refuses and that is open to an owner; and such an answer is of bytes.
pub record IsBeside (own table : State → Setup → Outcome) : Type 0 where
  pub keeps : IsTable table
  pub same : (s : State) (q : Setup) → (table s q ≡ own s q) ⊎ ((own s q ≡ Refused) × (is_open q ≡ true))
  pub bytes : (s : State) (q : Setup) → own s q ≡ Refused → HasBytes s → IsOfBytes (table s q)

-- A device with a responder, which is asked right after each SETUP that was taken, where its request is refused, and right
-- after the packet with which all data of a write have come; and a responder that answers otherwise from one transaction to
-- the next.

module _ (room : ℕ) (respond : State → Setup → Response) where
  -- the device after the responder was asked for this request, if there is one
  abbrev pub asked_for : DeviceView → Option Setup → DeviceView
  asked_for d None = d
  asked_for d (Some q) = answered room (respond d.state q) d

  -- the device after the responder was asked to judge, where the packet that has come made its write Written
  abbrev pub asked_to_judge : DeviceStage → DeviceView → DeviceView
  asked_to_judge (Receiving q got) d = judged room (respond d.state q) d
  asked_to_judge before d = d

  -- it is asked after a SETUP that was taken, for the request that is refused, and after the last packet of a write; this was
  -- the device's stage before
  abbrev pub asked_after : DeviceStage → Token → Reply → DeviceView → DeviceView
  asked_after before (SetupToken b) AckReply d = asked_for d (refused_in d.stage)
  asked_after before (SetupToken b) reply d = d
  asked_after before InToken reply d = d
  asked_after before (OutToken toggle bytes) reply d = asked_to_judge before d

  -- a transaction with a device that has this table and this responder
  abbrev pub served_with : (State → Setup → Outcome) → ℕ → DeviceView → Sent → Bool → Served
  served_with table packet d sent ready =
      let x = served table packet d sent ready in record { reply = x.reply; device = asked_after d.stage sent.token x.reply x.device }

-- a transaction: its fate, and what the responder answers then
pub record Moment : Type 0 where
  pub fate : Fate
  pub respond : State → Setup → Response

-- the fates of the moments
abbrev pub fates_of : List Moment → List Fate
fates_of [] = []
fates_of (m ∷ moments) = m.fate ∷ fates_of moments

-- the responder is that of one of these moments
abbrev pub IsAmong : (State → Setup → Response) → List Moment → Type 0
IsAmong respond [] = ⊥
IsAmong respond (m ∷ moments) = (respond ≡ m.respond) ⊎ IsAmong respond moments

-- transactions, each at its moment, where these are the data to the device
abbrev pub run_moments : ℕ → (State → Setup → Outcome) → ℕ → List ℕ → List Moment → Ends → Ends
run_moments room table packet bytes [] e = e
run_moments room table packet bytes (m ∷ moments) e =
    run_moments room table packet bytes moments (step_of (beside room table m.respond) packet bytes m.fate e)
