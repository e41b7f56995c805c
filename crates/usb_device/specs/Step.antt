-- A device's end of control transfers: what it answers to a transaction, and its stage after it (USB 2.0, 8.5.3 and
-- 9.2.6). For any answers to requests, and any packet size of endpoint zero.
use Rattle.std.specs.Prelude.{ℕ, suc, ◌+◌, ◌-◌, ◌/◌, ◌%◌, ◌==◌, ◌||◌, ◌&&◌, min, Bool, true, false, not, List, [], ◌∷◌, ◌++◌, length, drop, if◌then◌else◌, Option, Some, None}
use Rattle.usb_fields.specs.declared.packet.Toggle.{Toggle}
use Rattle.usb_fields.specs.declared.packet.Toggle.TheVariants.{Data0, Data1}
use Rattle.usb_fields.specs.declared.setup.Setup.{Setup}
use Rattle.usb_fields.specs.Setup.{setup_of}
use Rattle.usb_fields.specs.Packets.{Token, SetupToken, InToken, OutToken, Sent, Reply, AckReply, NakReply, StallReply, DataReply, NoReply, packets, toggle_of, is_same_toggle}
use Rattle.usb_device.specs.declared.state.State.{State}
use Rattle.usb_device.specs.States.{zero}
use Rattle.usb_device.specs.Requests.{Outcome, Bytes, Done, Refused, Takes}

-- Where a device stands in a transfer: in none, in one that it refuses, in a data stage, in the status stage that follows
-- it, past that, or in the status stage of this request. A refused request is named until the host is informed. A data stage
-- answers this request with these bytes, and `acked` of its packets were acknowledged. A request in its status stage was
-- carried out, or not yet. Of a write these bytes have come, and more are to come; or all have come, and its owner has not
-- judged them.
pub data DeviceStage : Type 0 where
  Idle : DeviceStage
  Halted : (refused : Option Setup) → DeviceStage
  Sending : (request : Setup) (bytes : List ℕ) (acked : ℕ) → DeviceStage
  StatusOut : (request : Setup) → DeviceStage
  Over : DeviceStage
  StatusIn : (request : Setup) (carried_out : Bool) → DeviceStage
  Receiving : (request : Setup) (got : List ℕ) → DeviceStage
  Written : (request : Setup) (got : List ℕ) → DeviceStage

-- what changes in a device: its state, its stage, and whether its last answer waits for an ACK
pub record DeviceView : Type 0 where
  pub state : State
  pub stage : DeviceStage
  pub pending : Bool

-- the reply to a transaction, and the device after it
pub record Served : Type 0 where
  pub reply : Reply
  pub device : DeviceView

-- this reply, and a device in this state, in this stage, and waiting for an ACK or not
abbrev pub replies : Reply → State → DeviceStage → Bool → Served
replies reply s stage pending = record { reply = reply; device = record { state = s; stage = stage; pending = pending } }

-- a STALL, until the next SETUP (8.5.3.4)
abbrev pub stalls : State → Served
stalls s = replies StallReply s (Halted None) false

-- a new device, and one after a bus reset
abbrev pub new_device : DeviceView
new_device = record { state = zero; stage = Idle; pending = false }

-- a SETUP begins a transfer by its answer, and ends the one before it (5.5.5)
abbrev pub begun : Setup → Outcome → DeviceStage
begun q (Bytes bytes) = Sending q bytes 0
begun q (Done next) = StatusIn q false
begun q Refused = Halted (Some q)
begun q (Takes judge) = Receiving q []

-- the state after a request
abbrev pub carried_out : State → Outcome → State
carried_out s (Bytes bytes) = s
carried_out s (Done next) = next
carried_out s Refused = s
carried_out s (Takes judge) = s

-- Whether the request is SET_ADDRESS: the standard request 5 to the device, bits 6..0 of bmRequestType being 0 (tables 9-2
-- and 9-4). A device carries it out after the status stage and not before (9.4.6).
abbrev pub is_set_address : Setup → Bool
is_set_address q = (q.request_type % 128 == 0) && (q.request == 5)

-- IN in the data stage: the first of the packets that are left
abbrev pub next_packet : State → DeviceStage → ℕ → List (List ℕ) → Served
next_packet s stage k [] = stalls s
next_packet s stage k (p ∷ rest) = replies (DataReply (toggle_of k) p) s stage true

-- OUT after a data stage: DATA0 is a packet that came again, an empty DATA1 the status stage, which also says that the
-- last packet came (8.5.3.3)
abbrev pub status_out : State → DeviceStage → Toggle → List ℕ → Served
status_out s stage Data0 bytes = replies AckReply s stage false
status_out s stage Data1 [] = replies AckReply s Over false
status_out s stage Data1 (byte ∷ bytes) = stalls s

-- OUT in the status stage of a write is its last packet, come again since the ACK of it was lost: discarded (8.6.4). A
-- request without data has no OUT.
abbrev pub late_out : State → Setup → Bool → Served
late_out s q carried = if q.length == 0 then stalls s else replies AckReply s (StatusIn q carried) false

-- the toggle that is awaited after this many bytes, which came in packets of this size: DATA1 first (8.5.3)
abbrev pub awaited : ℕ → ℕ → Toggle
awaited packet count = toggle_of ((count + (packet - 1)) / packet)

-- The stage once all data of a write have come. Where the answer takes them, they are judged, and good ones let the status
-- stage come; where the request is refused, its owner is to judge them. Any other answer is to no write.
abbrev pub completed : Setup → Outcome → List ℕ → DeviceStage
completed q (Takes judge) got = if judge got then StatusIn q false else Halted None
completed q Refused got = Written q got
completed q other got = Halted None

-- the stage of a write with these bytes, by the answer to it: more are to come, or all have come
abbrev pub gathered : Setup → Outcome → List ℕ → DeviceStage
gathered q outcome got = if length got == q.length then completed q outcome got else Receiving q got

-- OUT in the data stage of a write. The other toggle is a packet that came again: discarded (8.6.4). With the awaited one
-- comes a whole packet, or all that is left (8.5.3): kept, and anything else is stalled.
abbrev pub received : ℕ → State → Setup → Outcome → List ℕ → Toggle → List ℕ → Served
received packet s q outcome got toggle bytes =
    if not (is_same_toggle toggle (awaited packet (length got))) then replies AckReply s (Receiving q got) false
    else if length bytes == min packet (q.length - length got) then replies AckReply s (gathered q outcome (got ++ bytes)) false
    else stalls s

-- OUT when all data have come: the last packet, come again, or one too many
abbrev pub surplus_out : ℕ → State → Setup → List ℕ → Toggle → Served
surplus_out packet s q got toggle =
    if is_same_toggle toggle (awaited packet (length got)) then stalls s else replies AckReply s (Written q got) false

-- the stage after the ACK of packet k, by the packets that are left after it
abbrev pub next_stage : Setup → List ℕ → ℕ → List (List ℕ) → DeviceStage
next_stage q bytes k [] = StatusOut q
next_stage q bytes k (p ∷ rest) = Sending q bytes (suc k)

module _ (answer : State → Setup → Outcome) (packet : ℕ) where
  -- the state in the status stage: the request is carried out at the first empty packet, SET_ADDRESS excepted
  abbrev pub status_state : State → Setup → Bool → State
  status_state s q carried = if carried || is_set_address q then s else carried_out s (answer s q)

  -- IN, by the stage
  abbrev pub served_in : State → DeviceStage → Served
  served_in s (Sending q b k) = next_packet s (Sending q b k) k (drop k (packets b packet q.length))
  served_in s (StatusIn q carried) = replies (DataReply Data1 []) (status_state s q carried) (StatusIn q true) true
  served_in s stage = stalls s

  -- OUT, by the stage
  abbrev pub served_out : State → DeviceStage → Toggle → List ℕ → Served
  served_out s (Sending q b k) toggle bytes = status_out s (Sending q b k) toggle bytes
  served_out s (StatusOut q) toggle bytes = status_out s (StatusOut q) toggle bytes
  served_out s Over toggle bytes = status_out s Over toggle bytes
  served_out s (StatusIn q carried) toggle bytes = late_out s q carried
  served_out s (Receiving q got) toggle bytes = received packet s q (answer s q) got toggle bytes
  served_out s (Written q got) toggle bytes = surplus_out packet s q got toggle
  served_out s stage toggle bytes = stalls s

  -- a transaction to the device's address, by its token: a SETUP is taken whether the device is ready or not (8.4.6.4),
  -- and a device that isn't ready answers NAK to IN (8.4.6.1) and to OUT (8.4.6.3)
  abbrev pub served_here : DeviceView → Token → Bool → Served
  served_here d (SetupToken b) ready = replies AckReply d.state (begun (setup_of b) (answer d.state (setup_of b))) false
  served_here d InToken false = replies NakReply d.state d.stage false
  served_here d InToken true = served_in d.state d.stage
  served_here d (OutToken toggle bytes) false = replies NakReply d.state d.stage false
  served_here d (OutToken toggle bytes) true = served_out d.state d.stage toggle bytes

  -- a transaction: nothing comes back from a device at another address
  abbrev pub served : DeviceView → Sent → Bool → Served
  served d sent ready =
      if sent.address == d.state.address then served_here d sent.token ready else replies NoReply d.state d.stage false

  -- the stage after the ACK of what was sent
  abbrev pub acked_stage : DeviceStage → DeviceStage
  acked_stage (Sending q b k) = next_stage q b k (drop (suc k) (packets b packet q.length))
  acked_stage (StatusIn q carried) = Idle
  acked_stage stage = stage

  -- and the state: with the status stage done a new address holds
  abbrev pub acked_state : State → DeviceStage → State
  acked_state s (StatusIn q carried) = if is_set_address q then carried_out s (answer s q) else s
  acked_state s stage = s

  -- the host's ACK of a data packet counts once, and only right after that packet
  abbrev pub acked : DeviceView → DeviceView
  acked d =
      if d.pending then record { state = acked_state d.state d.stage; stage = acked_stage d.stage; pending = false } else d
