-- What a bus does to a transaction between a host and a device.
use Rattle.std.specs.Prelude.{ℕ, ◌+◌, List, [], ◌∷◌, Bool, true, false, if◌then◌else◌, ◌++◌, Option, Some, None}
use Rattle.usb_bus.specs.declared.fate.Fate.{Fate}
use Rattle.usb_bus.specs.declared.fate.Fate.TheVariants.{Pass, Busy, LostAck, LostDown, LostUp}
use Rattle.usb_fields.specs.declared.setup.Setup.{Setup}
use Rattle.usb_fields.specs.Packets.{Sent, Reply, DataReply, NoReply}
use Rattle.usb_fields.specs.Packets.{AckReply}
use Rattle.usb_host.specs.declared.transfer.TransferStage.{TransferStage}
use Rattle.usb_host.specs.declared.transfer.TransferStage.TheVariants.{DataOut}
use Rattle.usb_host.specs.Transfer.{TransferView, HeardView, Brings, Taken, taken_at, due_of}
use Rattle.usb_host.specs.Write.{written_at}
use Rattle.usb_device.specs.declared.state.State.{State}
use Rattle.usb_device.specs.Requests.{Outcome}
use Rattle.usb_device.specs.Step.{DeviceView, Served, served, acked}

-- What a bus does to transactions, counted.

-- 1 where a packet or a handshake is lost
abbrev pub lost : Fate → ℕ
lost Pass = 0
lost Busy = 0
lost fate = 1

-- 1 where the device is not ready
abbrev pub busy : Fate → ℕ
busy Busy = 1
busy fate = 0

-- 1 where the host's ACK is lost
abbrev pub ack_lost : Fate → ℕ
ack_lost LostAck = 1
ack_lost fate = 0

-- how many are lost
abbrev pub losses : List Fate → ℕ
losses [] = 0
losses (f ∷ fates) = lost f + losses fates

-- how many meet a device that is not ready
abbrev pub busies : List Fate → ℕ
busies [] = 0
busies (f ∷ fates) = busy f + busies fates

-- how many lose the host's ACK
abbrev pub acks_lost : List Fate → ℕ
acks_lost [] = 0
acks_lost (f ∷ fates) = ack_lost f + acks_lost fates

-- One transaction between a host and a device, under a fate.

-- the host's end: its transfer, and the bytes that the transfer brought
pub record HostEnd : Type 0 where
  pub transfer : TransferView
  pub got : List ℕ

-- both ends
pub record Ends : Type 0 where
  pub host : HostEnd
  pub device : DeviceView

-- whether a reply is a data packet, which the host acknowledges
abbrev pub is_data : Reply → Bool
is_data (DataReply toggle bytes) = true
is_data reply = false

-- The table of fates, column by column: whether a device receives what is sent, and is ready then,
abbrev pub readiness : Fate → Option Bool
readiness LostDown = None
readiness Busy = Some false
readiness fate = Some true

-- what of its answer reaches the host,
abbrev pub brought : Fate → Reply → Reply
brought LostUp reply = NoReply
brought fate reply = reply

-- and whether the host's ACK of it reaches the device.
abbrev pub acknowledges : Fate → Reply → Bool
acknowledges LostUp reply = false
acknowledges LostAck reply = false
acknowledges fate reply = is_data reply

-- the bytes, and those that came
abbrev pub with_received : List ℕ → HeardView → List ℕ
with_received got (Brings bytes) = got ++ bytes
with_received got received = got

-- the host's end, where these bytes had come before the reply
abbrev pub host_after : List ℕ → Taken → HostEnd
host_after got t = record { transfer = t.transfer; got = with_received got t.received }

-- whether there are data
abbrev pub has_data : List ℕ → Bool
has_data [] = false
has_data (byte ∷ bytes) = true

-- What a reply does at each stage. A request that sends data to the device is a `Write`, and any other one a `Transfer`: what they
-- make of the ACK of a data packet is all that differs.
abbrev pub taken_by : Bool → TransferView → TransferStage → Reply → Taken
taken_by sends t DataOut AckReply = if sends then written_at t DataOut AckReply else taken_at t DataOut AckReply
taken_by sends t stage reply = taken_at t stage reply

-- the host receives a reply
abbrev pub receives_reply : Bool → HostEnd → Reply → HostEnd
receives_reply sends h reply = host_after h.got (taken_by sends h.transfer h.transfer.stage reply)

-- for any answers to requests, and any packet size of the device
module _ (answer : State → Setup → Outcome) (packet : ℕ) where
  -- an answer under a fate, and the device once the host's ACK has reached it or not
  abbrev pub acknowledged : Fate → Served → Served
  acknowledged fate r = record { reply = r.reply; device = if acknowledges fate r.reply then acked answer packet r.device else r.device }

  -- a device that receives nothing, or that receives and is ready or not
  abbrev pub carried_to : DeviceView → Sent → Fate → Option Bool → Served
  carried_to d sent fate None = record { reply = NoReply; device = d }
  carried_to d sent fate (Some ready) =
      let r = acknowledged fate (served answer packet d sent ready) in record { reply = brought fate r.reply; device = r.device }

  -- What comes back of a transaction under a fate, and the device after it.
  abbrev pub carried : DeviceView → Sent → Fate → Served
  carried d sent fate = carried_to d sent fate (readiness fate)

  -- a transaction, if one comes next
  abbrev pub exchanged : Bool → HostEnd → DeviceView → Option Sent → Fate → Ends
  exchanged sends h d None fate = record { host = h; device = d }
  exchanged sends h d (Some sent) fate =
      let r = carried d sent fate in record { host = receives_reply sends h r.reply; device = r.device }

  -- the next transaction of the transfer, where these are the data to the device
  abbrev pub step_of : List ℕ → Fate → Ends → Ends
  step_of bytes fate e = exchanged (has_data bytes) e.host e.device (due_of e.host.transfer bytes) fate

  -- transactions under these fates
  abbrev pub run_of : List ℕ → List Fate → Ends → Ends
  run_of bytes [] e = e
  run_of bytes (f ∷ fates) e = run_of bytes fates (step_of bytes f e)

  -- and where no data go to the device
  abbrev pub step : Fate → Ends → Ends
  step fate e = step_of [] fate e
