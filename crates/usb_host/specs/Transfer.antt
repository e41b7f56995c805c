-- The host's end of one control transfer, and how many transactions it asks for (USB 2.0, 8.5.3 and 8.6).
use Rattle.std.specs.Prelude.{take, drop, ℕ, suc, ◌+◌, ◌==◌, ◌||◌, ◌&&◌, ◌<◌, ◌≤◌, nat_le, nat_lt, Bool, false, if◌then◌else◌, List, [], ◌∷◌, length, Option, Some, None, ◌-◌, ◌*◌, ◌/◌}
use Rattle.usb_fields.specs.Packets.{flipped, Token, SetupToken, InToken, OutToken, Sent, sent_of, Reply, AckReply, NakReply, StallReply, DataReply, NoReply, is_same_toggle}
use Rattle.usb_fields.specs.Setup.{direction_of, setup_bytes}
use Rattle.usb_fields.specs.declared.packet.Toggle.{Toggle}
use Rattle.usb_fields.specs.declared.packet.Toggle.TheVariants.{Data0, Data1}
use Rattle.usb_fields.specs.declared.packet.Transaction.{Transaction}
use Rattle.usb_fields.specs.declared.setup.Setup.{Setup as SetupPacket}
use Rattle.usb_fields.specs.declared.setup.Direction.{Direction}
use Rattle.usb_fields.specs.declared.setup.Direction.TheVariants as directions
use Rattle.usb_host.specs.declared.why.Why.{Why}
use Rattle.usb_host.specs.declared.why.Why.TheVariants.{NoAnswer, Busy, Stalled, TooLong, Unexpected}
use Rattle.usb_host.specs.declared.transfer_fields.TransferFields.{TransferFields}
use Rattle.usb_host.specs.declared.transfer.TransferStage.{TransferStage}
use Rattle.usb_host.specs.declared.transfer.TransferStage.TheVariants.{Setup, DataIn, DataOut, StatusOut, StatusIn, Completed, Failed}

-- The host's end of one control transfer (USB 2.0, 8.5.3 and 8.6).

-- what callers see of a transfer: its fields
abbrev pub TransferView : Type 0
TransferView = TransferFields

-- the counts stay within their limits
pub record IsTransfer (t : TransferView) : Type 0 where
  pub packet : 0 < t.packet
  pub kept : t.kept ≤ t.request.length
  pub strikes : t.strikes ≤ 2
  pub nak_count : t.nak_count ≤ t.naks

-- the same as a test
abbrev pub is_transfer : TransferView → Bool
is_transfer t = nat_lt 0 t.packet && (nat_le t.kept t.request.length && (nat_le t.strikes 2 && nat_le t.nak_count t.naks))

-- a new transfer; a data stage begins with DATA1 (8.5.3)
abbrev pub begun : ℕ → ℕ → ℕ → SetupPacket → TransferView
begun address packet naks request =
    record {
      address = address;
      packet = packet;
      naks = naks;
      request = request;
      stage = Setup;
      awaited = Data1;
      kept = 0;
      strikes = 0;
      nak_count = 0;
    }

-- whether there was no transaction yet: a SETUP that brought nothing is a strike
abbrev pub is_untried : TransferStage → ℕ → Bool
is_untried Setup strikes = strikes == 0
is_untried stage strikes = false

-- the next data packet to the device, of these data: a whole packet, or all that is left, from the first byte on that was not
-- acknowledged (8.5.3)
abbrev pub packet_due : TransferView → List ℕ → List ℕ
packet_due t bytes = take t.packet (drop t.kept bytes)

-- what comes next at a stage, where these are the data to the device: a status out is an empty DATA1 packet
abbrev pub token_due : TransferView → List ℕ → TransferStage → Option Token
token_due t bytes Setup = Some (SetupToken (setup_bytes t.request))
token_due t bytes DataIn = Some InToken
token_due t bytes DataOut = Some (OutToken t.awaited (packet_due t bytes))
token_due t bytes StatusOut = Some (OutToken Data1 [])
token_due t bytes StatusIn = Some InToken
token_due t bytes Completed = None
token_due t bytes (Failed why) = None

-- a token at an address
abbrev pub addressed : ℕ → Option Token → Option Sent
addressed address None = None
addressed address (Some token) = Some (record { address = address; token = token })

-- the next transaction, if the transfer has not ended, where these are the data to the device
abbrev pub due_of : TransferView → List ℕ → Option Sent
due_of t bytes = addressed t.address (token_due t bytes t.stage)

-- And where there are none, as of each transfer that is no write: a data packet to the device is empty. It is DATA1, since no
-- ACK moves such a transfer on.
abbrev pub due : TransferView → Option Sent
due t = due_of t []

-- what a transaction sends, if there is one
abbrev pub sent_by : Option Transaction → Option Sent
sent_by None = None
sent_by (Some t) = Some (sent_of t)

-- what a reply means to the caller: the transfer goes on, with or without new bytes, or has ended
pub data HeardView : Type 0 where
  Goes : HeardView
  Brings : (bytes : List ℕ) → HeardView
  Completes : HeardView
  Fails : (why : Why) → HeardView

-- that, and the transfer after the reply
pub record Taken : Type 0 where
  pub received : HeardView
  pub transfer : TransferView

-- Progress: on to this stage. It clears the strikes and the NAKs.
abbrev pub progress : TransferView → TransferStage → TransferView
progress t stage = record t { stage = stage; strikes = 0; nak_count = 0 }

-- progress to this stage, and the transfer goes on
abbrev pub moved : TransferView → TransferStage → Taken
moved t stage = record { received = Goes; transfer = progress t stage }

-- progress to the end
abbrev pub completed : TransferView → Taken
completed t = record { received = Completes; transfer = progress t Completed }

-- the transfer ends for this reason
abbrev pub failed : TransferView → Why → Taken
failed t why = record { received = Fails why; transfer = record t { stage = Failed why } }

-- A strike: the third since the last progress ends the transfer. NAKs are neither counted nor cleared.
abbrev pub struck : TransferView → Taken
struck t =
    if nat_lt t.strikes 2
    then record { received = Goes; transfer = record t { strikes = suc t.strikes } }
    else failed t NoAnswer

-- A NAK of IN (8.4.6.1) or of OUT (8.4.6.3): one more than the limit ends the transfer. Strikes are neither counted nor
-- cleared.
abbrev pub delayed : TransferView → Taken
delayed t =
    if nat_lt t.nak_count t.naks
    then record { received = Goes; transfer = record t { nak_count = suc t.nak_count } }
    else failed t Busy

-- the data stage in this direction
abbrev pub data_stage : Direction → TransferStage
data_stage directions.In = DataIn
data_stage directions.Out = DataOut

-- the stage after an acknowledged SETUP: with wLength 0 there is no data stage
abbrev pub stage_after_setup : SetupPacket → TransferStage
stage_after_setup q = if q.length == 0 then StatusIn else data_stage (direction_of q.request_type)

-- the stage after a data packet of n bytes: a packet below the packet size and the last byte of wLength end the data
-- stage (8.5.3.2)
abbrev pub stage_after_data : TransferView → ℕ → TransferStage
stage_after_data t n = if nat_lt n t.packet || (t.kept + n == t.request.length) then StatusOut else DataIn

-- Progress by a data packet of n bytes, which are kept.
abbrev pub with_packet : TransferView → ℕ → TransferView
with_packet t n =
    record t {
      stage = stage_after_data t n;
      awaited = flipped t.awaited;
      kept = t.kept + n;
      strikes = 0;
      nak_count = 0;
    }

-- a data packet with the awaited toggle: its bytes are new
abbrev pub kept_packet : TransferView → List ℕ → Taken
kept_packet t bytes = record { received = Brings bytes; transfer = with_packet t (length bytes) }

-- a packet in the data stage: its length is tested first, then its toggle (8.6.4), then the bytes that are left
abbrev pub taken_data : TransferView → Toggle → List ℕ → Taken
taken_data t toggle bytes =
    if nat_lt t.packet (length bytes) then failed t TooLong
    else (if is_same_toggle toggle t.awaited
    then (if nat_lt t.request.length (t.kept + length bytes) then failed t TooLong else kept_packet t bytes)
    else struck t)

-- a packet in the status stage: an empty DATA1 completes the transfer
abbrev pub taken_status : TransferView → Toggle → List ℕ → Taken
taken_status t toggle (byte ∷ bytes) = failed t TooLong
taken_status t Data0 [] = struck t
taken_status t Data1 [] = completed t

-- what each reply does at each stage
abbrev pub taken_at : TransferView → TransferStage → Reply → Taken
taken_at t Setup AckReply = moved t (stage_after_setup t.request)
taken_at t Setup NakReply = failed t Unexpected
taken_at t Setup StallReply = failed t Unexpected
taken_at t Setup (DataReply toggle bytes) = failed t Unexpected
taken_at t Setup NoReply = struck t
taken_at t DataIn AckReply = failed t Unexpected
taken_at t DataIn NakReply = delayed t
taken_at t DataIn StallReply = failed t Stalled
taken_at t DataIn (DataReply toggle bytes) = taken_data t toggle bytes
taken_at t DataIn NoReply = struck t
taken_at t DataOut AckReply = failed t Unexpected
taken_at t DataOut NakReply = delayed t
taken_at t DataOut StallReply = failed t Stalled
taken_at t DataOut (DataReply toggle bytes) = failed t Unexpected
taken_at t DataOut NoReply = struck t
taken_at t StatusOut AckReply = completed t
taken_at t StatusOut NakReply = delayed t
taken_at t StatusOut StallReply = failed t Stalled
taken_at t StatusOut (DataReply toggle bytes) = failed t Unexpected
taken_at t StatusOut NoReply = struck t
taken_at t StatusIn AckReply = failed t Unexpected
taken_at t StatusIn NakReply = delayed t
taken_at t StatusIn StallReply = failed t Stalled
taken_at t StatusIn (DataReply toggle bytes) = taken_status t toggle bytes
taken_at t StatusIn NoReply = struck t
taken_at t Completed reply = record { received = Completes; transfer = t }
taken_at t (Failed why) reply = record { received = Fails why; transfer = t }

-- a transfer takes a reply
abbrev pub taken : TransferView → Reply → Taken
taken t reply = taken_at t t.stage reply

-- How many transactions a transfer asks for, whatever is replied.

-- a transfer asks for no more than this from its start: between two steps of progress there are at most two strikes
-- and as many NAKs as the limit
abbrev pub most_transactions : ℕ → ℕ → SetupPacket → ℕ
most_transactions packet naks request = (naks + 3) * (request.length / packet + 3)

-- the steps of progress that may still come, where this many bytes of the data stage are due
abbrev pub steps_left : ℕ → ℕ → TransferStage → ℕ
steps_left bytes packet Setup = bytes / packet + 3
steps_left bytes packet DataIn = bytes / packet + 2
steps_left bytes packet DataOut = bytes / packet + 2
steps_left bytes packet StatusOut = 1
steps_left bytes packet StatusIn = 1
steps_left bytes packet Completed = 0
steps_left bytes packet (Failed why) = 0

-- those of a transfer
abbrev pub steps : TransferView → ℕ
steps t = steps_left (t.request.length - t.kept) t.packet t.stage

-- the transactions that a transfer may still ask for
unfoldable pub left : TransferView → ℕ
left t = steps t * (t.naks + 3) - (t.strikes + t.nak_count)
