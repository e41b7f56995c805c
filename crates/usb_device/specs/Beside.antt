-- Answers beside the table of standard requests. A SETUP is acknowledged whatever it asks for (8.4.6.4), and a refusal is
-- reported by the STALL of the IN or OUT after it (8.5.3.4): in between the device's owner may answer the request.
use Rattle.std.specs.Prelude.{ℕ, ◌==◌, ◌&&◌, ◌||◌, ◌/◌, nat_lt, nat_le, Bool, true, false, not, if◌then◌else◌, List, length, take, Option, Some, None}
use Rattle.usb_fields.specs.declared.setup.Direction.{Direction}
use Rattle.usb_fields.specs.declared.setup.Direction.TheVariants as directions
use Rattle.usb_fields.specs.Setup.{direction_of, class_of, recipient_of}
use Rattle.usb_fields.specs.declared.setup.Setup.{Setup}
use Rattle.usb_fields.specs.declared.setup.Class.{Class}
use Rattle.usb_fields.specs.declared.setup.Class.TheVariants as classes
use Rattle.usb_fields.specs.declared.setup.Recipient.{Recipient}
use Rattle.usb_fields.specs.declared.setup.Recipient.TheVariants.{Device, Interface, Endpoint, Other, Reserved}
use Rattle.usb_device.specs.declared.beside.Unanswered.{Unanswered}
use Rattle.usb_device.specs.declared.beside.Unanswered.TheVariants.{Nothing, Closed, Shape, Room}
use Rattle.usb_device.specs.declared.state.State.{State}
use Rattle.usb_device.specs.Requests.{Outcome, Bytes, Done, Refused, when}
use Rattle.usb_device.specs.Requests as outcomes
use Rattle.usb_device.specs.Step.{DeviceStage, Halted, Sending, StatusOut, StatusIn, Receiving, Written, DeviceView, begun, completed}

-- what an owner answers: these bytes, that the request is done, that its data are taken and how they are judged, or nothing
pub data Response : Type 0 where
  Gives : (bytes : List ℕ) → Response
  Does : Response
  Takes : (judge : List ℕ → Bool) → Response
  Declines : Response

-- the most bytes of an answer
abbrev pub room_size : ℕ
room_size = 512

-- whether the type is one of those that the file alone tells: device, configuration, and both of a second speed (9.4.3)
abbrev pub is_of_file : ℕ → Bool
is_of_file kind = (kind == 1) || (kind == 2) || (kind == 6) || (kind == 7)

-- whether a descriptor of this type, of this part of the device, may stand beside the file
abbrev pub is_beside_file : Recipient → ℕ → Bool
is_beside_file Device kind = not (is_of_file kind)
is_beside_file Interface kind = true
is_beside_file Endpoint kind = true
is_beside_file Other kind = false
is_beside_file Reserved kind = false

-- whether a data stage goes to the host (9.3.1)
abbrev pub is_in : Direction → Bool
is_in directions.In = true
is_in directions.Out = false

-- whether a request brings bytes to the device
abbrev pub brings_bytes : Setup → Bool
brings_bytes q = not (q.length == 0) && not (is_in (direction_of q.request_type))

-- GET_DESCRIPTOR of such a descriptor, which brings no bytes to the device (9.4.3)
abbrev pub is_other_descriptor : Setup → Bool
is_other_descriptor q = (q.request == 6) && not (brings_bytes q) && is_beside_file (recipient_of q.request_type) (q.value / 256)

-- which of the requests that the standard, a class or a vendor defines are open (table 9-2)
abbrev pub is_open_to : Class → Setup → Bool
is_open_to classes.Standard q = is_other_descriptor q
is_open_to classes.Class q = true
is_open_to classes.Vendor q = true
is_open_to classes.Reserved q = false

-- which requests an owner may answer
abbrev pub is_open : Setup → Bool
is_open q = is_open_to (class_of q.request_type) q

-- whether a request asks for bytes from the device (9.3.1 and 9.3.5)
abbrev pub asks_for_bytes : Setup → Bool
asks_for_bytes q = not (q.length == 0) && is_in (direction_of q.request_type)

-- whether bytes, cut to wLength, are more than a room has
abbrev pub overflows : ℕ → Setup → List ℕ → Bool
overflows room q bytes = nat_lt room (length (take q.length bytes))

-- what comes of an open request: bytes where it asks for some, cut to wLength and within the room; a status stage alone
-- where it has no data stage; data where it brings some, for which there is room. The state stays.
abbrev pub kept_open : ℕ → State → Setup → Response → Outcome
kept_open room s q (Gives bytes) = when (asks_for_bytes q && not (overflows room q bytes)) (Bytes (take q.length bytes))
kept_open room s q Does = when (q.length == 0) (Done s)
kept_open room s q (Takes judge) = when (brings_bytes q && nat_le q.length room) (outcomes.Takes judge)
kept_open room s q Declines = Refused

-- an answer, kept to what may come of the request
abbrev pub kept_to : ℕ → State → Setup → Response → Outcome
kept_to room s q r = when (is_open q) (kept_open room s q r)

-- the first answer, or where it is a refusal the second
abbrev pub otherwise : Outcome → Outcome → Outcome
otherwise Refused second = second
otherwise first second = first

-- a table of answers, with a responder beside it
abbrev pub beside : ℕ → (State → Setup → Outcome) → (State → Setup → Response) → State → Setup → Outcome
beside room table respond s q = otherwise (table s q) (kept_to room s q (respond s q))

-- the request that is refused, and whose refusal the host was not informed of
abbrev pub refused_in : DeviceStage → Option Setup
refused_in (Halted refused) = refused
refused_in stage = None

-- the write whose data have all come, and that is not answered yet, with them
abbrev pub written_in : DeviceStage → Option (Setup × List ℕ)
written_in (Written request got) = Some (request, got)
written_in stage = None

-- the request that was carried out, in its status stage: with SET_ADDRESS the ACK is still to come
abbrev pub carried_out_in : DeviceStage → Option Setup
carried_out_in (StatusIn request true) = Some request
carried_out_in stage = None

-- the stage after an answer to that request: it begins anew, by the answer
abbrev pub answered_from : ℕ → State → Response → DeviceStage → Option Setup → DeviceStage
answered_from room s r stage None = stage
answered_from room s r stage (Some q) = begun q (kept_to room s q r)

-- the device after its owner's answer
abbrev pub answered : ℕ → Response → DeviceView → DeviceView
answered room r d = record d { stage = answered_from room d.state r d.stage (refused_in d.stage) }

-- the stage after an answer to the request whose data have all come: they are judged, or wait
abbrev pub judged_from : ℕ → State → Response → DeviceStage → DeviceStage
judged_from room s r (Written q got) = completed q (kept_to room s q r) got
judged_from room s r stage = stage

-- the device after that answer of its owner
abbrev pub judged : ℕ → Response → DeviceView → DeviceView
judged room r d = record d { stage = judged_from room d.state r d.stage }

-- The owner accepts: a request without data, or the data that a write brings, or, once all have come, that they are good.

-- the answer by which a refused request is accepted
abbrev pub acceptance : Setup → Response
acceptance q = if q.length == 0 then Does else Takes (λ bytes. true)

-- the stage then
abbrev pub accepted_from : ℕ → State → DeviceStage → DeviceStage
accepted_from room s (Halted (Some q)) = begun q (kept_to room s q (acceptance q))
accepted_from room s (Written q got) = StatusIn q false
accepted_from room s stage = stage

-- the device then
abbrev pub accepted : ℕ → DeviceView → DeviceView
accepted room d = record d { stage = accepted_from room d.state d.stage }

-- The owner refuses, until the status stage was answered: STALL is the answer then, whatever comes before the next SETUP.

-- whether a request is left to the owner: the table refuses it
abbrev pub is_left : Outcome → Bool
is_left (Bytes bytes) = false
is_left (Done next) = false
is_left Refused = true
is_left (outcomes.Takes judge) = false

-- the stage then, by the table's answer to the request of the transfer: where that is not left to the owner, it stays
abbrev pub rejected_from : (Setup → Outcome) → DeviceStage → DeviceStage
rejected_from table (Halted refused) = Halted None
rejected_from table (Sending q bytes acked) = if is_left (table q) then Halted None else Sending q bytes acked
rejected_from table (StatusOut q) = if is_left (table q) then Halted None else StatusOut q
rejected_from table (Receiving q got) = Halted None
rejected_from table (Written q got) = Halted None
rejected_from table (StatusIn q false) = if is_left (table q) then Halted None else StatusIn q false
rejected_from table stage = stage

-- the device then
abbrev pub rejected : (State → Setup → Outcome) → DeviceView → DeviceView
rejected table d = record d { stage = rejected_from (table d.state) d.stage }

-- why these bytes are no answer to an open request, if they are none
abbrev pub unfit_bytes : ℕ → List ℕ → Setup → Option Unanswered
unfit_bytes room bytes q = if not (asks_for_bytes q) then Some Shape else if overflows room q bytes then Some Room else None

-- and why an open request can't be accepted: its data go to the host, or have no room
abbrev pub unfit_acceptance : ℕ → Setup → Option Unanswered
unfit_acceptance room q =
    if q.length == 0 then None else if not (brings_bytes q) then Some Shape else if nat_lt room q.length then Some Room else None

-- why no answer is taken for the request that is refused, if there is one
abbrev pub unanswered : (Setup → Option Unanswered) → Option Setup → Option Unanswered
unanswered unfit None = Some Nothing
unanswered unfit (Some q) = if is_open q then unfit q else Some Closed

-- why a device's owner can't accept, if he can't: data that have all come can be
abbrev pub unaccepted : ℕ → DeviceStage → Option Unanswered
unaccepted room (Written q got) = None
unaccepted room stage = unanswered (unfit_acceptance room) (refused_in stage)
