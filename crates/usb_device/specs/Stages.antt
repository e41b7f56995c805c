-- Stages, as the code holds them: numbers and a place in bytes, where the definition has a list of packets.
use Rattle.std.specs.Prelude.{◌≡◌, ℕ, ◌*◌, ◌/◌, ◌==◌, ◌<◌, ◌≤◌, Bool, true, List, length, take, drop, Some, None, if◌then◌else◌}
use Rattle.usb_fields.specs.Packets.{toggle_of}
use Rattle.usb_fields.specs.declared.packet.Toggle.{Toggle}
use Rattle.usb_fields.specs.declared.packet.Toggle.TheVariants.{Data0, Data1}
use Rattle.usb_fields.specs.declared.setup.Setup.{Setup}
use Rattle.usb_fields.specs.Setup.{setup_of}
use Rattle.usb_device.specs.Offers.{packet_in}
use Rattle.usb_device.specs.declared.stage.Source.{Source}
use Rattle.usb_device.specs.declared.stage.Source.TheVariants.{Own, Room, Image}
use Rattle.usb_device.specs.declared.stage.Stage.{Stage}
use Rattle.usb_device.specs.declared.stage.Stage.TheVariants as stages
use Rattle.usb_device.specs.declared.endpoint_zero.EndpointZero.{EndpointZero}
use Rattle.usb_device.specs.Step.{DeviceStage, Idle, Halted, Sending, StatusOut, Over, StatusIn, Receiving, Written, awaited}
use Rattle.usb_device.specs.Beside.{brings_bytes}

-- what numbers mean, each of them

unfoldable pub stage_at : ℕ → Stage
stage_at n =
    if n == 1 then stages.Sending
    else if n == 2 then stages.StatusOut
    else if n == 3 then stages.Over
    else if n == 4 then stages.Halted
    else if n == 5 then stages.StatusIn
    else if n == 6 then stages.Receiving
    else if n == 7 then stages.Written
    else stages.Idle

unfoldable pub source_at : ℕ → Source
source_at n = if n == 1 then Room else if n == 2 then Image else Own

unfoldable pub toggle_at : ℕ → Toggle
toggle_at n = if n == 0 then Data0 else Data1

abbrev pub toggle_number : Toggle → ℕ
toggle_number Data0 = 0
toggle_number Data1 = 1

-- a data stage, as a device's numbers have it, and its request
pub record DataStage : Type 0 where
  pub source : Source
  pub own : List ℕ
  pub place : ℕ
  pub count : ℕ
  pub offset : ℕ
  pub toggle : Toggle
  pub request : Setup

abbrev pub request_of : EndpointZero → Setup
request_of e = setup_of e.request

abbrev pub data_of : EndpointZero → DataStage
data_of e =
    record {
      source = source_at e.source;
      own = e.own;
      place = e.place;
      count = e.count;
      offset = e.offset;
      toggle = toggle_at e.toggle;
      request = request_of e;
    }

-- the bytes of a source, in this image or this room or among a device's own
abbrev pub source_bytes : List ℕ → List ℕ → DataStage → Source → List ℕ
source_bytes image room d Own = d.own
source_bytes image room d Room = room
source_bytes image room d Image = drop d.place image

-- the bytes that a data stage answers with
abbrev pub data_bytes : List ℕ → List ℕ → DataStage → List ℕ
data_bytes image room d = take d.count (source_bytes image room d d.source)

-- the data of a write that have come
abbrev pub written_bytes : List ℕ → DataStage → List ℕ
written_bytes room d = take d.offset room

-- the stage, where this is the data stage, with this image and this room, and the request is settled or not: carried out,
-- or its refusal reported
abbrev pub stage_of : List ℕ → List ℕ → DataStage → Bool → Stage → DeviceStage
stage_of image room d settled stages.Idle = Idle
stage_of image room d settled stages.Halted = Halted (if settled then None else Some d.request)
stage_of image room d settled stages.Sending = Sending d.request (data_bytes image room d) (d.offset / packet_in image)
stage_of image room d settled stages.StatusOut = StatusOut d.request
stage_of image room d settled stages.Over = Over
stage_of image room d settled stages.StatusIn = StatusIn d.request settled
stage_of image room d settled stages.Receiving = Receiving d.request (written_bytes room d)
stage_of image room d settled stages.Written = Written d.request (written_bytes room d)

-- which stage it is, whatever it holds
abbrev pub stage_kind : DeviceStage → Stage
stage_kind Idle = stages.Idle
stage_kind (Halted refused) = stages.Halted
stage_kind (Sending request bytes acked) = stages.Sending
stage_kind (StatusOut request) = stages.StatusOut
stage_kind Over = stages.Over
stage_kind (StatusIn request carried_out) = stages.StatusIn
stage_kind (Receiving request got) = stages.Receiving
stage_kind (Written request got) = stages.Written

-- a place in the data stage of the request is a whole number of packets, before its end
pub record IsData (image : List ℕ) (room : List ℕ) (d : DataStage) : Type 0 where
  pub count : d.count ≤ length (source_bytes image room d d.source)
  pub fits : d.count ≤ d.request.length
  pub whole : d.offset ≡ d.offset / packet_in image * packet_in image
  pub inside : d.offset ≤ d.count
  pub asked : d.offset < d.request.length
  pub toggle : d.toggle ≡ toggle_of (d.offset / packet_in image)

-- the data of a write have room, and some or all of them have come
pub record IsWrite (image : List ℕ) (room : List ℕ) (d : DataStage) : Type 0 where
  pub write : brings_bytes d.request ≡ true
  pub fits : d.request.length ≤ length room
  pub toggle : d.toggle ≡ awaited (packet_in image) d.offset

-- while more are to come, whole packets have come
pub record IsReceiving (image : List ℕ) (room : List ℕ) (d : DataStage) : Type 0 where
  pub is_write : IsWrite image room d
  pub whole : d.offset ≡ d.offset / packet_in image * packet_in image
  pub more : d.offset < d.request.length

-- the stage, with this data stage, is one of a device with this image and this room
abbrev pub IsStage : List ℕ → List ℕ → DataStage → Stage → Type 0
IsStage image room d stages.Sending = IsData image room d
IsStage image room d stages.Receiving = IsReceiving image room d
IsStage image room d stages.Written = IsWrite image room d × (d.offset ≡ d.request.length)
IsStage image room d stage = Unit {0}
