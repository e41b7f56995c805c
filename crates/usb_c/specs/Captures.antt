-- What calls do to a reader of a recording that C holds, or to none, and what it shows as numbers.
use Rattle.std.specs.Prelude.{◌≡◌, ◌⊎◌, ℕ, ◌<◌, ◌==◌, Bool, true, false, List, [], ◌∷◌, ◌++◌, drop, length, Option, Some, None, Result, Ok, Err, is_some, slice_get, unwrap_or, if◌then◌else◌}
use Rattle.std.specs.Option.{option_map}
use Rattle.usb_fields.specs.Numbers.{number_in}
use Rattle.usb_fields.specs.Setup.{setup_bytes}
use Rattle.usb_capture.specs.declared.control_transfer.ControlTransfer.{ControlTransfer}
use Rattle.usb_capture.specs.declared.device_file.DeviceFile.{DeviceFile}
use Rattle.usb_capture.specs.declared.device_file.DeviceFile.TheVariants as files
use Rattle.usb_capture.specs.declared.device_file.FileLack.{FileLack}
use Rattle.usb_capture.specs.declared.device_file.FileLack.TheVariants as lacks
use Rattle.usb_capture.specs.declared.ending.Ending.{Ending}
use Rattle.usb_capture.specs.declared.ending.Ending.TheVariants as endings
use Rattle.usb_capture.specs.declared.fault.CaptureFault.{CaptureFault}
use Rattle.usb_capture.specs.declared.fault.CaptureFault.TheVariants as faults
use Rattle.usb_capture.specs.declared.finding.Finding.{Finding}
use Rattle.usb_capture.specs.contracts.finding.Finding.{the_type as all_findings}
use Rattle.usb_capture.specs.declared.frame.Frame.{Frame}
use Rattle.usb_capture.specs.declared.packet_finding.PacketFinding.{PacketFinding}
use Rattle.usb_capture.specs.declared.packet_finding.PacketFinding.TheVariants as packets
use Rattle.usb_capture.specs.DeviceFiles.{IsLack, IsMade}
use Rattle.usb_capture_lines.specs.declared.bus_finding.BusFinding.{BusFinding}
use Rattle.usb_capture_lines.specs.declared.recording_reader.RecordingReader.{RecordingReader}
use Rattle.usb_capture_lines.specs.declared.seen_device.SeenDevice.{SeenDevice}
use Rattle.usb_capture_lines.specs.declared.selection.DeviceAddress.{DeviceAddress}
use Rattle.usb_capture_lines.specs.FindingLines.{finding_words, packet_words}
use Rattle.usb_capture_lines.specs.Following.{HasRead, Takes, readings_of, unended_in}
use Rattle.usb_capture_lines.specs.Observations.{Observed}
use Rattle.usb_capture_lines.specs.Recordings.{asked_at, time_of}
use Rattle.usb_c.specs.declared.answer.Verdict.{Verdict}
use Rattle.usb_c.specs.declared.answer.Verdict.TheVariants as verdicts
use Rattle.usb_c.specs.declared.recorded.NzgRecorded.{NzgRecorded}
use Rattle.usb_c.specs.Answers.{Puts}
use Rattle.usb_c.specs.BusPackets.{damage_number}

-- ---- what is shown, as numbers

abbrev pub no_numbers : NzgRecorded
no_numbers = record {
  time = 0;
  begun = 0;
  count = 0;
  length = 0;
  status = 0;
  bus = 0;
  device = 0;
  setup = 0 ∷ 0 ∷ 0 ∷ 0 ∷ 0 ∷ 0 ∷ 0 ∷ 0 ∷ [];
  ending = 0;
  finding = 0;
  is_cut = false;
  has_time = false;
  has_begun = false;
  has_device = false;
}

abbrev pub ending_number : Ending → ℕ
ending_number endings.Unseen = 0
ending_number endings.Done = 1
ending_number endings.Stall = 2
ending_number (endings.Failed status) = 3
ending_number (endings.Refused status) = 4

abbrev pub status_of : Ending → ℕ
status_of endings.Unseen = 0
status_of endings.Done = 0
status_of endings.Stall = 0
status_of (endings.Failed status) = status
status_of (endings.Refused status) = status

abbrev pub request_numbers : ControlTransfer → NzgRecorded
request_numbers t = record no_numbers {
  time = unwrap_or (time_of t) 0;
  begun = unwrap_or t.begun 0;
  length = t.length;
  status = status_of t.ending;
  bus = t.bus;
  device = t.device;
  setup = setup_bytes t.setup;
  ending = ending_number t.ending;
  is_cut = t.is_cut;
  has_time = is_some (time_of t);
  has_begun = is_some t.begun;
  has_device = true;
}

-- T1 is 1, and C1 to C17 are 2 to 18
abbrev pub finding_number : Finding → ℕ
finding_number finding = number_in all_findings finding

-- a finding in a request has its numbers
abbrev pub finding_numbers : ControlTransfer → Finding → NzgRecorded
finding_numbers t finding = record (request_numbers t) { finding = finding_number finding }

abbrev pub packet_number : PacketFinding → ℕ
packet_number (packets.Damaged damage) = damage_number damage
packet_number packets.NoHandshake = 7
packet_number packets.NoRequest = 8
packet_number packets.SetupRefused = 9
packet_number packets.Toggle = 10
packet_number packets.Long = 11
packet_number packets.NoShortPacket = 12
packet_number packets.StatusDirection = 13

abbrev pub packet_numbers : BusFinding → NzgRecorded
packet_numbers found = record no_numbers {
  time = unwrap_or found.time 0;
  count = found.number;
  device = unwrap_or found.address 0;
  finding = packet_number found.finding;
  has_time = is_some found.time;
  has_device = is_some found.address;
}

abbrev pub counted_at : Option DeviceAddress → ℕ → NzgRecorded
counted_at None n = record no_numbers { count = n }
counted_at (Some a) n = record no_numbers { count = n; bus = a.bus; device = a.device; has_device = true }

abbrev pub device_numbers : SeenDevice → NzgRecorded
device_numbers seen = counted_at seen.address seen.findings

-- ---- one thing that is shown: its numbers, and its data or its words

pub record Item : Type 0 where
  pub numbers : NzgRecorded
  pub bytes : List ℕ

abbrev pub request_item : ControlTransfer → Item
request_item t = record { numbers = request_numbers t; bytes = t.data }

abbrev pub finding_item : ControlTransfer → Finding → Item
finding_item t finding = record { numbers = finding_numbers t finding; bytes = finding_words finding }

abbrev pub finding_at : Option ControlTransfer → Option Finding → Option Item
finding_at (Some t) (Some finding) = Some (finding_item t finding)
finding_at t finding = None

abbrev pub packet_item : BusFinding → Item
packet_item found = record { numbers = packet_numbers found; bytes = packet_words found.finding }

abbrev pub device_item : SeenDevice → Item
device_item seen = record { numbers = device_numbers seen; bytes = [] }

-- there is one at most
abbrev pub only : ℕ → Option ControlTransfer → Option ControlTransfer
only number t = if number == 0 then t else None

-- what the last piece has shown: 1 the request that is over, 2 what is found in it, 3 what is found in packets; of all pieces: 4 requests
-- without an end, 5 devices. Each list is counted from 0.
abbrev pub item_in : RecordingReader → ℕ → ℕ → Option Item
item_in r kind number =
    if kind == 1 then option_map request_item (only number r.shown.transfer)
    else if kind == 2 then finding_at r.shown.transfer (slice_get r.shown.found.items number)
    else if kind == 3 then option_map packet_item (slice_get r.shown.in_packets.items number)
    else if kind == 4 then option_map request_item (unended_in r number)
    else if kind == 5 then option_map device_item (slice_get r.follower.devices.items number)
    else None

-- it is reported, or there is none, or no room; what isn't reported stays
abbrev pub TellsItem : Option Item → NzgRecorded → NzgRecorded → List ℕ → List ℕ → Verdict → Type 0
TellsItem None report now old new verdict = (verdict ≡ verdicts.Open 0) × (now ≡ report) × (new ≡ old)
TellsItem (Some item) report now old new verdict =
    ((verdict ≡ verdicts.Done (length item.bytes)) × (now ≡ item.numbers) × (new ≡ item.bytes ++ drop (length item.bytes) old))
    ⊎ ((verdict ≡ verdicts.NoRoom (length item.bytes)) × (length old < length item.bytes) × (now ≡ report) × (new ≡ old))

-- of a reader that is held, or none is
abbrev pub TellsHeld : Option RecordingReader → ℕ → ℕ → NzgRecorded → NzgRecorded → List ℕ → List ℕ → Verdict → Type 0
TellsHeld None kind number report now old new verdict = (verdict ≡ verdicts.Closed) × (now ≡ report) × (new ≡ old)
TellsHeld (Some r) kind number report now old new verdict = TellsItem (item_in r kind number) report now old new verdict

-- ---- reading

-- a reader that has read nothing is held, or none when out of memory
abbrev pub OpensReader : Option RecordingReader → Verdict → Type 0
OpensReader new (verdicts.Done length) = (length ≡ 0) × ((r : RecordingReader) × (new ≡ Some r) × HasRead [] [] [] r)
OpensReader new verdicts.NoMemory = new ≡ None
OpensReader new verdict = ⊥

-- whether memory was wanting for a piece
abbrev pub is_memory : CaptureFault → Bool
is_memory faults.Memory = true
is_memory why = false

abbrev pub wants_memory : Result ℕ CaptureFault → Bool
wants_memory (Ok used) = false
wants_memory (Err why) = is_memory why

-- what a reader answers to a piece otherwise, as a verdict
abbrev pub fed_so : Result ℕ CaptureFault → ℕ → Verdict
fed_so (Ok used) place = verdicts.Open used
fed_so (Err why) place = verdicts.Capture why place

-- a reader that is held takes a piece, and is freed where memory is wanting
abbrev pub FedSo : Bool → Result ℕ CaptureFault → RecordingReader → Option RecordingReader → Verdict → Type 0
FedSo true result after new verdict = (new ≡ None) × (verdict ≡ verdicts.NoMemory)
FedSo false result after new verdict = (new ≡ Some after) × (verdict ≡ fed_so result after.reader.place)

pub record FeedsReader (old : RecordingReader) (piece : List ℕ) (new : Option RecordingReader) (verdict : Verdict) : Type 0 where
  pub after : RecordingReader
  pub result : Result ℕ CaptureFault
  pub takes : Takes old piece result after
  pub becomes : FedSo (wants_memory result) result after new verdict

abbrev pub FeedsHeld : Option RecordingReader → List ℕ → Option RecordingReader → Verdict → Type 0
FeedsHeld None piece new verdict = (new ≡ None) × (verdict ≡ verdicts.Closed)
FeedsHeld (Some old) piece new verdict = FeedsReader old piece new verdict

-- at the end of the file: how many bytes are left of a part that isn't whole, and where it begins
pub record EndsReader (r : RecordingReader) (verdict : Verdict) : Type 0 where
  pub left : ℕ
  pub says : verdict ≡ verdicts.Due r.reader.place left
  pub part : (bytes : List ℕ) (frames : List Frame) (observed : List Observed) (read : HasRead bytes frames observed r) → left ≡ length read.read.1

abbrev pub EndsAt : Option RecordingReader → Verdict → Type 0
EndsAt None verdict = verdict ≡ verdicts.Closed
EndsAt (Some r) verdict = EndsReader r verdict

-- ---- the descriptors of a device

abbrev pub DeviceMade : DeviceFile → List ℕ → List ℕ → Verdict → Type 0
DeviceMade (files.File bytes) old new verdict = Puts (verdicts.Meant 2 0) bytes.items old new verdict
DeviceMade (files.Dump bytes) old new verdict = Puts (verdicts.Meant 3 0) bytes.items old new verdict

abbrev pub lacking : FileLack → Verdict
lacking lacks.Device = verdicts.Lack None
lacking (lacks.Configuration index) = verdicts.Lack (Some index)
lacking lacks.Memory = verdicts.NoMemory

pub record PutsDevice (r : RecordingReader) (device : DeviceAddress) (old new : List ℕ) (verdict : Verdict) : Type 0 where
  pub file : DeviceFile
  pub made : IsMade (readings_of r) (asked_at device) file
  pub puts : DeviceMade file old new verdict

pub record LacksDevice (r : RecordingReader) (device : DeviceAddress) (old new : List ℕ) (verdict : Verdict) : Type 0 where
  pub lack : FileLack
  pub lacks : IsLack (readings_of r) (asked_at device) lack
  pub says : verdict ≡ lacking lack
  pub same : new ≡ old

abbrev pub TellsDevice : Option RecordingReader → DeviceAddress → List ℕ → List ℕ → Verdict → Type 0
TellsDevice None device old new verdict = (verdict ≡ verdicts.Closed) × (new ≡ old)
TellsDevice (Some r) device old new verdict = PutsDevice r device old new verdict ⊎ LacksDevice r device old new verdict
