-- What calls do to a device that C holds as numbers, beside an image and a room that it lends.
use Rattle.std.specs.Prelude.{◌≡◌, ℕ, Bool, true, false, List, length, Option, Some, None}
use Rattle.usb_fields.specs.Packets.{Sent}
use Rattle.usb_fields.specs.Setup.{setup_bytes}
use Rattle.usb_fields.specs.declared.setup.Setup.{Setup}
use Rattle.usb_fields.specs.declared.packet.Speed.{Speed}
use Rattle.usb_file_data.specs.File.{File}
use Rattle.usb_file_data.specs.declared.file.DescriptorFile.{DescriptorFile}
use Rattle.usb_file_data.specs.declared.fault.InputFault.TheVariants as inputs
use Rattle.usb_file_data.specs.FileFaults.{FileFaulty}
use Rattle.usb_device.specs.Accepted.{Accepted}
use Rattle.usb_device.specs.FileImages.{image_of}
use Rattle.usb_device.specs.Step.{DeviceView}
use Rattle.usb_device.specs.View.{device_of, served_over, IsOf}
use Rattle.usb_device.specs.declared.beside.Unanswered.{Unanswered}
use Rattle.usb_device.specs.declared.endpoint_zero.EndpointZero.{EndpointZero}
use Rattle.usb_c.specs.declared.transaction.NzgPacket.{NzgPacket}
use Rattle.usb_c.specs.Transactions.{packet_of}
use Rattle.usb_c.specs.declared.answer.Verdict.{Verdict}
use Rattle.usb_c.specs.declared.answer.Verdict.TheVariants as verdicts
use Rattle.usb_c.specs.declared.device_owner.NzgSetup.{NzgSetup}
use Rattle.usb_c.specs.Answers.{Puts, RefusesFile}

-- The image of a file.

-- the bytes are a file of which there is a device of this speed, and its image is in the buffer, or its length is wanted
pub record PutsImageOf (b : List ℕ) (speed : Speed) (old new : List ℕ) (verdict : Verdict) : Type 0 where
  pub file : DescriptorFile
  pub layout : File file b
  pub accepted : Accepted file speed
  pub puts : Puts verdicts.Done (image_of file) old new verdict

-- of bytes that are no file, or of which there is no device, the buffer is as it was
abbrev pub PutsImageAt : List ℕ → Speed → List ℕ → List ℕ → Verdict → Type 0
PutsImageAt b speed old new (verdicts.Done length) = PutsImageOf b speed old new (verdicts.Done length)
PutsImageAt b speed old new (verdicts.NoRoom length) = PutsImageOf b speed old new (verdicts.NoRoom length)
PutsImageAt b speed old new (verdicts.Broken (inputs.File fault) length) = (length ≡ 0) × FileFaulty b fault.at fault.why × (new ≡ old)
PutsImageAt b speed old new (verdicts.Description fault) = RefusesFile b speed fault × (new ≡ old)
PutsImageAt b speed old new verdicts.NoMemory = new ≡ old
PutsImageAt b speed old new verdict = ⊥

abbrev pub PutsImage : List ℕ → Option Speed → List ℕ → List ℕ → Verdict → Type 0
PutsImage b None old new verdict = (verdict ≡ verdicts.BadArgument 3) × (new ≡ old)
PutsImage b (Some speed) old new verdict = PutsImageAt b speed old new verdict

-- The device. Any numbers are safe; what comes of a call is said of numbers that are those of a device with this image and this room.
-- They are so from `{0}` on, with any image that has a head and any room.

-- with this room, and this one after the call, they have become those of the device after this change
abbrev pub Becomes : (DeviceView → DeviceView) → List ℕ → List ℕ → EndpointZero → List ℕ → EndpointZero → Type 0
Becomes change image kept old kept_then new =
    IsOf image kept old → (device_of image kept_then new ≡ change (device_of image kept old)) × IsOf image kept_then new

-- a call with an image that has a head, and with no room: whatever is there stays
abbrev pub Changes : (DeviceView → DeviceView) → Bool → List ℕ → EndpointZero → EndpointZero → Type 0
Changes change true image old new = (kept : List ℕ) → Becomes change image kept old kept new
Changes change false image old new = new ≡ old

-- a transaction that has a meaning, with an image; else nothing changes
abbrev pub Serves : Bool → Option Sent → List ℕ → List ℕ → EndpointZero → Bool → NzgPacket → List ℕ → EndpointZero → NzgPacket → Bool → Type 0
Serves true (Some sent) image kept old ready before kept_then new packet done =
    (done ≡ true)
    × Becomes (λ d. (served_over image d sent ready).device) image kept old kept_then new
    × (IsOf image kept old → packet ≡ packet_of (served_over image (device_of image kept old) sent ready).reply before)
Serves has_head sent image kept old ready before kept_then new packet done =
    (done ≡ false) × (new ≡ old) × (kept_then ≡ kept) × (packet ≡ before)

-- the bytes of a request, if there is one, or what stood there
abbrev pub setup_reported : Option Setup → NzgSetup → NzgSetup
setup_reported None old = old
setup_reported (Some q) old = record { bytes = setup_bytes q }

-- what is reported of an answer to the request that is refused, or of accepting it
abbrev pub taken_or : Option Unanswered → Verdict
taken_or None = verdicts.Done 0
taken_or (Some why) = verdicts.Unanswered why

-- A write whose data have all come, and that is not answered yet: its request is reported, and how many they are. They begin the room, as
-- `written_bytes` of usb_device/Stages says.
abbrev pub TellsWrite : Option (Setup × List ℕ) → NzgSetup → NzgSetup → Verdict → Type 0
TellsWrite None old new verdict = (verdict ≡ verdicts.Open 0) × (new ≡ old)
TellsWrite (Some (request, got)) old new verdict = (verdict ≡ verdicts.Done (length got)) × (new ≡ record { bytes = setup_bytes request })
