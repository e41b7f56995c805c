-- What is reported of a recording that a reader gives, and what is made of a device's descriptors.
use Rattle.std.specs.Prelude.{◌≡◌, ◌⊎◌, ⊤, ℕ, Bool, List, [], ◌∷◌, ◌++◌, Option, Some, None}
use Rattle.std.specs.Io.KnownBytes.{Appends, Consumes, IsAtEnd}
use Rattle.usb_capture.specs.declared.device_file.DeviceFile.{DeviceFile}
use Rattle.usb_capture.specs.declared.device_file.FileLack.{FileLack}
use Rattle.usb_capture.specs.declared.device_file.FileLack.TheVariants as lacks
use Rattle.usb_capture.specs.declared.fault.CaptureFault.{CaptureFault}
use Rattle.usb_capture.specs.DeviceFiles.{IsLack, IsMade}
use Rattle.usb_text.specs.Output.{Held}
use Rattle.usb_capture_lines.specs.Recordings.{asked_at, readings_in}
use Rattle.usb_capture_lines.specs.RecordingTellers.{HasReported, Recorded, RecordedUpTo, ReportedBroken, ReportedUpTo, ReportedWhole, lines_so_far}
use Rattle.usb_capture_lines.specs.declared.recording.DeviceFault.{DeviceFault}
use Rattle.usb_capture_lines.specs.declared.recording.DeviceFault.TheVariants as devices
use Rattle.usb_capture_lines.specs.declared.recording.RecordingFault.{RecordingFault}
use Rattle.usb_capture_lines.specs.declared.recording.RecordingFault.TheVariants as faults
use Rattle.usb_capture_lines.specs.declared.recording_teller.RecordingTeller.{RecordingTeller}
use Rattle.usb_capture_lines.specs.declared.recording_teller.TellFault.{TellFault}
use Rattle.usb_capture_lines.specs.declared.recording_teller.TellFault.TheVariants as tells
use Rattle.usb_capture_lines.specs.declared.selection.DeviceAddress.{DeviceAddress}
use Rattle.usb_capture_lines.specs.declared.selection.Selection.{Selection}

-- the bytes that a reader has left, where it tells them
abbrev pub Left : Type 0
Left = Option (List ℕ)

-- bytes are read after these, however many, and this holds of all
pub record ReadsOn (before : List ℕ) (holds : List ℕ → Type 0) (from to : Left) : Type 0 where
  pub bytes : List ℕ
  pub read : Consumes from to bytes
  pub all : holds (before ++ bytes)

-- the first byte says what form a recording has
abbrev pub first_byte : List ℕ → ℕ
first_byte [] = 0
first_byte (byte ∷ bytes) = byte

-- the next byte, or that there is none
abbrev pub ReadsByte : Left → Left → Option ℕ → Type 0
ReadsByte old new None = Consumes old new [] × IsAtEnd new
ReadsByte old new (Some byte) = Consumes old new (byte ∷ [])

-- What is reported.

-- the lines of a recording so far were written
pub record ReportedSoFar (s : Selection) (bytes : List ℕ) (held holds : Held) : Type 0 where
  pub it : Recorded bytes
  pub written : Appends held holds (lines_so_far s (first_byte bytes) it)

-- why no more is reported of bytes, and what was written then: where a read fails the lines of what came before, and where the
-- recording has a fault all lines of what came before that
abbrev pub StopsTelling : Selection → List ℕ → Held → Held → RecordingFault → Type 0
StopsTelling s bytes held holds faults.Read = ReportedSoFar s bytes held holds
StopsTelling s bytes held holds faults.TooLarge = ReportedSoFar s bytes held holds
StopsTelling s bytes held holds faults.Write = ⊤
StopsTelling s bytes held holds faults.Memory = ⊤
StopsTelling s bytes held holds (faults.Capture why at) = ReportedBroken s (first_byte bytes) bytes why at held holds

-- all is read after these bytes, all lines of all were written, and whether something is found
abbrev pub ReportedAfter : Selection → List ℕ → Left → Left → Held → Held → Bool → Type 0
ReportedAfter s before from to held holds found = IsAtEnd to × ReadsOn before (λ bytes. ReportedWhole s (first_byte bytes) bytes held holds found) from to

-- all was read, all lines were written, and whether something is found
abbrev pub RecordingReported : Selection → Left → Left → Held → Held → Bool → Type 0
RecordingReported s = ReportedAfter s []

-- some bytes were read, and no more is reported of them
abbrev pub RecordingStops : Selection → Left → Left → Held → Held → RecordingFault → Type 0
RecordingStops s from to held holds fault = ReadsOn [] (λ bytes. StopsTelling s bytes held holds fault) from to

-- What is made of a device's descriptors.

-- the file or the dump of a device
pub record MakesFile (device : DeviceAddress) (bytes : List ℕ) (file : DeviceFile) : Type 0 where
  pub it : Recorded bytes
  pub made : IsMade (readings_in it.observed) (asked_at device) file

-- there is none
pub record LacksFile (device : DeviceAddress) (bytes : List ℕ) (lack : FileLack) : Type 0 where
  pub it : Recorded bytes
  pub lacks : IsLack (readings_in it.observed) (asked_at device) lack

-- why none is made of bytes: not all were read, or something lacks in them
abbrev pub HasNoFile : DeviceAddress → Left → List ℕ → DeviceFault → Type 0
HasNoFile device to bytes (devices.Recording (faults.Capture why at)) = RecordedUpTo bytes why at
HasNoFile device to bytes (devices.Recording fault) = ⊤
HasNoFile device to bytes (devices.Lack lack) = IsAtEnd to × LacksFile device bytes lack

-- What the functions that read a recording say to each other.

-- what is known where a recording of these bytes is read no further
abbrev pub Stops : Selection → ℕ → List ℕ → RecordingTeller → Held → Held → RecordingFault → Type 0
Stops s first bytes recording held holds faults.Read = HasReported s first bytes recording held holds
Stops s first bytes recording held holds faults.TooLarge = HasReported s first bytes recording held holds
Stops s first bytes recording held holds faults.Write = ⊤
Stops s first bytes recording held holds faults.Memory = ⊤
Stops s first bytes recording held holds (faults.Capture why at) = ReportedUpTo s first bytes why at recording held holds

abbrev pub recording_fault_of : TellFault → RecordingFault
recording_fault_of tells.Write = faults.Write
recording_fault_of tells.Memory = faults.Memory
recording_fault_of (tells.Capture why at) = faults.Capture why at

abbrev pub device_fault_of : FileLack → DeviceFault
device_fault_of lacks.Memory = devices.Recording faults.Memory
device_fault_of lack = devices.Lack lack

-- bytes were read after these, and what is to be reported of all was written
abbrev pub Pours : Selection → ℕ → List ℕ → Left → Left → RecordingTeller → Held → Held → Type 0
Pours s first before from to recording held holds = ReadsOn before (λ bytes. HasReported s first bytes recording held holds) from to

-- up to where it is read no further
abbrev pub PoursInVain : Selection → ℕ → List ℕ → Left → Left → RecordingTeller → Held → Held → RecordingFault → Type 0
PoursInVain s first before from to recording held holds stop = ReadsOn before (λ bytes. Stops s first bytes recording held holds stop) from to

-- a writer failed, or memory was wanting
abbrev pub IsWriteFault : RecordingFault → Type 0
IsWriteFault faults.Write = ⊤
IsWriteFault faults.Memory = ⊤
IsWriteFault fault = ⊥

-- all lines were written of what a teller has taken, and whether something is found
abbrev pub EndsWhole : RecordingTeller → Held → Held → Bool → Type 0
EndsWhole recording old new found =
    (s : Selection) (first : ℕ) (bytes : List ℕ) (held : Held) → HasReported s first bytes recording held old → ReportedWhole s first bytes held new found

-- the fault of a recording after all lines of what came before it, or one of writing these
abbrev pub EndsBroken : Selection → ℕ → List ℕ → CaptureFault → ℕ → Held → Held → RecordingFault → Type 0
EndsBroken s first bytes why at held holds fault = ((fault ≡ faults.Capture why at) × ReportedBroken s first bytes why at held holds) ⊎ IsWriteFault fault
