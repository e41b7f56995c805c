-- What `capture` tells of a recording, and what it makes of a device's descriptors.
use Rattle.std.specs.Prelude.{◌≡◌, ◌⊎◌, ℕ, Bool, List, []}
use Rattle.std.specs.Int.{from_bool}
use Rattle.std.specs.Io.KnownBytes.{Appends, IsAtEnd, Keeps}
use Rattle.usb_capture.specs.declared.device_file.DeviceFile.{DeviceFile}
use Rattle.usb_capture.specs.declared.device_file.DeviceFile.TheVariants.{File, Dump}
use Rattle.usb_capture_lines.specs.RecordingRuns.{HasNoFile, MakesFile, ReadsOn, RecordingStops, RecordingReported}
use Rattle.usb_capture_lines.specs.declared.recording.DeviceFault.{DeviceFault}
use Rattle.usb_capture_lines.specs.declared.recording.RecordingFault.{RecordingFault}
use Rattle.usb_capture_lines.specs.declared.selection.DeviceAddress.{DeviceAddress}
use Rattle.usb_capture_lines.specs.declared.selection.Selection.{Selection}
use Rattle.usb_text.specs.Output.{AppendsFront, Held}
use Rattle.usb_tool.specs.Endings.{Extent, Failure, Left, Work}
use Rattle.usb_tool.specs.Faults.{fault_of_device, fault_of_recording}
use Rattle.usb_tool.specs.declared.capture_options.CaptureCommand.{CaptureCommand}
use Rattle.usb_tool.specs.declared.capture_options.CaptureCommand.TheVariants as commands
use Rattle.usb_tool.specs.declared.fault.ToolFault.{ToolFault}
use Rattle.usb_tool.specs.declared.fault.ToolFault.TheVariants as faults

abbrev pub made_bytes : DeviceFile → List ℕ
made_bytes (File bytes) = bytes.items
made_bytes (Dump bytes) = bytes.items

-- all was read, and so much of the file or the dump of a device was written
pub record WritesFile (extent : Extent) (device : DeviceAddress) (from to : Left) (held holds : Held) : Type 0 where
  pub file : DeviceFile
  pub ended : IsAtEnd to
  pub made : ReadsOn [] (λ bytes. MakesFile device bytes file) from to
  pub written : extent held holds (made_bytes file)

-- there is none, and nothing was written
pub record RefusesFile (device : DeviceAddress) (from to : Left) (held holds : Held) (fault : ToolFault) : Type 0 where
  pub why : DeviceFault
  pub is : fault ≡ fault_of_device device why
  pub none : ReadsOn [] (λ bytes. HasNoFile device to bytes why) from to
  pub kept : Keeps held holds

-- why no more is reported of a recording
pub record StopsRecording (s : Selection) (from to : Left) (held holds : Held) (fault : ToolFault) : Type 0 where
  pub why : RecordingFault
  pub is : fault ≡ fault_of_recording why
  pub stopped : RecordingStops s from to held holds why

-- all was read and reported, with status 1 where something was found
pub record TellsRecording (s : Selection) (from to : Left) (held holds : Held) (status : ℕ) : Type 0 where
  pub found : Bool
  pub report : RecordingReported s from to held holds found
  pub ended : status ≡ from_bool found

-- what `capture` does
abbrev pub CaptureDone : CaptureCommand → Work
CaptureDone (commands.Lines s) from to held holds status = TellsRecording s from to held holds status
CaptureDone (commands.File device) from to held holds status = WritesFile Appends device from to held holds × (status ≡ 0)

-- how it fails; a front of a file is written where writing it fails
abbrev pub CaptureFails : CaptureCommand → Failure
CaptureFails (commands.Lines s) from to held holds fault = StopsRecording s from to held holds fault
CaptureFails (commands.File device) from to held holds fault =
    RefusesFile device from to held holds fault ⊎ ((fault ≡ faults.Write) × WritesFile AppendsFront device from to held holds)
