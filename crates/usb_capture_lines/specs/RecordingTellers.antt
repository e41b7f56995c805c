-- Recordings as bytes: what they have, and what is reported of them.
use Rattle.std.specs.Prelude.{◌≡◌, ⊤, ℕ, ◌<◌, ◌^◌, ◌-◌, Bool, List, [], ◌++◌, length, reverse, min, Option, Some, None}
use Rattle.std.specs.Io.KnownBytes.{Appends}
use Rattle.usb_capture.specs.declared.control_transfer.ControlTransfer.{ControlTransfer}
use Rattle.usb_capture.specs.declared.fault.CaptureFault.{CaptureFault}
use Rattle.usb_capture.specs.declared.fault.CaptureFault.TheVariants as captures
use Rattle.usb_capture.specs.declared.frame.Frame.{Frame}
use Rattle.usb_capture.specs.Files.{AreParts, IsRefusedAfter, bytes_of, frames_of, start, state_after, whole}
use Rattle.usb_capture.specs.Reading.{IsRead}
use Rattle.usb_text.specs.Output.{Held}
use Rattle.usb_text.specs.declared.output.OutFault.{OutFault}
use Rattle.usb_text.specs.declared.output.OutFault.TheVariants as outs
use Rattle.usb_capture_lines.specs.Observations.{AreObserved, Observed}
use Rattle.usb_capture_lines.specs.Recordings.{capture_text, ended_text, is_any_found, tally_of, reported_text}
use Rattle.usb_capture_lines.specs.Telling.{HasSaid}
use Rattle.usb_capture_lines.specs.declared.recording_teller.RecordingTeller.{RecordingTeller}
use Rattle.usb_capture_lines.specs.declared.recording_teller.TellFault.{TellFault}
use Rattle.usb_capture_lines.specs.declared.recording_teller.TellFault.TheVariants as faults
use Rattle.usb_capture_lines.specs.declared.selection.Selection.{Selection}
use Rattle.usb_capture_lines.specs.declared.teller.Teller.{Teller}

-- the bytes are whole parts with these frames, and then this many bytes of a part that isn't whole and begins at this place
pub record IsRecording (bytes : List ℕ) (frames : List Frame) (place left : ℕ) : Type 0 where
  pub parts : List (List ℕ)
  pub part : List ℕ
  pub bytes_are : bytes ≡ bytes_of parts ++ part
  pub each : AreParts start parts
  pub unfinished : length part < whole (state_after start parts).stage part
  pub read : frames ≡ frames_of start parts
  pub place_is : place ≡ min (length (bytes_of parts)) (2 ^ 64 - 1)
  pub left_is : left ≡ length part

-- what a recording has: its frames, and what is observed in them, the last one first
pub record Recorded (bytes : List ℕ) : Type 0 where
  pub frames : List Frame
  pub observed : List Observed
  pub place : ℕ
  pub left : ℕ
  pub recording : IsRecording bytes frames place left
  pub report : AreObserved (reverse frames) observed

-- the same of one up to a part with this fault, at this place or past the greatest number
pub record RecordedUpTo (bytes : List ℕ) (why : CaptureFault) (at : ℕ) : Type 0 where
  pub frames : List Frame
  pub observed : List Observed
  pub place : ℕ
  pub refused : IsRefusedAfter bytes frames why place
  pub at_is : at ≡ min place (2 ^ 64 - 1)
  pub report : AreObserved (reverse frames) observed

-- the lines that are reported of frames so far
abbrev pub lines_so_far : Selection → ℕ → {bytes : List ℕ} → Recorded bytes → List ℕ
lines_so_far s first it = reported_text s first (reverse it.frames) it.observed

-- all lines, with the last ones
abbrev pub lines_of_all : Selection → ℕ → {bytes : List ℕ} → Recorded bytes → List ℕ
lines_of_all s first it = capture_text s first (reverse it.frames) it.observed it.place it.left

-- the last lines, if there was a frame
abbrev pub if_begun : Option ℕ → List ℕ → List ℕ
if_begun None lines = []
if_begun (Some link) lines = lines

-- all lines of what came before a fault
abbrev pub lines_up_to : Selection → ℕ → {bytes : List ℕ} → {why : CaptureFault} → {at : ℕ} → RecordedUpTo bytes why at → List ℕ
lines_up_to s first {at = at} it =
    reported_text s first (reverse it.frames) it.observed ++ if_begun (tally_of (reverse it.frames)).link (ended_text s (reverse it.frames) it.observed at 0)

-- What one who tells has read and written.

-- who tells of a file with this first byte has reported these frames
pub record TellerReported (s : Selection) (first : ℕ) (frames : List Frame) (teller : Teller) (held holds : Held) : Type 0 where
  pub observed : List Observed
  pub said : HasSaid (reverse frames) observed teller held holds
  pub selection : teller.selection ≡ s
  pub first_is : teller.first ≡ first

-- these bytes of a recording were read, and what is to be reported of their frames was written
pub record HasReported (s : Selection) (first : ℕ) (bytes : List ℕ) (recording : RecordingTeller) (held holds : Held) : Type 0 where
  pub frames : List Frame
  pub read : IsRead bytes frames recording.reader
  pub going : recording.reader.failed ≡ None
  pub report : TellerReported s first frames recording.teller held holds

-- the bytes have a fault, and what is to be reported of the frames before it was written
pub record ReportedUpTo (s : Selection) (first : ℕ) (bytes : List ℕ) (why : CaptureFault) (at : ℕ) (recording : RecordingTeller) (held holds : Held) : Type 0 where
  pub frames : List Frame
  pub place : ℕ
  pub refused : IsRefusedAfter bytes frames why place
  pub at_is : at ≡ min place (2 ^ 64 - 1)
  pub report : TellerReported s first frames recording.teller held holds

-- why it is reported no further
abbrev pub Halts : Selection → ℕ → List ℕ → RecordingTeller → Held → Held → TellFault → Type 0
Halts s first bytes recording held holds faults.Write = ⊤
Halts s first bytes recording held holds faults.Memory = ⊤
Halts s first bytes recording held holds (faults.Capture why at) = ReportedUpTo s first bytes why at recording held holds

abbrev pub tell_fault_of : CaptureFault → ℕ → TellFault
tell_fault_of captures.Memory at = faults.Memory
tell_fault_of why at = faults.Capture why at

abbrev pub fault_of_output : OutFault → TellFault
fault_of_output outs.Write = faults.Write
fault_of_output outs.Memory = faults.Memory

-- all lines of a recording were written, and whether something is found
pub record ReportedWhole (s : Selection) (first : ℕ) (bytes : List ℕ) (held holds : Held) (found : Bool) : Type 0 where
  pub it : Recorded bytes
  pub finds : found ≡ is_any_found s it.observed
  pub written : Appends held holds (lines_of_all s first it)

-- and of one with a fault
pub record ReportedBroken (s : Selection) (first : ℕ) (bytes : List ℕ) (why : CaptureFault) (at : ℕ) (held holds : Held) : Type 0 where
  pub it : RecordedUpTo bytes why at
  pub written : Appends held holds (lines_up_to s first it)

-- the readings that it keeps
abbrev pub readings_of : RecordingTeller → List ControlTransfer
readings_of recording = recording.teller.readings.readings.kept.items
