-- What a reader of a recording has read, knows and shows. Lists of frames, and of what is observed in them, have the last one first.
use Rattle.std.specs.Prelude.{◌≡◌, ◌⊎◌, ◌≤◌, ◌<◌, ℕ, ◌^◌, ◌-◌, List, [], ◌∷◌, ◌++◌, IfErr, IfOk, length, min, reverse, slice_get, take, Option, Some, None, Result, Err}
use Rattle.std.specs.Option.{option_map, option_or}
use Rattle.usb_capture.specs.declared.control_transfer.ControlTransfer.{ControlTransfer}
use Rattle.usb_capture.specs.declared.fault.CaptureFault.{CaptureFault}
use Rattle.usb_capture.specs.declared.fault.CaptureFault.TheVariants as faults
use Rattle.usb_capture.specs.declared.finding.Finding.{Finding}
use Rattle.usb_capture.specs.declared.frame.Frame.{Frame}
use Rattle.usb_capture.specs.declared.open_transfer.OpenTransfer.{OpenTransfer}
use Rattle.usb_capture.specs.Conversations.{Knows}
use Rattle.usb_capture.specs.DeviceReadings.{HasCurrent}
use Rattle.usb_capture.specs.Files.{IsRefusedAfter}
use Rattle.usb_capture.specs.TransferFindings.{findings}
use Rattle.usb_capture.specs.Reading.{IsRead}
use Rattle.usb_capture_lines.specs.Observations.{AreObserved, HasObserved, Observed, found_by, frame_count, over_by, overs}
use Rattle.usb_capture_lines.specs.Recordings.{devices_of}
use Rattle.usb_capture_lines.specs.declared.follower.Follower.{Follower}
use Rattle.usb_capture_lines.specs.declared.recording_reader.RecordingReader.{RecordingReader}
use Rattle.usb_capture_lines.specs.declared.shown.Shown.{Shown}

-- frames were taken in which this was observed
pub record Follows (frames : List Frame) (observed : List Observed) (follower : Follower) : Type 0 where
  pub are : AreObserved frames observed
  pub observer : HasObserved observed follower.observer
  pub knows : Knows (overs observed) follower.conversations
  pub kept : HasCurrent (reverse (overs observed)) follower.readings
  pub devices : follower.devices.items ≡ devices_of observed
  pub count : follower.frames ≡ frame_count frames

-- what is found in a transfer that is over, if one is, after these
abbrev pub found_in : List ControlTransfer → Option ControlTransfer → List Finding
found_in earlier None = []
found_in earlier (Some t) = findings earlier t

-- what is shown with a frame in which this is observed
pub record Shows (earlier : List Observed) (x : Observed) (shown : Shown) : Type 0 where
  pub transfer : shown.transfer ≡ over_by earlier x
  pub found : shown.found.items ≡ found_in (overs earlier) (over_by earlier x)
  pub in_packets : shown.in_packets.items ≡ found_by earlier x

-- nothing is shown
pub record ShowsNothing (shown : Shown) : Type 0 where
  pub transfer : shown.transfer ≡ None
  pub found : shown.found.items ≡ []
  pub in_packets : shown.in_packets.items ≡ []

-- a frame more was taken, if there is one, and what it shows is shown
abbrev pub FollowsOn : List Frame → List Observed → Option Frame → Follower → Shown → Type 0
FollowsOn frames observed None follower shown = Follows frames observed follower × ShowsNothing shown
FollowsOn frames observed (Some f) follower shown = (x : Observed) × Follows (f ∷ frames) (x ∷ observed) follower × Shows observed x shown

-- these bytes were read, with these frames in them
pub record HasRead (bytes : List ℕ) (frames : List Frame) (observed : List Observed) (recording : RecordingReader) : Type 0 where
  pub read : IsRead bytes (reverse frames) recording.reader
  pub going : recording.reader.failed ≡ None
  pub follows : Follows frames observed recording.follower

-- they end within a part or a part without a frame, and nothing is shown; or with a frame, and what it shows is shown
abbrev pub GoesOn : List ℕ → List Frame → List Observed → RecordingReader → Type 0
GoesOn bytes frames observed recording =
    (HasRead bytes frames observed recording × ShowsNothing recording.shown)
    ⊎ ((f : Frame) × (x : Observed) × HasRead bytes (f ∷ frames) (x ∷ observed) recording × Shows observed x recording.shown)

-- the bytes have a fault after these frames
pub record HasFailed (bytes : List ℕ) (frames : List Frame) (observed : List Observed) (fault : CaptureFault) (recording : RecordingReader) : Type 0 where
  pub place : ℕ
  pub refused : IsRefusedAfter bytes (reverse frames) fault place
  pub at : recording.reader.place ≡ min place (2 ^ 64 - 1)
  pub failed : recording.reader.failed ≡ Some fault
  pub follows : Follows frames observed recording.follower

-- What a reader does with a piece: it takes bytes from its beginning, one at least if there is one, or finds a fault, which stays.
pub record Takes (old : RecordingReader) (piece : List ℕ) (result : Result ℕ CaptureFault) (new : RecordingReader) : Type 0 where
  pub within : IfOk result (λ used. used ≤ length piece)
  pub ok : IfOk result (λ used. (bytes : List ℕ) (frames : List Frame) (observed : List Observed) → HasRead bytes frames observed old
      → (0 < length piece → 0 < used) × GoesOn (bytes ++ take used piece) frames observed new)
  pub refused : IfErr result (λ fault. (bytes : List ℕ) (frames : List Frame) (observed : List Observed) → HasRead bytes frames observed old
      → (fault ≡ faults.Memory) ⊎ HasFailed (bytes ++ piece) frames observed fault new)
  pub stays : (fault : CaptureFault) → old.reader.failed ≡ Some fault → result ≡ Err fault

-- the transfer with this number, from 0 on, of those whose end hasn't come: those of hosts first, then those of the bus
abbrev pub hosts_open : RecordingReader → List OpenTransfer
hosts_open recording = recording.follower.observer.controls.held.items

abbrev pub bus_open : RecordingReader → List OpenTransfer
bus_open recording = recording.follower.observer.transfers.pipes.held.held.items

abbrev pub unended_in : RecordingReader → ℕ → Option ControlTransfer
unended_in recording number =
    option_map (λ o. o.transfer) (option_or (slice_get (hosts_open recording) number) (slice_get (bus_open recording) (number - length (hosts_open recording))))

-- the readings that are kept
abbrev pub readings_of : RecordingReader → List ControlTransfer
readings_of recording = recording.follower.readings.readings.kept.items
