-- What is reported of a recording that a reader gives.
use Rattle.std.proofs.Common.{◌≡◌, ℕ, Bool, List, [], ◌∷◌, ◌++◌, append_assoc, append-nil, refl, sym, subst, arith, inl, inr}
use Rattle.std.specs.Prelude.{Some, None, Result, Ok, Err, OnOk, IfErr}
use Rattle.std.specs.Io.KnownBytes.{Consumes, IsAtEnd, Keeps}
use Rattle.std.proofs.KnownBytes.{Consumes-trans}
use Rattle.usb_capture.specs.declared.device_file.DeviceFile.{DeviceFile}
use Rattle.usb_capture.specs.declared.device_file.FileLack.{FileLack}
use Rattle.usb_capture.specs.declared.device_file.FileLack.TheVariants as lacks
use Rattle.usb_capture.specs.declared.fault.CaptureFault.{CaptureFault}
use Rattle.usb_capture.specs.DeviceFiles.{IsLack, IsMade}
use Rattle.usb_text.specs.Output.{Held}
use Rattle.usb_text.proofs.Pages.{appends_kept, appends_nothing, keeps_refl}
use Rattle.usb_capture_lines.specs.Recordings.{asked_at}
use Rattle.usb_capture_lines.specs.RecordingTellers.{Halts, HasReported, Recorded, ReportedBroken, ReportedWhole, readings_of}
use Rattle.usb_capture_lines.specs.RecordingRuns.{EndsBroken, EndsWhole, HasNoFile, IsWriteFault, LacksFile, Left, MakesFile, Pours, PoursInVain, ReadsOn, Stops, StopsTelling, ReportedAfter, ReportedSoFar, device_fault_of, first_byte, recording_fault_of}
use Rattle.usb_capture_lines.specs.declared.recording.DeviceFault.TheVariants as devices
use Rattle.usb_capture_lines.specs.declared.recording.RecordingFault.{RecordingFault}
use Rattle.usb_capture_lines.specs.declared.recording.RecordingFault.TheVariants as faults
use Rattle.usb_capture_lines.specs.declared.recording_teller.RecordingTeller.{RecordingTeller}
use Rattle.usb_capture_lines.specs.declared.recording_teller.TellFault.{TellFault}
use Rattle.usb_capture_lines.specs.declared.recording_teller.TellFault.TheVariants as tells
use Rattle.usb_capture_lines.specs.declared.selection.DeviceAddress.{DeviceAddress}
use Rattle.usb_capture_lines.specs.declared.selection.Selection.{Selection}
use Rattle.usb_capture_lines.proofs.RecordingLemmas.{lines_reported, readings_reported, recorded, recorded_up_to}

-- one byte, and what is read after it
pub after_one : (byte : ℕ) (holds : List ℕ → Type 0) (from mid to : Left) → Consumes from mid (byte ∷ []) → ReadsOn (byte ∷ []) holds mid to → ReadsOn [] holds from to
after_one byte holds from mid to one more = record {
  bytes = byte ∷ more.bytes;
  read = Consumes-trans from mid to (byte ∷ []) more.bytes one more.read;
  all = more.all;
}

-- a piece, and what is read after it
pub after_piece : (before piece : List ℕ) (holds : List ℕ → Type 0) (from mid to : Left) → Consumes from mid piece → ReadsOn (before ++ piece) holds mid to → ReadsOn before holds from to
after_piece before piece holds from mid to one more = record {
  bytes = piece ++ more.bytes;
  read = Consumes-trans from mid to piece more.bytes one more.read;
  all = subst holds (append_assoc before piece more.bytes) more.all;
}

-- nothing is read on
pub reads_nothing : (before : List ℕ) (holds : List ℕ → Type 0) (from to : Left) → Consumes from to [] → holds before → ReadsOn before holds from to
reads_nothing before holds from to none has = record { bytes = []; read = none; all = subst holds (sym (append-nil before)) has }

pub kept_is_nothing : (a b : Left) → Keeps a b → Consumes a b []
kept_is_nothing None b keeps = tt
kept_is_nothing (Some xs) None keeps = absurd keeps
kept_is_nothing (Some xs) (Some ys) keeps = sym keeps

-- reading so far, as a loop has it
pub poured_more : (s : Selection) (first : ℕ) (before piece : List ℕ) (old new : RecordingTeller) (from mid to : Left) (held a b : Held)
    → (so_far : Pours s first before from mid old held a) → Consumes mid to piece
    → HasReported s first ((before ++ so_far.bytes) ++ piece) new held b → Pours s first before from to new held b
poured_more s first before piece old new from mid to held a b so_far read report = record {
  bytes = so_far.bytes ++ piece;
  read = Consumes-trans from mid to so_far.bytes piece so_far.read read;
  all = subst (λ x. HasReported s first x new held b) (append_assoc before so_far.bytes piece) report;
}

pub poured_in_vain : (s : Selection) (first : ℕ) (before piece : List ℕ) (old new : RecordingTeller) (from mid to : Left) (held a b : Held) (stop : RecordingFault)
    → (so_far : Pours s first before from mid old held a) → Consumes mid to piece
    → Stops s first ((before ++ so_far.bytes) ++ piece) new held b stop → PoursInVain s first before from to new held b stop
poured_in_vain s first before piece old new from mid to held a b stop so_far read stopped = record {
  bytes = so_far.bytes ++ piece;
  read = Consumes-trans from mid to so_far.bytes piece so_far.read read;
  all = subst (λ x. Stops s first x new held b stop) (append_assoc before so_far.bytes piece) stopped;
}

-- a fault of who tells stops a recording
pub stops_by : (s : Selection) (first : ℕ) (bytes : List ℕ) (recording : RecordingTeller) (held holds : Held) (fault : TellFault)
    → Halts s first bytes recording held holds fault → Stops s first bytes recording held holds (recording_fault_of fault)
stops_by s first bytes recording held holds tells.Write halted = tt
stops_by s first bytes recording held holds tells.Memory halted = tt
stops_by s first bytes recording held holds (tells.Capture why at) halted = halted

-- the lines so far
pub reported_so_far : (s : Selection) (bytes : List ℕ) (recording : RecordingTeller) (held holds : Held) → HasReported s (first_byte bytes) bytes recording held holds → ReportedSoFar s bytes held holds
reported_so_far s bytes recording held holds report = record {
  it = recorded s (first_byte bytes) bytes recording held holds report;
  written = lines_reported s (first_byte bytes) report.frames recording.teller held holds report.report;
}

-- what is reported where a write failed is left open
pub stops_writing : (s : Selection) (bytes : List ℕ) (held holds : Held) (fault : RecordingFault) → IsWriteFault fault → StopsTelling s bytes held holds fault
stops_writing s bytes held holds faults.Write is = tt
stops_writing s bytes held holds faults.Memory is = tt
stops_writing s bytes held holds faults.Read is = absurd is
stops_writing s bytes held holds faults.TooLarge is = absurd is
stops_writing s bytes held holds (faults.Capture why at) is = absurd is

-- what is reported of a recording with a fault
pub stops_broken : (s : Selection) (bytes : List ℕ) (why : CaptureFault) (at : ℕ) (held holds : Held) (fault : RecordingFault)
    → EndsBroken s (first_byte bytes) bytes why at held holds fault → StopsTelling s bytes held holds fault
stops_broken s bytes why at held holds fault (inl broken) = subst (StopsTelling s bytes held holds) (sym broken.0) broken.1
stops_broken s bytes why at held holds fault (inr failed) = stops_writing s bytes held holds fault failed

-- all lines, and a flush
pub whole_kept : (s : Selection) (first : ℕ) (bytes : List ℕ) (held a b : Held) (found : Bool) → ReportedWhole s first bytes held a found → Keeps a b → ReportedWhole s first bytes held b found
whole_kept s first bytes held a b found report keeps = record { it = report.it; finds = report.finds; written = appends_kept held a b _ report.written keeps }

pub broken_kept : (s : Selection) (first : ℕ) (bytes : List ℕ) (why : CaptureFault) (at : ℕ) (held a b : Held) → ReportedBroken s first bytes why at held a → Keeps a b → ReportedBroken s first bytes why at held b
broken_kept s first bytes why at held a b report keeps = record { it = report.it; written = appends_kept held a b _ report.written keeps }

-- a file of what was read
pub made_of : (device : DeviceAddress) (file : DeviceFile) (recording : RecordingTeller) (s : Selection) (first : ℕ) (bytes : List ℕ) (held holds : Held)
    → IsMade (readings_of recording) (asked_at device) file → HasReported s first bytes recording held holds → MakesFile device bytes file
made_of device file recording s first bytes held holds made report = record {
  it = recorded s first bytes recording held holds report;
  made = subst (λ kept. IsMade kept (asked_at device) file) (readings_reported s first report.frames recording.teller held holds report.report) made;
}

-- and why there is none
pub none_of : (device : DeviceAddress) (lack : FileLack) (recording : RecordingTeller) (s : Selection) (first : ℕ) (bytes : List ℕ) (held holds : Held) (to : Left)
    → IsLack (readings_of recording) (asked_at device) lack → HasReported s first bytes recording held holds → IsAtEnd to → HasNoFile device to bytes (device_fault_of lack)
none_of device lack recording s first bytes held holds to lacked report ended = by lack lacked
  where
    of : (l : FileLack) → IsLack (readings_of recording) (asked_at device) l → LacksFile device bytes l
    of l is = record {
      it = recorded s first bytes recording held holds report;
      lacks = subst (λ kept. IsLack kept (asked_at device) l) (readings_reported s first report.frames recording.teller held holds report.report) is;
    }

    by : (l : FileLack) → IsLack (readings_of recording) (asked_at device) l → HasNoFile device to bytes (device_fault_of l)
    by lacks.Memory is = tt
    by lacks.Device is = (ended, of lacks.Device is)
    by (lacks.Configuration index) is = (ended, of (lacks.Configuration index) is)

-- why there is none where a recording is read no further
pub none_stopped : (device : DeviceAddress) (s : Selection) (first : ℕ) (bytes : List ℕ) (recording : RecordingTeller) (held holds : Held) (to : Left) (stop : RecordingFault)
    → Stops s first bytes recording held holds stop → HasNoFile device to bytes (devices.Recording stop)
none_stopped device s first bytes recording held holds to faults.Read stopped = tt
none_stopped device s first bytes recording held holds to faults.TooLarge stopped = tt
none_stopped device s first bytes recording held holds to faults.Write stopped = tt
none_stopped device s first bytes recording held holds to faults.Memory stopped = tt
none_stopped device s first bytes recording held holds to (faults.Capture why at) stopped = recorded_up_to s first bytes why at recording held holds stopped

-- what holds whatever a call answered
pub on_any : {T E P : Type 0} (r : Result T E) → P → OnOk r P
on_any (Ok value) p = p
on_any (Err fault) p = tt

-- a flush that failed is a failed write
pub failed_flush : {T : Type 0} (r : Result T RecordingFault) → IfErr r (λ fault. fault ≡ faults.Write) → IfErr r IsWriteFault
failed_flush (Ok value) failed = tt
failed_flush (Err fault) failed = subst IsWriteFault (sym failed) tt

pub err_weaker : {T E : Type 0} {A B : E → Type 0} (r : Result T E) → ((e : E) → A e → B e) → IfErr r A → IfErr r B
err_weaker (Ok value) f a = tt
err_weaker (Err fault) f a = f fault a

-- reading on, where a read gave nothing
pub poured_still : (before : List ℕ) (holds : List ℕ → Type 0) (from mid to : Left) → ReadsOn before holds from mid → Consumes mid to [] → ReadsOn before holds from to
poured_still before holds from mid to so_far none = record {
  bytes = so_far.bytes;
  read = subst (Consumes from to) (append-nil so_far.bytes) (Consumes-trans from mid to so_far.bytes [] so_far.read none);
  all = so_far.all;
}

-- all is reported after the first byte
pub reported_after : (s : Selection) (first : ℕ) (from to : Left) (recording : RecordingTeller) (held mid holds : Held) (found : Bool) → IsAtEnd to
    → Pours s first (first ∷ []) from to recording held mid → EndsWhole recording mid holds found → ReportedAfter s (first ∷ []) from to held holds found
reported_after s first from to recording held mid holds found ended pours ends =
    (ended, record { bytes = pours.bytes; read = pours.read; all = ends s first (first ∷ pours.bytes) held pours.all })

pub fails_after : (s : Selection) (first : ℕ) (from to : Left) (recording : RecordingTeller) (held mid holds : Held) (fault : RecordingFault)
    → Pours s first (first ∷ []) from to recording held mid → IsWriteFault fault → ReadsOn (first ∷ []) (λ bytes. StopsTelling s bytes held holds fault) from to
fails_after s first from to recording held mid holds fault pours failed =
    record { bytes = pours.bytes; read = pours.read; all = stops_writing s (first ∷ pours.bytes) held holds fault failed }

-- and up to where it is read no further
pub stops_after : (s : Selection) (first : ℕ) (from to : Left) (recording : RecordingTeller) (held mid holds : Held) (stop fault : RecordingFault)
    → PoursInVain s first (first ∷ []) from to recording held mid stop
    → ((bytes : List ℕ) → Stops s (first_byte bytes) bytes recording held mid stop → StopsTelling s bytes held holds fault)
    → ReadsOn (first ∷ []) (λ bytes. StopsTelling s bytes held holds fault) from to
stops_after s first from to recording held mid holds stop fault pours report =
    record { bytes = pours.bytes; read = pours.read; all = report (first ∷ pours.bytes) pours.all }

-- a recording without a byte
nothing_recorded : Recorded []
nothing_recorded = record {
  frames = [];
  observed = [];
  place = 0;
  left = 0;
  recording = record { parts = []; part = []; bytes_are = refl; each = tt; unfinished = omega arith; read = refl; place_is = refl; left_is = refl };
  report = tt;
}

pub nothing_is_reported : (s : Selection) (held : Held) → ReportedSoFar s [] held held
unfolding nothing_recorded
nothing_is_reported s held = record { it = nothing_recorded; written = appends_nothing held held (keeps_refl held) }
