-- What is reported of a recording as its bytes come.
use Rattle.std.proofs.Common.{◌≡◌, ℕ, ◌<◌, ◌≤◌, ◌+◌, ◌-◌, ◌^◌, Bool, List, [], ◌∷◌, ◌++◌, length, length-drop, take, drop, take-append-drop, append_assoc, append-nil, arith, refl, sym, ap, ◌∙◌, subst, ◌⊎◌, inl, inr}
use Rattle.std.proofs.lemmas.List.{reverse-append}
use Rattle.std.specs.Prelude.{Option, Some, None, min, reverse, true, false, is_some}
use Rattle.std.specs.Io.KnownBytes.{Appends}
use Rattle.usb_capture.specs.declared.fault.CaptureFault.{CaptureFault}
use Rattle.usb_capture.specs.declared.fault.CaptureFault.TheVariants as captures
use Rattle.usb_capture.specs.declared.frame.Frame.{Frame}
use Rattle.usb_capture.specs.declared.reader.CaptureReader.{CaptureReader}
use Rattle.usb_capture.specs.declared.stage.Stage.{Stage}
use Rattle.usb_capture.specs.BusTransfers.{Pipes, pipes_in}
use Rattle.usb_capture.specs.Files.{IsRefusedAfter, State, whole}
use Rattle.usb_capture.specs.Reading.{IsRead}
use Rattle.usb_capture.specs.Transfers.{open_after}
use Rattle.usb_text.specs.Output.{Held}
use Rattle.usb_text.specs.declared.output.OutFault.{OutFault}
use Rattle.usb_text.specs.declared.output.OutFault.TheVariants as outs
use Rattle.usb_text.proofs.Pages.{appends_more}
use Rattle.usb_capture_lines.specs.Observations.{Observed, events, decoded_of, transactions}
use Rattle.usb_capture_lines.specs.Recordings.{ended_text, finds_any, last_lines, readings_in, replaced_of, tally_of, reported_text}
use Rattle.usb_capture_lines.specs.RecordingTellers.{Halts, HasReported, IsRecording, Recorded, RecordedUpTo, TellerReported, ReportedBroken, ReportedUpTo, ReportedWhole, fault_of_output, if_begun, tell_fault_of}
use Rattle.usb_capture_lines.specs.Telling.{HasSaid}
use Rattle.usb_capture_lines.specs.declared.recording_teller.RecordingTeller.{RecordingTeller}
use Rattle.usb_capture_lines.specs.declared.recording_teller.TellFault.{TellFault}
use Rattle.usb_capture_lines.specs.declared.selection.Selection.{Selection}
use Rattle.usb_capture_lines.specs.declared.tally.Tally.{Tally}
use Rattle.usb_capture_lines.specs.declared.teller.Teller.{Teller}

-- what a reader has read is a recording
pub recording_is : (bytes : List ℕ) (frames : List Frame) (reader : CaptureReader) (read : IsRead bytes frames reader) → IsRecording bytes frames reader.place (length read.1)
recording_is bytes frames reader read =
    let has = read.2 in
    record {
      parts = read.0;
      part = read.1;
      bytes_are = has.bytes;
      each = has.each;
      unfinished = subst (λ (s : Stage). length read.1 < whole s read.1) (ap (λ (s : State). s.stage) has.state) read.3;
      read = has.read;
      place_is = has.place;
      left_is = refl;
    }

-- the lines so far
pub lines_reported : (s : Selection) (first : ℕ) (frames : List Frame) (teller : Teller) (held holds : Held) (t : TellerReported s first frames teller held holds)
    → Appends held holds (reported_text s first (reverse frames) t.observed)
lines_reported s first frames teller held holds t =
    subst (λ n. Appends held holds (reported_text s n (reverse frames) t.observed)) t.first_is
    (subst (λ x. Appends held holds (reported_text x teller.first (reverse frames) t.observed)) t.selection t.said.written)

-- the last lines of who reported frames
abbrev pub lines_of_last : Teller → ℕ → ℕ → List ℕ
lines_of_last teller place left =
    last_lines teller.selection teller.tally teller.observer.decoded teller.replaced teller.observer.controls.held.items teller.observer.transfers.pipes.held.held.items teller.readings.readings.kept.items teller.devices.items place left

pub last_reported : (s : Selection) (first : ℕ) (frames : List Frame) (teller : Teller) (held holds : Held) (t : TellerReported s first frames teller held holds) (place left : ℕ)
    → lines_of_last teller place left ≡ ended_text s (reverse frames) t.observed place left
last_reported s first frames teller held holds t place left =
    let has = t.said in
    let observer = teller.observer in
    let hosts = observer.controls.held.items in
    let pipes = observer.transfers.pipes.held.held.items in
    let kept = teller.readings.readings.kept.items in
    let devices = teller.devices.items in
    let tally = tally_of (reverse frames) in
    let decoded = decoded_of t.observed in
    let replaced = replaced_of t.observed in
    let open_hosts = open_after [] (events t.observed) in
    let open_pipes = (pipes_in (transactions t.observed)).held in
    ap (λ x. last_lines x teller.tally observer.decoded teller.replaced hosts pipes kept devices place left) t.selection
    ∙ ap (λ x. last_lines s x observer.decoded teller.replaced hosts pipes kept devices place left) has.tally
    ∙ ap (λ x. last_lines s tally x teller.replaced hosts pipes kept devices place left) has.observer.decoded
    ∙ ap (λ x. last_lines s tally decoded x hosts pipes kept devices place left) has.replaced
    ∙ ap (λ x. last_lines s tally decoded replaced x pipes kept devices place left) has.observer.taken.0
    ∙ ap (λ (x : Pipes). last_lines s tally decoded replaced open_hosts x.held kept devices place left) has.observer.made.0
    ∙ ap (λ x. last_lines s tally decoded replaced open_hosts open_pipes x devices place left) has.kept
    ∙ ap (λ x. last_lines s tally decoded replaced open_hosts open_pipes (readings_in t.observed) x place left) has.devices

-- what it keeps of readings
pub readings_reported : (s : Selection) (first : ℕ) (frames : List Frame) (teller : Teller) (held holds : Held) (t : TellerReported s first frames teller held holds)
    → teller.readings.readings.kept.items ≡ readings_in t.observed
readings_reported s first frames teller held holds t = t.said.kept

-- a recording of which these bytes were read
abbrev pub recorded : (s : Selection) (first : ℕ) (bytes : List ℕ) (recording : RecordingTeller) (held holds : Held) → HasReported s first bytes recording held holds → Recorded bytes
recorded s first bytes recording held holds report = record {
  frames = report.frames;
  observed = report.report.observed;
  place = recording.reader.place;
  left = length report.read.1;
  recording = recording_is bytes report.frames recording.reader report.read;
  report = report.report.said.are;
}

-- all lines, and whether something is found
pub reported_whole : (s : Selection) (first : ℕ) (bytes : List ℕ) (recording : RecordingTeller) (held mid holds : Held) (place left : ℕ) (found : Bool) (report : HasReported s first bytes recording held mid)
    → place ≡ recording.reader.place → left ≡ length report.read.1
    → found ≡ finds_any recording.teller.selection recording.teller.devices.items
    → Appends mid holds (lines_of_last recording.teller place left)
    → ReportedWhole s first bytes held holds found
reported_whole s first bytes recording held mid holds place left found report place_is left_is found_is last =
    let t = report.report in
    let frames = reverse report.frames in
    let ending = last_reported s first report.frames recording.teller held mid t place left
    ∙ ap (λ p. ended_text s frames t.observed p left) place_is ∙ ap (λ n. ended_text s frames t.observed recording.reader.place n) left_is in
    record {
      it = recorded s first bytes recording held mid report;
      finds = found_is ∙ ap (λ x. finds_any x recording.teller.devices.items) t.selection ∙ ap (finds_any s) t.said.devices;
      written = appends_more held mid holds _ _ (lines_reported s first report.frames recording.teller held mid t) (subst (Appends mid holds) ending last);
    }

-- a recording up to a fault
abbrev pub recorded_up_to : (s : Selection) (first : ℕ) (bytes : List ℕ) (why : CaptureFault) (at : ℕ) (recording : RecordingTeller) (held holds : Held)
    → ReportedUpTo s first bytes why at recording held holds → RecordedUpTo bytes why at
recorded_up_to s first bytes why at recording held holds report = record {
  frames = report.frames;
  observed = report.report.observed;
  place = report.place;
  refused = report.refused;
  at_is = report.at_is;
  report = report.report.said.are;
}

-- its lines, where a frame came and where none did
pub reported_broken : (s : Selection) (first : ℕ) (bytes : List ℕ) (why : CaptureFault) (at : ℕ) (recording : RecordingTeller) (held mid holds : Held) (lines : List ℕ)
    → (report : ReportedUpTo s first bytes why at recording held mid)
    → lines ≡ if_begun (tally_of (reverse report.frames)).link (ended_text s (reverse report.frames) report.report.observed at 0)
    → Appends mid holds lines → ReportedBroken s first bytes why at held holds
reported_broken s first bytes why at recording held mid holds lines report is last = record {
  it = recorded_up_to s first bytes why at recording held mid report;
  written = appends_more held mid holds _ _ (lines_reported s first report.frames recording.teller held mid report.report) (subst (Appends mid holds) is last);
}

begun_by : (link : Option ℕ) (lines : List ℕ) → is_some link ≡ true → lines ≡ if_begun link lines
begun_by None lines some = let w : ⊥ = cc in absurd w
begun_by (Some n) lines some = refl

unbegun_by : (link : Option ℕ) (lines : List ℕ) → is_some link ≡ false → [] ≡ if_begun link lines
unbegun_by None lines none = refl
unbegun_by (Some n) lines none = let w : ⊥ = cc in absurd w

-- the last lines where a frame came
pub ends_begun : (s : Selection) (first : ℕ) (frames : List Frame) (teller : Teller) (held holds : Held) (t : TellerReported s first frames teller held holds) (at : ℕ) → is_some teller.tally.link ≡ true
    → lines_of_last teller at 0 ≡ if_begun (tally_of (reverse frames)).link (ended_text s (reverse frames) t.observed at 0)
ends_begun s first frames teller held holds t at some =
    last_reported s first frames teller held holds t at 0
    ∙ begun_by (tally_of (reverse frames)).link (ended_text s (reverse frames) t.observed at 0) (ap (λ (x : Tally). is_some x.link) (sym t.said.tally) ∙ some)

-- and where none did
pub ends_unbegun : (s : Selection) (first : ℕ) (frames : List Frame) (teller : Teller) (held holds : Held) (t : TellerReported s first frames teller held holds) (at : ℕ) → is_some teller.tally.link ≡ false
    → [] ≡ if_begun (tally_of (reverse frames)).link (ended_text s (reverse frames) t.observed at 0)
ends_unbegun s first frames teller held holds t at none =
    unbegun_by (tally_of (reverse frames)).link (ended_text s (reverse frames) t.observed at 0) (ap (λ (x : Tally). is_some x.link) (sym t.said.tally) ∙ none)

-- why a fault of the reader halts it
pub halts : (s : Selection) (first : ℕ) (bytes piece : List ℕ) (why : CaptureFault) (at : ℕ) (old new : RecordingTeller) (held holds : Held)
    → (report : HasReported s first bytes old held holds) → new.teller ≡ old.teller
    → (why ≡ captures.Memory) ⊎ ((place : ℕ) × IsRefusedAfter (bytes ++ piece) report.frames why place × (at ≡ min place (2 ^ 64 - 1)))
    → Halts s first (bytes ++ piece) new held holds (tell_fault_of why at)
halts s first bytes piece why at old new held holds report same (inl memory) = rw memory tt
halts s first bytes piece why at old new held holds report same (inr refused) = by why refused.1
  where
    up_to : (w : CaptureFault) → IsRefusedAfter (bytes ++ piece) report.frames w refused.0 → ReportedUpTo s first (bytes ++ piece) w at new held holds
    up_to w is = record {
      frames = report.frames;
      place = refused.0;
      refused = is;
      at_is = refused.2;
      report = subst (λ (t : Teller). TellerReported s first report.frames t held holds) (sym same) report.report;
    }

    by : (w : CaptureFault) → IsRefusedAfter (bytes ++ piece) report.frames w refused.0 → Halts s first (bytes ++ piece) new held holds (tell_fault_of w at)
    by captures.Memory is = tt
    by captures.Magic is = up_to captures.Magic is
    by captures.Order is = up_to captures.Order is
    by captures.Length is = up_to captures.Length is
    by captures.Trailer is = up_to captures.Trailer is
    by captures.Version is = up_to captures.Version is
    by captures.Long is = up_to captures.Long is
    by captures.Interfaces is = up_to captures.Interfaces is
    by captures.Options is = up_to captures.Options is
    by captures.Interface is = up_to captures.Interface is
    by captures.Data is = up_to captures.Data is
    by captures.Line is = up_to captures.Line is

-- one who tells has reported one frame more
pub tell_more : (s : Selection) (first : ℕ) (frames : List Frame) (f : Frame) (old new : Teller) (held a b : Held)
    → ((fs : List Frame) (xs : List Observed) (h : Held) → HasSaid fs xs old h a → (x : Observed) × HasSaid (f ∷ fs) (x ∷ xs) new h b)
    → new.selection ≡ old.selection → new.first ≡ old.first
    → TellerReported s first frames old held a → TellerReported s first (frames ++ f ∷ []) new held b
tell_more s first frames f old new held a b receives_reply selection first_is t =
    let got = receives_reply (reverse frames) t.observed held t.said in
    record {
      observed = got.0 ∷ t.observed;
      said = subst (λ fs. HasSaid fs (got.0 ∷ t.observed) new held b) (sym (reverse-append frames (f ∷ []))) got.1;
      selection = selection ∙ t.selection;
      first_is = first_is ∙ t.first_is;
    }

-- a failed writer, or no memory, halts it
pub output_halts : (s : Selection) (first : ℕ) (bytes : List ℕ) (recording : RecordingTeller) (held holds : Held) (o : OutFault) → Halts s first bytes recording held holds (fault_of_output o)
output_halts s first bytes recording held holds outs.Write = tt
output_halts s first bytes recording held holds outs.Memory = tt

-- a piece of which the front was taken, and at most this many bytes are left
pub record TakesPiece (s : Selection) (first : ℕ) (bytes piece rest : List ℕ) (index : ℕ) (recording : RecordingTeller) (held holds : Held) : Type 0 where
  pub front : List ℕ
  pub piece_is : piece ≡ front ++ rest
  pub few : length rest + index ≤ length piece
  pub report : HasReported s first (bytes ++ front) recording held holds

pub takes_nothing : (s : Selection) (first : ℕ) (bytes piece : List ℕ) (recording : RecordingTeller) (held holds : Held) → HasReported s first bytes recording held holds
    → TakesPiece s first bytes piece piece 0 recording held holds
takes_nothing s first bytes piece recording held holds report = record {
  front = [];
  piece_is = refl;
  few = omega arith;
  report = subst (λ b. HasReported s first b recording held holds) (sym (append-nil bytes)) report;
}

pub takes_front : (s : Selection) (first : ℕ) (bytes piece rest : List ℕ) (index used : ℕ) (old new : RecordingTeller) (held mid holds : Held)
    → (before : TakesPiece s first bytes piece rest index old held mid) → 0 < length rest → used ≤ length rest → 0 < used
    → HasReported s first ((bytes ++ before.front) ++ take used rest) new held holds
    → TakesPiece s first bytes piece (drop used rest) (index + 1) new held holds
takes_front s first bytes piece rest index used old new held mid holds before some within more report =
    let x = take used rest in
    let left : length (drop used rest) ≡ length rest - used = length-drop used rest in
    record {
      front = before.front ++ x;
      piece_is = before.piece_is ∙ ap (λ r. before.front ++ r) (sym (take-append-drop used rest)) ∙ sym (append_assoc before.front x (drop used rest));
      few = omega (arith, left, before.few, more, within);
      report = subst (λ b. HasReported s first b new held holds) (append_assoc bytes before.front x) report;
    }

-- all of it was taken
pub takes_all : (s : Selection) (first : ℕ) (bytes piece rest : List ℕ) (index : ℕ) (recording : RecordingTeller) (held holds : Held)
    → TakesPiece s first bytes piece rest index recording held holds → length rest ≡ 0 → HasReported s first (bytes ++ piece) recording held holds
takes_all s first bytes piece [] index recording held holds before none =
    subst (λ p. HasReported s first (bytes ++ p) recording held holds) (sym (before.piece_is ∙ append-nil before.front)) before.report
takes_all s first bytes piece (b ∷ rest) index recording held holds before none = absurd (omega (arith, none))

-- it is halted in the middle of it
pub takes_in_vain : (s : Selection) (first : ℕ) (bytes piece rest : List ℕ) (index : ℕ) (old new : RecordingTeller) (held mid holds : Held) (fault : TellFault)
    → (before : TakesPiece s first bytes piece rest index old held mid) → Halts s first ((bytes ++ before.front) ++ rest) new held holds fault
    → Halts s first (bytes ++ piece) new held holds fault
takes_in_vain s first bytes piece rest index old new held mid holds fault before halted =
    subst (λ b. Halts s first b new held holds fault) (append_assoc bytes before.front rest ∙ ap (λ p. bytes ++ p) (sym before.piece_is)) halted
