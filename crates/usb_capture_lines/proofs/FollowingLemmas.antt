-- What a reader of a recording knows and shows after a frame more.
use Rattle.std.proofs.Common.{◌≡◌, ◌⊎◌, ℕ, ◌^◌, ◌-◌, List, [], ◌∷◌, ◌++◌, append-nil, inl, inr, sym, ap, ◌∙◌, subst}
use Rattle.std.proofs.lemmas.Grind.{reverse_onto}
use Rattle.std.specs.Prelude.{Option, Some, None, Result, Ok, Err, min, reverse}
use Rattle.std.specs.Option.{option_to_list}
use Rattle.usb_capture.specs.declared.fault.CaptureFault.{CaptureFault}
use Rattle.usb_capture.specs.declared.fault.CaptureFault.TheVariants as faults
use Rattle.usb_capture.specs.declared.frame.Frame.{Frame}
use Rattle.usb_capture.specs.declared.reader.Step.{Step}
use Rattle.usb_capture.specs.Conversations.{Knows}
use Rattle.usb_capture.specs.DeviceReadings.{HasCurrent}
use Rattle.usb_capture.specs.Files.{IsRefusedAfter}
use Rattle.usb_capture.specs.Reading.{IsRead}
use Rattle.usb_capture_lines.specs.Following.{Follows, FollowsOn, GoesOn, HasFailed, Shows, found_in}
use Rattle.usb_capture_lines.specs.Observations.{Completes, HasObserved, IsObserved, Observed, found_by, one_more, over_by, overs}
use Rattle.usb_capture_lines.specs.Recordings.{met_all, met_in}
use Rattle.usb_capture_lines.specs.declared.completed.Completed.{Completed}
use Rattle.usb_capture_lines.specs.declared.follower.Follower.{Follower}
use Rattle.usb_capture_lines.specs.declared.recording_reader.RecordingReader.{RecordingReader}
use Rattle.usb_capture_lines.specs.declared.shown.Shown.{Shown}
use Rattle.usb_capture_lines.proofs.TellingLemmas.{reversed}

pub follows_more : (frames : List Frame) (observed : List Observed) (f : Frame) (x : Observed) (completed : Completed) (old new : Follower)
    → Follows frames observed old
    → IsObserved (one_more old.frames) f x → HasObserved (x ∷ observed) new.observer → Completes observed x completed
    → Knows (option_to_list completed.transfer ++ overs observed) new.conversations
    → HasCurrent (reverse (overs observed) ++ option_to_list completed.transfer) new.readings
    → new.devices.items ≡ met_all completed.found.items (met_in (overs observed) completed.transfer old.devices.items)
    → new.frames ≡ one_more old.frames
    → Follows (f ∷ frames) (x ∷ observed) new
follows_more frames observed f x completed old new has is observer completes knows kept devices count = record {
  are = (subst (λ n. IsObserved (one_more n) f x) has.count is, has.are);
  observer = observer;
  knows = subst (λ o. Knows (option_to_list o ++ overs observed) new.conversations) completes.transfer knows;
  kept = subst (λ o. HasCurrent (reverse (option_to_list o ++ overs observed)) new.readings) completes.transfer
      (subst (λ ts. HasCurrent ts new.readings) (reversed completed.transfer (overs observed)) kept);
  devices = devices ∙ ap (λ one. met_all one (met_in (overs observed) completed.transfer old.devices.items)) completes.found
      ∙ ap (met_all (found_by observed x)) (ap (λ o. met_in (overs observed) o old.devices.items) completes.transfer
      ∙ ap (met_in (overs observed) (over_by observed x)) has.devices);
  count = count ∙ ap one_more has.count;
}

pub shows_this : (observed : List Observed) (x : Observed) (completed : Completed) (shown : Shown) → Completes observed x completed
    → shown.transfer ≡ completed.transfer → shown.found.items ≡ found_in (overs observed) completed.transfer → shown.in_packets ≡ completed.found
    → Shows observed x shown
shows_this observed x completed shown completes transfer found in_packets = record {
  transfer = transfer ∙ completes.transfer;
  found = found ∙ ap (found_in (overs observed)) completes.transfer;
  in_packets = ap (λ v. v.items) in_packets ∙ completes.found;
}

pub goes_on : (frame : Option Frame) (bytes : List ℕ) (frames : List Frame) (observed : List Observed) (new : RecordingReader)
    → IsRead bytes (reverse frames ++ option_to_list frame) new.reader → new.reader.failed ≡ None
    → FollowsOn frames observed frame new.follower new.shown → GoesOn bytes frames observed new
goes_on None bytes frames observed new read going follows =
    inl (record { read = subst (λ fs. IsRead bytes fs new.reader) (append-nil (reverse frames)) read; going = going; follows = follows.0 }, follows.1)
goes_on (Some f) bytes frames observed new read going follows =
    inr (f, follows.0, record { read = subst (λ fs. IsRead bytes fs new.reader) (sym (reverse_onto frames f [])) read; going = going; follows = follows.1 }, follows.2)

pub fails : (bytes : List ℕ) (frames : List Frame) (observed : List Observed) (fault : CaptureFault) (new : RecordingReader)
    → new.reader.failed ≡ Some fault → Follows frames observed new.follower
    → (fault ≡ faults.Memory) ⊎ ((place : ℕ) × IsRefusedAfter bytes (reverse frames) fault place × (new.reader.place ≡ min place (2 ^ 64 - 1)))
    → (fault ≡ faults.Memory) ⊎ HasFailed bytes frames observed fault new
fails bytes frames observed fault new failed follows (inl memory) = inl memory
fails bytes frames observed fault new failed follows (inr refused) =
    inr (record { place = refused.0; refused = refused.1; at = refused.2; failed = failed; follows = follows })

-- how many bytes a step of the file's reader takes
abbrev pub used_of : Result Step CaptureFault → Result ℕ CaptureFault
used_of (Ok step) = Ok step.used
used_of (Err fault) = Err fault
