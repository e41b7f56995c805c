-- What is reported of a recording after one frame more.
use Rattle.std.proofs.Common.{◌≡◌, ℕ, ◌+◌, ◌<◌, List, [], ◌∷◌, ◌++◌, get_or, length, take, append_assoc, append-nil, refl, sym, ap, ◌∙◌, subst}
use Rattle.std.proofs.lemmas.Grind.{reverse_onto, take_at_read}
use Rattle.std.specs.Prelude.{Option, Some, None, Result, Ok, Err, OnOk, reverse}
use Rattle.std.specs.Option.{option_to_list}
use Rattle.std.specs.Io.KnownBytes.{Appends}
use Rattle.usb_capture.specs.declared.frame.Frame.{Frame}
use Rattle.usb_capture.specs.Conversations.{Knows}
use Rattle.usb_capture.specs.DeviceReadings.{HasCurrent}
use Rattle.usb_text.specs.Output.{Held}
use Rattle.usb_text.proofs.Pages.{appends_more}
use Rattle.usb_capture_lines.specs.Observations.{Completes, HasObserved, Observed, IsObserved, found_by, frame_count, one_more, over_by, overs}
use Rattle.usb_capture_lines.specs.Recordings.{bus_lines, counted, counted_first, first_part, met, met_all, met_in, over_lines, replaced_in, tally_of, reported_text}
use Rattle.usb_capture_lines.specs.BusFindings.{device_of}
use Rattle.usb_capture_lines.specs.declared.completed.Completed.{Completed}
use Rattle.usb_capture_lines.specs.declared.bus_finding.BusFinding.{BusFinding}
use Rattle.usb_capture_lines.specs.declared.seen_device.SeenDevice.{SeenDevice}
use Rattle.usb_capture_lines.specs.declared.selection.DeviceAddress.{DeviceAddress}
use Rattle.usb_capture_lines.specs.declared.tally.Tally.{Tally}
use Rattle.usb_capture_lines.specs.declared.teller.Teller.{Teller}
use Rattle.usb_capture_lines.specs.Telling.{HasSaid}

-- frames are counted
frames_counted : (frames : List Frame) → (tally_of frames).frames ≡ frame_count frames
frames_counted [] = refl
frames_counted (f ∷ earlier) = by (tally_of earlier).link ∙ ap one_more (frames_counted earlier)
  where
    by : (link : Option ℕ) → (counted_first link f (tally_of earlier)).frames ≡ one_more (tally_of earlier).frames
    by None = refl
    by (Some link) = refl

pub reversed : {A : Type 0} (o : Option A) (xs : List A) → reverse xs ++ option_to_list o ≡ reverse (option_to_list o ++ xs)
reversed None xs = append-nil (reverse xs)
reversed (Some x) xs = sym (reverse_onto xs x [])

-- what holds after a frame more, with what it completes
pub said_more : (frames : List Frame) (observed : List Observed) (f : Frame) (x : Observed) (completed : Completed) (old mid next new : Teller) (held a b c d : Held)
    → HasSaid frames observed old held a
    → mid ≡ record old { tally = counted f old.tally }
    → Appends a b (first_part old.first old.tally.link f.link)
    → IsObserved mid.tally.frames f x → HasObserved (x ∷ observed) next.observer → Completes observed x completed
    → Knows (option_to_list completed.transfer ++ overs observed) next.conversations
    → next.devices.items ≡ met_in (overs observed) completed.transfer mid.devices.items
    → Appends b c (over_lines mid.selection mid.tally.origin (overs observed) completed.transfer)
    → HasCurrent (reverse (overs observed) ++ option_to_list completed.transfer) next.readings
    → next.replaced ≡ replaced_in completed.transfer mid.replaced
    → next.tally ≡ mid.tally → next.selection ≡ mid.selection → next.first ≡ mid.first
    → new ≡ record next { devices = new.devices }
    → new.devices.items ≡ met_all completed.found.items next.devices.items
    → Appends c d (bus_lines next.selection next.tally.origin completed.found.items)
    → HasSaid (f ∷ frames) (x ∷ observed) new held d
said_more frames observed f x completed old mid next new held a b c d has mid-is head is observer completes knows next-devices lines kept replaced tally selection first new-is devices found =
    let after : mid.tally ≡ tally_of (f ∷ frames) = ap (λ (t : Teller). t.tally) mid-is ∙ ap (counted f) has.tally in
    let next-tally : next.tally ≡ tally_of (f ∷ frames) = tally ∙ after in
    let mid-selection : mid.selection ≡ new.selection = sym (ap (λ (t : Teller). t.selection) new-is ∙ selection) in
    let next-selection : next.selection ≡ new.selection = sym (ap (λ (t : Teller). t.selection) new-is) in
    let same-selection : old.selection ≡ new.selection = sym (ap (λ (t : Teller). t.selection) mid-is) ∙ mid-selection in
    let same-first : old.first ≡ new.first = sym (ap (λ (t : Teller). t.first) new-is ∙ first ∙ ap (λ (t : Teller). t.first) mid-is) in
    let before : Appends held a (reported_text new.selection new.first frames observed) =
    subst (λ s. Appends held a (reported_text s new.first frames observed)) same-selection
    (subst (λ n. Appends held a (reported_text old.selection n frames observed)) same-first has.written) in
    let begun : Appends a b (first_part new.first (tally_of frames).link f.link) =
    subst (λ n. Appends a b (first_part n (tally_of frames).link f.link)) same-first
    (subst (λ (t : Tally). Appends a b (first_part old.first t.link f.link)) has.tally head) in
    let over : Appends b c (over_lines new.selection (tally_of (f ∷ frames)).origin (overs observed) (over_by observed x)) =
    subst (λ o. Appends b c (over_lines new.selection (tally_of (f ∷ frames)).origin (overs observed) o)) completes.transfer
    (subst (λ (t : Tally). Appends b c (over_lines new.selection t.origin (overs observed) completed.transfer)) after
    (subst (λ s. Appends b c (over_lines s mid.tally.origin (overs observed) completed.transfer)) mid-selection lines)) in
    let packets : Appends c d (bus_lines new.selection (tally_of (f ∷ frames)).origin (found_by observed x)) =
    subst (λ o. Appends c d (bus_lines new.selection (tally_of (f ∷ frames)).origin o)) completes.found
    (subst (λ (t : Tally). Appends c d (bus_lines new.selection t.origin completed.found.items)) next-tally
    (subst (λ s. Appends c d (bus_lines s next.tally.origin completed.found.items)) next-selection found)) in
    record {
      are = (subst (λ n. IsObserved n f x) (ap (λ (t : Tally). t.frames) after ∙ frames_counted (f ∷ frames)) is, has.are);
      observer = subst (λ (t : Teller). HasObserved (x ∷ observed) t.observer) (sym new-is) observer;
      knows = subst (λ (t : Teller). Knows (overs (x ∷ observed)) t.conversations) (sym new-is)
          (subst (λ o. Knows (option_to_list o ++ overs observed) next.conversations) completes.transfer knows);
      kept = subst (λ (t : Teller). HasCurrent (reverse (overs (x ∷ observed))) t.readings) (sym new-is)
          (subst (λ o. HasCurrent (reverse (option_to_list o ++ overs observed)) next.readings) completes.transfer
          (subst (λ ts. HasCurrent ts next.readings) (reversed completed.transfer (overs observed)) kept));
      devices = devices ∙ ap (λ one. met_all one next.devices.items) completes.found
          ∙ ap (met_all (found_by observed x)) (next-devices ∙ ap (λ o. met_in (overs observed) o mid.devices.items) completes.transfer
          ∙ ap (met_in (overs observed) (over_by observed x)) (ap (λ (t : Teller). t.devices.items) mid-is ∙ has.devices));
      tally = ap (λ (t : Teller). t.tally) new-is ∙ next-tally;
      replaced = ap (λ (t : Teller). t.replaced) new-is ∙ replaced ∙ ap (λ o. replaced_in o mid.replaced) completes.transfer
          ∙ ap (replaced_in (over_by observed x)) (ap (λ (t : Teller). t.replaced) mid-is ∙ has.replaced);
      written = appends_more held b d _ _ (appends_more held a b _ _ before begun) (appends_more b c d _ _ over packets);
    }

-- devices that are met one after another
met_push : (found : List BusFinding) (one : BusFinding) (devices : List SeenDevice)
    → met_all (found ++ one ∷ []) devices ≡ met (device_of one) 1 (met_all found devices)
met_push [] one devices = refl
met_push (x ∷ found) one devices = met_push found one (met (device_of x) 1 devices)

pub met_next : (found : List BusFinding) (i : ℕ) (d : BusFinding) (device : Option DeviceAddress) (first before after : List SeenDevice) → i < length found
    → device ≡ device_of (get_or found i d) → before ≡ met_all (take i found) first → after ≡ met device 1 before → after ≡ met_all (take (i + 1) found) first
met_next found i d device first before after lt device-is before-is after-is =
    after-is ∙ ap (λ a. met a 1 before) device-is ∙ ap (met (device_of (get_or found i d)) 1) before-is ∙ sym (met_push (take i found) (get_or found i d) first)
    ∙ ap (λ l. met_all l first) (sym (take_at_read found i d lt).1)

-- what holds of a success by two things that do
pub on_ok_two : {T E : Type 0} {A B C : Type 0} (r : Result T E) → (A → B → C) → OnOk r A → OnOk r B → OnOk r C
on_ok_two (Ok value) f a b = f a b
on_ok_two (Err fault) f a b = tt

-- one text put after another
pub joined : (a b c s t : List ℕ) → b ≡ a ++ s → c ≡ b ++ t → c ≡ a ++ (s ++ t)
joined a b c s t e f = f ∙ ap (λ x. x ++ t) e ∙ append_assoc a s t
