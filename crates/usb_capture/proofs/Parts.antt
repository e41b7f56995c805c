-- Whole parts, and one more.
use Rattle.std.proofs.Common.{◌≡◌, ℕ, ◌+◌, ◌-◌, ◌^◌, ◌<◌, ◌≤◌, List, [], ◌∷◌, ◌++◌, length, take, drop, min, rules, ◌⊎◌, inl, inr, refl, sym, ◌∙◌, ap, subst, arith, length-append, append_assoc}
use Rattle.std.proofs.lemmas.List.{append-nil, drop-append-le, drop-drop, length-take-le, take-append-drop}
use Rattle.std.specs.Prelude.{Result, Ok, Err, IsOk}
use Rattle.usb_capture.specs.declared.content.Content.{Content}
use Rattle.usb_capture.specs.declared.fault.CaptureFault.{CaptureFault}
use Rattle.usb_capture.specs.declared.fault.CaptureFault.TheVariants.{Memory}
use Rattle.usb_capture.specs.declared.frame.Frame.{Frame}
use Rattle.usb_capture.specs.declared.reader.CaptureReader.{CaptureReader}
use Rattle.usb_capture.specs.Files.{AreParts, IsPart, IsRefusedAfter, State, after_content, bytes_of, content, content_of, frame_list, frames_of, frames_with, last_four, next, start, state_after, whole}
use Rattle.usb_capture.specs.Reading.{IsFront, IsKept, IsRead, state_of}
use Rattle.usb_capture.proofs.Held.{content_held, frames_held}
use Rattle.usb_capture.proofs.Numbers.{held_more}
use Rattle.usb_capture.proofs.Whole.{some_bytes, whole_front, whole_grows, whole_held}

-- one part more
parts_push : (s : State) (parts : List (List ℕ)) (part : List ℕ) → AreParts s parts → IsPart (state_after s parts) part → AreParts s (parts ++ part ∷ [])
parts_push s [] part each last = (last, tt)
parts_push s (p ∷ parts) part each last = (each.0, parts_push (after_content s (content_of s p)) parts part each.1 last)

state_push : (s : State) (parts : List (List ℕ)) (part : List ℕ) → state_after s (parts ++ part ∷ []) ≡ after_content (state_after s parts) (content_of (state_after s parts) part)
state_push s [] part = refl
state_push s (p ∷ parts) part = state_push (after_content s (content_of s p)) parts part

frames_push : (s : State) (parts : List (List ℕ)) (part : List ℕ) → frames_of s (parts ++ part ∷ []) ≡ frames_of s parts ++ frames_with (content_of (state_after s parts) part) part
frames_push s [] part = append-nil (frames_with (content_of s part) part)
frames_push s (p ∷ parts) part =
    let first = frames_with (content_of s p) p in
    let later = after_content s (content_of s p) in
    ap (λ f. first ++ f) (frames_push later parts part) ∙ sym (append_assoc first (frames_of later parts) (frames_with (content_of (state_after later parts) part) part))

bytes_push : (parts : List (List ℕ)) (part : List ℕ) → bytes_of (parts ++ part ∷ []) ≡ bytes_of parts ++ part
bytes_push [] part = append-nil part
bytes_push (p ∷ parts) part = ap (λ b. p ++ b) (bytes_push parts part) ∙ sym (append_assoc p (bytes_of parts) part)

-- the last four bytes as more come
last_more : (part x : List ℕ) → drop (length x) (last_four part ++ x) ≡ last_four (part ++ x)
last_more part x =
    let all = 0 ∷ 0 ∷ 0 ∷ 0 ∷ part in
    let joined : drop (length part) (all ++ x) ≡ last_four part ++ x = drop-append-le (length part) all x (omega arith) in
    ap (drop (length x)) (sym joined) ∙ drop-drop (length x) (length part) (all ++ x) ∙ ap (λ n. drop n (all ++ x)) (sym (length-append part x))

-- a reader that has taken bytes of a piece has them
pub kept : (old new : CaptureReader) (piece : List ℕ) (used : ℕ) → used ≡ min (length piece) (whole old.stage old.held.items - old.count) → new.held.items ≡ old.held.items ++ take (min used (65627 - length old.held.items)) piece → new.last ≡ drop used (old.last ++ take used piece) → new.count ≡ old.count + used → state_of new ≡ state_of old → new.place ≡ old.place → (all : List ℕ) (frames : List Frame) → IsRead all frames old → IsKept (all ++ take used piece) frames new
kept old new piece used is held last count state place all frames read =
    let parts = read.0 in
    let part = read.1 in
    let has = read.2 in
    let x = take used piece in
    let same : whole old.stage old.held.items ≡ whole old.stage part = ap (whole old.stage) has.held ∙ whole_held old.stage part in
    let long : length x ≡ used = length-take-le used piece (omega (arith, is)) in
    let sum = length-append part x in
    let grows = whole_grows old.stage part x in
    let few : length (part ++ x) ≤ whole old.stage (part ++ x) = omega (arith, is, same, long, sum, grows, has.count, read.3) in
    let grown : new.held.items ≡ take 65627 (part ++ x) =
    held ∙ ap (λ h. h ++ take (min used (65627 - length h)) piece) has.held ∙ held_more 65627 used part piece (omega (arith, is)) in
    let ends : new.last ≡ last_four (part ++ x) =
    last ∙ ap (λ l. drop used (l ++ x)) has.last ∙ ap (λ n. drop n (last_four part ++ x)) (sym long) ∙ last_more part x in
    let stage : new.stage ≡ old.stage = ap (λ s. s.stage) state in (
      parts,
      part ++ x,
      record {
        bytes = ap (λ b. b ++ x) has.bytes ∙ append_assoc (bytes_of parts) part x;
        each = has.each;
        read = has.read;
        state = state ∙ has.state;
        held = grown;
        last = ends;
        count = omega (arith, count, has.count, long, sum);
        place = place ∙ has.place;
      },
      subst (λ s. length (part ++ x) ≤ whole s (part ++ x)) (sym stage) few,
    )

-- bytes are taken where something is left to take
pub takes_some : (all : List ℕ) (frames : List Frame) (old : CaptureReader) (used n : ℕ) → used ≡ min n (whole old.stage old.held.items - old.count) → IsRead all frames old → 0 < n → 0 < used
takes_some all frames old used n is read some =
    let has = read.2 in
    let same : whole old.stage old.held.items ≡ whole old.stage read.1 = ap (whole old.stage) has.held ∙ whole_held old.stage read.1 in
    omega (arith, is, same, some, has.count, read.3)

-- a part that isn't whole is read on
pub still_open : (old : CaptureReader) → old.count < whole old.stage old.held.items → (all : List ℕ) (frames : List Frame) → IsKept all frames old → IsRead all (frames ++ []) old
still_open old few all frames kept =
    let has = kept.2 in
    let same = ap (whole old.stage) has.held ∙ whole_held old.stage kept.1 in
    subst (λ f. IsRead all f old) (sym (append-nil frames)) (kept.0, kept.1, has, omega (arith, few, same, has.count))

-- what is held of a whole part says what it says
said : (old : CaptureReader) (all : List ℕ) (frames : List Frame) (kept : IsKept all frames old) → content old.stage old.interfaces.items old.held.items old.count old.last ≡ content_of (state_after start kept.0) kept.1
said old all frames kept =
    let part = kept.1 in
    let has = kept.2 in
    let of : State → List ℕ → ℕ → List ℕ → Result Content CaptureFault = λ s b n last. content s.stage s.interfaces b n last in
    ap (λ h. of (state_of old) h old.count old.last) has.held
    ∙ ap (λ n. of (state_of old) (take 65627 part) n old.last) has.count
    ∙ ap (of (state_of old) (take 65627 part) (length part)) has.last
    ∙ content_held old.stage old.interfaces.items part (last_four part) kept.3
    ∙ ap (λ s. content_of s part) has.state

exact : (old : CaptureReader) → whole old.stage old.held.items ≤ old.count → (all : List ℕ) (frames : List Frame) (kept : IsKept all frames old) → length kept.1 ≡ whole (state_after start kept.0).stage kept.1
exact old enough all frames kept =
    let has = kept.2 in
    let same = ap (whole old.stage) has.held ∙ whole_held old.stage kept.1 in
    let stage : old.stage ≡ (state_after start kept.0).stage = ap (λ s. s.stage) has.state in
    subst (λ s. length kept.1 ≡ whole s kept.1) stage (omega (arith, same, enough, has.count, kept.3))

-- a part more that is whole and says this
one_more : (new : CaptureReader) (what : Content) (added : List Frame) (parts : List (List ℕ)) (part all : List ℕ) (frames : List Frame) → all ≡ bytes_of parts ++ part → AreParts start parts → frames ≡ frames_of start parts → length part ≡ whole (state_after start parts).stage part → content_of (state_after start parts) part ≡ Ok what → added ≡ frame_list what part → state_of new ≡ next (state_after start parts) what → new.held.items ≡ [] → new.last ≡ last_four [] → new.count ≡ 0 → new.place ≡ min (length (bytes_of parts) + length part) (2 ^ 64 - 1) → IsRead all (frames ++ added) new
one_more new what added parts part all frames bytes_are each read long right is state held last count place =
    let s = state_after start parts in
    let one : IsPart s part = record { long = long; right = subst IsOk (sym right) (search rules) } in
    let bytes = bytes_push parts part in
    let sum = length-append (bytes_of parts) part in
    let total = ap length bytes in (
      parts ++ part ∷ [],
      [],
      record {
        bytes = bytes_are ∙ sym bytes ∙ sym (append-nil (bytes_of (parts ++ part ∷ [])));
        each = parts_push start parts part each one;
        read = ap (λ f. f ++ added) read ∙ ap (λ f. frames_of start parts ++ f) (is ∙ ap (λ r. frames_with r part) (sym right)) ∙ sym (frames_push start parts part);
        state = state ∙ ap (after_content s) (sym right) ∙ sym (state_push start parts part);
        held = held;
        last = last;
        count = count;
        place = omega (arith, place, sum, total);
      },
      some_bytes new.stage [],
    )

-- a part that is whole and has this fault
one_bad : (fault : CaptureFault) (parts : List (List ℕ)) (part all : List ℕ) (frames : List Frame) → all ≡ bytes_of parts ++ part → AreParts start parts → frames ≡ frames_of start parts → length part ≡ whole (state_after start parts).stage part → content_of (state_after start parts) part ≡ Err fault → IsRefusedAfter all frames fault (length (bytes_of parts))
one_bad fault parts part all frames bytes_are each read long wrong = record {
  refused = record {
    parts = parts;
    bad = part;
    rest = [];
    bytes_are = bytes_are ∙ ap (λ b. bytes_of parts ++ b) (sym (append-nil part));
    before = each;
    long = long;
    wrong = wrong;
    place_is = refl;
  };
  read = read;
}

-- a part is whole and has no fault
pub ended : (old new : CaptureReader) (what : Content) (added : List Frame) → whole old.stage old.held.items ≤ old.count → Ok what ≡ content old.stage old.interfaces.items old.held.items old.count old.last → added ≡ frame_list what old.held.items → state_of new ≡ next (state_of old) what → new.held.items ≡ [] → new.last ≡ last_four [] → new.count ≡ 0 → new.place ≡ min (old.place + old.count) (2 ^ 64 - 1) → (all : List ℕ) (frames : List Frame) → IsKept all frames old → IsRead all (frames ++ added) new
ended old new what added enough says is state held last count place all frames has_kept =
    let part = has_kept.1 in
    let has = has_kept.2 in
    one_more new what added has_kept.0 part all frames has.bytes has.each has.read (exact old enough all frames has_kept)
    (sym (says ∙ said old all frames has_kept)) (is ∙ ap (frame_list what) has.held ∙ frames_held what part) (state ∙ ap (λ t. next t what) has.state) held last count
    (omega (arith, place, has.place, has.count))

-- a part is whole and has a fault
pub refused : (old : CaptureReader) (fault : CaptureFault) → whole old.stage old.held.items ≤ old.count → Err fault ≡ content old.stage old.interfaces.items old.held.items old.count old.last → (all : List ℕ) (frames : List Frame) → IsKept all frames old → (place : ℕ) × IsRefusedAfter all frames fault place × (old.place ≡ min place (2 ^ 64 - 1))
refused old fault enough says all frames kept = (
  length (bytes_of kept.0),
  one_bad fault kept.0 kept.1 all frames kept.2.bytes kept.2.each kept.2.read (exact old enough all frames kept) (sym (says ∙ said old all frames kept)),
  kept.2.place,
)

-- a reader that holds nothing of a part has read whole parts, after which that part may follow
none_held : (old : CaptureReader) (all : List ℕ) (parts : List (List ℕ)) (before : List ℕ) (part : List ℕ) → all ≡ bytes_of parts ++ before → old.count ≡ length before → old.count ≡ 0 → (before ≡ []) × (all ++ part ≡ bytes_of parts ++ part)
none_held old all parts [] part bytes count none = (refl, ap (λ b. b ++ part) (bytes ∙ append-nil (bytes_of parts)))
none_held old all parts (c ∷ before) part bytes count none = absurd (omega (arith, count, none))

in_place : (old : CaptureReader) (what : Result Content CaptureFault) (part : List ℕ) (n : ℕ) (last : List ℕ) (parts : List (List ℕ)) → n ≡ length part → last ≡ last_four part → what ≡ content old.stage old.interfaces.items part n last → state_of old ≡ state_after start parts → content_of (state_after start parts) part ≡ what
in_place old what part n last parts long ends says state =
    let of : ℕ → List ℕ → Result Content CaptureFault = content old.stage old.interfaces.items part in
    sym (says ∙ ap (λ k. of k last) long ∙ ap (of (length part)) ends ∙ ap (λ s. content_of s part) state)

-- a piece begins with a whole part
pub front_of : (reader : CaptureReader) (piece : List ℕ) (n : ℕ) → n ≡ whole reader.stage piece → reader.count ≡ 0 → n ≤ length piece → IsFront reader piece n
front_of reader piece n is none within = record { none = none; long = whole_front reader.stage piece n is within; within = within }

pub front_ended : (old new : CaptureReader) (what : Content) (added : List Frame) (piece part : List ℕ) (used : ℕ) (last : List ℕ) → IsFront old piece used → part ≡ take used piece → last ≡ last_four part → Ok what ≡ content old.stage old.interfaces.items part used last → added ≡ frame_list what part → state_of new ≡ next (state_of old) what → new.held.items ≡ old.held.items → new.last ≡ old.last → new.count ≡ old.count → new.place ≡ min (old.place + used) (2 ^ 64 - 1) → (all : List ℕ) (frames : List Frame) → IsRead all frames old → IsRead (all ++ take used piece) (frames ++ added) new
front_ended old new what added piece part used ends front begins ends_are says is state held last count place all frames read =
    let parts = read.0 in
    let has = read.2 in
    let size : used ≡ length part = sym (ap length begins ∙ length-take-le used piece front.within) in
    let nothing = none_held old all parts read.1 (take used piece) has.bytes has.count front.none in
    let stage : old.stage ≡ (state_after start parts).stage = ap (λ s. s.stage) has.state in
    let long : length part ≡ whole old.stage part = sym size ∙ front.long ∙ ap (whole old.stage) (sym begins) in
    one_more new what added parts part (all ++ take used piece) frames (nothing.1 ∙ ap (λ b. bytes_of parts ++ b) (sym begins)) has.each has.read
    (subst (λ s. length part ≡ whole s part) stage long)
    (in_place old (Ok what) part used ends parts size ends_are says has.state) is (state ∙ ap (λ t. next t what) has.state)
    (held ∙ has.held ∙ ap (take 65627) nothing.0) (last ∙ has.last ∙ ap last_four nothing.0) (count ∙ front.none)
    (omega (arith, place, has.place, size))

pub front_refused : (old : CaptureReader) (fault : CaptureFault) (piece part : List ℕ) (used : ℕ) (last : List ℕ) → IsFront old piece used → part ≡ take used piece → last ≡ last_four part → Err fault ≡ content old.stage old.interfaces.items part used last → (all : List ℕ) (frames : List Frame) → IsRead all frames old → (place : ℕ) × IsRefusedAfter (all ++ take used piece) frames fault place × (old.place ≡ min place (2 ^ 64 - 1))
front_refused old fault piece part used ends front begins ends_are says all frames read =
    let parts = read.0 in
    let has = read.2 in
    let size : used ≡ length part = sym (ap length begins ∙ length-take-le used piece front.within) in
    let nothing = none_held old all parts read.1 (take used piece) has.bytes has.count front.none in
    let stage : old.stage ≡ (state_after start parts).stage = ap (λ s. s.stage) has.state in
    let long : length part ≡ whole old.stage part = sym size ∙ front.long ∙ ap (whole old.stage) (sym begins) in (
      length (bytes_of parts),
      one_bad fault parts part (all ++ take used piece) frames (nothing.1 ∙ ap (λ b. bytes_of parts ++ b) (sym begins)) has.each has.read
          (subst (λ s. length part ≡ whole s part) stage long) (in_place old (Err fault) part used ends parts size ends_are says has.state),
      has.place,
    )

pub front_some : (old : CaptureReader) (piece : List ℕ) (used : ℕ) → IsFront old piece used → 0 < used
front_some old piece used front = (let some = some_bytes old.stage (take used piece) in let long = front.long in omega (arith, some, long))

-- what follows changes no refusal
refused_more : (bytes x : List ℕ) (frames : List Frame) (fault : CaptureFault) (place : ℕ) → IsRefusedAfter bytes frames fault place → IsRefusedAfter (bytes ++ x) frames fault place
refused_more bytes x frames fault place h =
    let r = h.refused in
    record {
      refused = record {
        parts = r.parts;
        bad = r.bad;
        rest = r.rest ++ x;
        bytes_are = ap (λ b. b ++ x) r.bytes_are ∙ append_assoc (bytes_of r.parts) (r.bad ++ r.rest) x ∙ ap (λ b. bytes_of r.parts ++ b) (append_assoc r.bad r.rest x);
        before = r.before;
        long = r.long;
        wrong = r.wrong;
        place_is = r.place_is;
      };
      read = h.read;
    }

pub refused_piece : (all piece : List ℕ) (used : ℕ) (frames : List Frame) (fault : CaptureFault) (Is : ℕ → Type 0) → (fault ≡ Memory) ⊎ ((place : ℕ) × IsRefusedAfter (all ++ take used piece) frames fault place × Is place) → (fault ≡ Memory) ⊎ ((place : ℕ) × IsRefusedAfter (all ++ piece) frames fault place × Is place)
refused_piece all piece used frames fault Is (inl memory) = inl memory
refused_piece all piece used frames fault Is (inr h) = inr (
  h.0,
  subst (λ b. IsRefusedAfter b frames fault h.0) (append_assoc all (take used piece) (drop used piece) ∙ ap (λ b. all ++ b) (take-append-drop used piece))
      (refused_more (all ++ take used piece) (drop used piece) frames fault h.0 h.1),
  h.2,
)
