-- The parts of a file are one list.
use Rattle.std.proofs.Common.{◌≡◌, ℕ, ◌^◌, ◌-◌, ◌<◌, ◌≤◌, List, [], ◌∷◌, ◌++◌, length, take, drop, map, min, nat_lt, false, rules, ◌⊎◌, inl, inr, refl, sym, ◌∙◌, ap, subst, arith, append_assoc, length-append}
use Rattle.std.proofs.lemmas.List.{drop_at, length-drop, take_at, take_min}
use Rattle.std.proofs.lemmas.Bool.Decides.{nat_tests}
use Rattle.std.specs.List.{AllByRecursion}
use Rattle.std.specs.Prelude.{Result, Ok, Err, IsOk, if◌then◌else◌}
use Rattle.usb_capture.specs.declared.content.Content.{Content}
use Rattle.usb_capture.specs.declared.content.Content.TheVariants as says
use Rattle.usb_capture.specs.declared.fault.CaptureFault.{CaptureFault}
use Rattle.usb_capture.specs.declared.frame.Frame.{Frame}
use Rattle.usb_capture.specs.declared.pcap.Form.{Form}
use Rattle.usb_capture.specs.declared.reader.CaptureReader.{CaptureReader}
use Rattle.usb_capture.specs.declared.stage.Stage.TheVariants.{Start, Records}
use Rattle.usb_capture.specs.Files.{AreParts, IsPart, IsRefused, State, after_content, bytes_of, content_of, first_content, first_length, frame_with, frames_of, frames_with, last_four, record_head, start, state_after, whole}
use Rattle.usb_capture.specs.Pcap.{IsHeader, IsPartial, IsRecord, frame_of, record_length, writer_of}
use Rattle.usb_capture.specs.Reading.{IsRead}
use Rattle.usb_capture.proofs.Numbers.{le_or}
use Rattle.usb_capture.proofs.Whole.{least_record, whole_steady}

-- what bytes begin with and what follows, where it has one length
same_front : (a b x y : List ℕ) → length a ≡ length b → a ++ x ≡ b ++ y → (a ≡ b) × (x ≡ y)
same_front a b x y long is = (
  sym (take_at a x (length a) refl) ∙ ap (take (length a)) is ∙ take_at b y (length a) (sym long),
  sym (drop_at a x (length a) refl) ∙ ap (drop (length a)) is ∙ drop_at b y (length a) (sym long),
)

-- bytes that begin with a part that has a fault
record Wrong (s : State) (p : List ℕ) : Type 0 where
  bad : List ℕ
  rest : List ℕ
  fault : CaptureFault
  are : p ≡ bad ++ rest
  long : length bad ≡ whole s.stage bad
  wrong : content_of s bad ≡ Err fault

-- nothing is read of these bytes: they are less than a part, or it has a fault
abbrev Stops : State → List ℕ → Type 0
Stops s p = (length p < whole s.stage p) ⊎ Wrong s p

-- two whole parts that the same bytes begin with are one
same_part : (s : State) (a b x y : List ℕ) → length a ≡ whole s.stage a → length b ≡ whole s.stage b → a ++ x ≡ b ++ y → (a ≡ b) × (x ≡ y)
same_part s a b x y long longer is =
    let first = whole_steady s.stage a x (omega (arith, long)) in
    let second = whole_steady s.stage b y (omega (arith, longer)) in
    let same = ap (whole s.stage) is in
    same_front a b x y (omega (arith, first, second, same, long, longer)) is

-- what has a fault isn't right
not_right : (r : Result Content CaptureFault) (fault : CaptureFault) → r ≡ Err fault → IsOk r → ⊥
not_right (Ok content) fault wrong right = cc
not_right (Err other) fault wrong right = cc

same_fault : (r : Result Content CaptureFault) (f g : CaptureFault) → r ≡ Err f → r ≡ Err g → f ≡ g
same_fault r f g a b = cc

not_both : (s : State) (p r x : List ℕ) → Stops s p → IsPart s r → p ≡ r ++ x → ⊥
not_both s p r x (inl few) is whole_is =
    let long = whole_steady s.stage r x (omega (arith, is.long)) in
    let sum = length-append r x in
    let less : length (r ++ x) < whole s.stage (r ++ x) = subst (λ b. length b < whole s.stage b) whole_is few in
    omega (arith, long, sum, less, is.long)
not_both s p r x (inr wrong) is whole_is =
    let same = same_part s wrong.bad r wrong.rest x wrong.long is.long (sym wrong.are ∙ whole_is) in
    not_right (content_of s r) wrong.fault (subst (λ b. content_of s b ≡ Err wrong.fault) same.0 wrong.wrong) is.right

-- bytes are parts and a rest in one way
same_parts : (s : State) (xs ys : List (List ℕ)) (p q : List ℕ) → AreParts s xs → AreParts s ys → Stops (state_after s xs) p → Stops (state_after s ys) q → bytes_of xs ++ p ≡ bytes_of ys ++ q → (xs ≡ ys) × (p ≡ q)
same_parts s [] [] p q a b e f is = (refl, is)
same_parts s [] (y ∷ ys) p q a b e f is = absurd (not_both s p y (bytes_of ys ++ q) e b.0 (is ∙ append_assoc y (bytes_of ys) q))
same_parts s (x ∷ xs) [] p q a b e f is = absurd (not_both s q x (bytes_of xs ++ p) f a.0 (sym is ∙ append_assoc x (bytes_of xs) p))
same_parts s (x ∷ xs) (y ∷ ys) p q a b e f is =
    let apart : x ++ (bytes_of xs ++ p) ≡ y ++ (bytes_of ys ++ q) = sym (append_assoc x (bytes_of xs) p) ∙ is ∙ append_assoc y (bytes_of ys) q in
    let both = same_part s x y (bytes_of xs ++ p) (bytes_of ys ++ q) a.0.long b.0.long apart in
    let later = after_content s (content_of s x) in
    let back : after_content s (content_of s y) ≡ later = ap (λ z. after_content s (content_of s z)) (sym both.0) in
    let each = subst (λ t. AreParts t ys) back b.1 in
    let stops = subst (λ t. Stops (state_after t ys) q) back f in
    let rest = same_parts later xs ys p q a.1 each e stops both.1 in
    (ap (λ r. r ∷ xs) both.0 ∙ ap (λ rs. y ∷ rs) rest.0, rest.1)

-- a reader's part isn't whole
reads : (all : List ℕ) (frames : List Frame) (reader : CaptureReader) (read : IsRead all frames reader) → Stops (state_after start read.0) read.1
reads all frames reader read =
    let stage : reader.stage ≡ (state_after start read.0).stage = ap (λ s. s.stage) read.2.state in
    inl (subst (λ s. length read.1 < whole s read.1) stage read.3)

refuses : (all : List ℕ) (fault : CaptureFault) (place : ℕ) (h : IsRefused all fault place) → Stops (state_after start h.parts) (h.bad ++ h.rest)
refuses all fault place h = inr (record { bad = h.bad; rest = h.rest; fault = fault; are = refl; long = h.long; wrong = h.wrong })

-- a file that is these parts and less than another is read as they are
pub parts_are_read : (parts : List (List ℕ)) (rest : List ℕ) (frames : List Frame) (reader : CaptureReader) → AreParts start parts → length rest < whole (state_after start parts).stage rest → IsRead (bytes_of parts ++ rest) frames reader → (frames ≡ frames_of start parts) × (reader.count ≡ length rest)
parts_are_read parts rest frames reader each few read =
    let same = same_parts start read.0 parts read.1 rest read.2.each each (reads (bytes_of parts ++ rest) frames reader read) (inl few) (sym read.2.bytes) in
    (read.2.read ∙ ap (frames_of start) same.0, read.2.count ∙ ap length same.1)

-- a file has one list of frames
pub read_once : (all : List ℕ) (xs ys : List Frame) (one other : CaptureReader) → IsRead all xs one → IsRead all ys other → (xs ≡ ys) × (one.place ≡ other.place) × (one.count ≡ other.count)
read_once all xs ys one other a b =
    let same = same_parts start a.0 b.0 a.1 b.1 a.2.each b.2.each (reads all xs one a) (reads all ys other b) (sym a.2.bytes ∙ b.2.bytes) in (
      a.2.read ∙ ap (frames_of start) same.0 ∙ sym b.2.read,
      a.2.place ∙ ap (λ parts. min (length (bytes_of parts)) (2 ^ 64 - 1)) same.0 ∙ sym b.2.place,
      a.2.count ∙ ap length same.1 ∙ sym b.2.count,
    )

-- or one fault, at one place
pub refused_once : (all : List ℕ) (f g : CaptureFault) (m n : ℕ) → IsRefused all f m → IsRefused all g n → (f ≡ g) × (m ≡ n)
refused_once all f g m n a b =
    let same = same_parts start a.parts b.parts (a.bad ++ a.rest) (b.bad ++ b.rest) a.before b.before (refuses all f m a) (refuses all g n b) (sym a.bytes_are ∙ b.bytes_are) in
    let back : b.parts ≡ a.parts = sym same.0 in
    let long = subst (λ parts. length b.bad ≡ whole (state_after start parts).stage b.bad) back b.long in
    let bad = (same_part (state_after start a.parts) a.bad b.bad a.rest b.rest a.long long same.1).0 in
    let wrong = subst (λ parts. content_of (state_after start parts) b.bad ≡ Err g) back b.wrong in
    let fault = same_fault (content_of (state_after start a.parts) a.bad) f g a.wrong (ap (content_of (state_after start a.parts)) bad ∙ wrong) in
    (fault, a.place_is ∙ ap (λ parts. length (bytes_of parts)) same.0 ∙ sym b.place_is)

-- and no file has both
pub refused_or_read : (all : List ℕ) (fault : CaptureFault) (place : ℕ) (frames : List Frame) (reader : CaptureReader) → IsRefused all fault place → IsRead all frames reader → ⊥
refused_or_read all fault place frames reader a b =
    let same = same_parts start a.parts b.0 (a.bad ++ a.rest) b.1 a.before b.2.each (refuses all fault place a) (reads all frames reader b) (sym a.bytes_are ∙ b.2.bytes) in
    let few : length (a.bad ++ a.rest) < whole (state_after start a.parts).stage (a.bad ++ a.rest) =
    subst (λ parts. length (a.bad ++ a.rest) < whole (state_after start parts).stage (a.bad ++ a.rest)) (sym same.0)
    (subst (λ p. length p < whole (state_after start b.0).stage p) (sym same.1)
    (subst (λ s. length b.1 < whole s b.1) (ap (λ s. s.stage) b.2.state) b.3)) in
    let steady = whole_steady (state_after start a.parts).stage a.bad a.rest (omega (arith, a.long)) in
    let sum = length-append a.bad a.rest in
    omega (arith, few, steady, sum, a.long)

-- the records of pcap, as parts
abbrev records_state : Form → State
records_state form = record { stage = Records form; interfaces = [] }

record_frame : (form : Form) (r : List ℕ) → IsRecord form.writer.order r → frame_with (record_head form r) r ≡ frame_of form r
record_frame form r is =
    let rest : length (drop 16 r) ≡ length r - 16 = length-drop 16 r in
    let kept_data : take (min (record_head form r).captured 65599) (drop 16 r) ≡ take 65599 (drop 16 r) =
    ap (λ n. take n (drop 16 r)) (let e : min (record_head form r).captured 65599 ≡ min 65599 (length (drop 16 r)) = omega (arith, rest, is) in e)
    ∙ take_min 65599 (drop 16 r) in
    ap (λ d. let frame : Frame = record {
      time = (record_head form r).time;
      link = form.link;
      order = form.writer.order;
      captured = (record_head form r).captured;
      original = (record_head form r).original;
      bytes = d;
    } in frame) kept_data

record_whole : (form : Form) (r : List ℕ) → 16 ≤ length r → whole (Records form) r ≡ record_length form.writer.order r
record_whole form r long = (let t : nat_lt (length r) 16 ≡ false = grind (arith, nat_tests) in ap (λ t. if t then 16 else record_length form.writer.order r) t)

records_parts : (form : Form) (records : List (List ℕ)) → AllByRecursion (IsRecord form.writer.order) records → AreParts (records_state form) records
records_parts form [] each = tt
records_parts form (r ∷ rs) each = (
  record {
    long = (let e = record_whole form r (omega (arith, each.0)) in omega (arith, e, each.0));
    right = refl;
  },
  records_parts form rs each.1,
)

records_stay : (form : Form) (records : List (List ℕ)) → state_after (records_state form) records ≡ records_state form
records_stay form [] = refl
records_stay form (r ∷ rs) = records_stay form rs

records_frames : (form : Form) (records : List (List ℕ)) → AllByRecursion (IsRecord form.writer.order) records → frames_of (records_state form) records ≡ map (frame_of form) records
records_frames form [] each = refl
records_frames form (r ∷ rs) each =
    ap (λ f. f ∷ frames_of (records_state form) rs) (record_frame form r each.0) ∙ ap (λ fs. frame_of form r ∷ fs) (records_frames form rs each.1)

record_partial : (form : Form) (rest : List ℕ) → IsPartial form.writer.order rest → length rest < whole (Records form) rest
record_partial form rest few =
    elim (le_or 16 (length rest)) [
      | inl long ↦ (let e = record_whole form rest long in omega (arith, e, few))
      | inr short ↦ (let h = least_record form rest in omega (arith, h, short))
    ]

-- the file header, as a part
header_content : (form : Form) (header : List ℕ) → IsHeader form header → content_of start header ≡ Ok (says.Header form)
header_content form header is =
    ap (λ w. first_content w header (length header) (last_four header)) is.begins ∙ ap (λ f. Ok (says.Header f)) (sym is.link)

header_whole : (form : Form) (header : List ℕ) → IsHeader form header → length header ≡ whole Start header
header_whole form header is =
    let t : nat_lt (length header) 4 ≡ false = (let long = is.long in grind (arith, nat_tests)) in
    is.long ∙ sym (ap (λ t. if t then 4 else first_length (writer_of header) header) t ∙ ap (λ w. first_length w header) is.begins)

header_part : (form : Form) (header : List ℕ) → IsHeader form header → IsPart start header
header_part form header is = record {
  long = header_whole form header is;
  right = subst IsOk (sym (header_content form header is)) (search rules);
}

header_state : (form : Form) (header : List ℕ) → IsHeader form header → after_content start (content_of start header) ≡ records_state form
header_state form header is = ap (after_content start) (header_content form header is)

-- a file of pcap has the frames of its records
pub frames_of_a_file : (form : Form) (header : List ℕ) (records : List (List ℕ)) (rest : List ℕ) (frames : List Frame) (reader : CaptureReader) → IsHeader form header → AllByRecursion (IsRecord form.writer.order) records → IsPartial form.writer.order rest → IsRead ((header ++ bytes_of records) ++ rest) frames reader → (frames ≡ map (frame_of form) records) × (reader.count ≡ length rest)
frames_of_a_file form header records rest frames reader is each few read =
    let state = header_state form header is in
    let parts : AreParts start (header ∷ records) = (header_part form header is, subst (λ s. AreParts s records) (sym state) (records_parts form records each)) in
    let after : state_after start (header ∷ records) ≡ records_state form = ap (λ s. state_after s records) state ∙ records_stay form records in
    let less : length rest < whole (state_after start (header ∷ records)).stage rest = subst (λ s. length rest < whole s.stage rest) (sym after) (record_partial form rest few) in
    let got = parts_are_read (header ∷ records) rest frames reader parts less read in
    let whose : frames_of start (header ∷ records) ≡ map (frame_of form) records =
    ap (λ r. frames_with r header ++ frames_of (after_content start r) records) (header_content form header is) ∙ records_frames form records each in
    (got.0 ∙ whose, got.1)

-- and is refused nowhere
not_refused : (form : Form) (header x : List ℕ) (fault : CaptureFault) (parts : List (List ℕ)) (bad rest : List ℕ) → IsHeader form header → header ++ x ≡ bytes_of parts ++ (bad ++ rest) → AreParts start parts → length bad ≡ whole (state_after start parts).stage bad → content_of (state_after start parts) bad ≡ Err fault → ⊥
not_refused form header x fault [] bad rest is bytes before long wrong =
    let same = same_part start bad header rest x long (header_whole form header is) (sym bytes) in
    not_right (content_of start header) fault (subst (λ b. content_of start b ≡ Err fault) same.0 wrong) (header_part form header is).right
not_refused form header x fault (p ∷ ps) bad rest is bytes before long wrong =
    let apart = bytes ∙ append_assoc p (bytes_of ps) (bad ++ rest) in
    let same = same_part start p header (bytes_of ps ++ (bad ++ rest)) x before.0.long (header_whole form header is) (sym apart) in
    let state : state_after start (p ∷ ps) ≡ records_state form =
    ap (λ b. state_after (after_content start (content_of start b)) ps) same.0 ∙ ap (λ s. state_after s ps) (header_state form header is) ∙ records_stay form ps in
    not_right (content_of (records_state form) bad) fault (subst (λ s. content_of s bad ≡ Err fault) state wrong) refl

pub header_is_right : (form : Form) (header x : List ℕ) (fault : CaptureFault) (place : ℕ) → IsHeader form header → IsRefused (header ++ x) fault place → ⊥
header_is_right form header x fault place is h = not_refused form header x fault h.parts h.bad h.rest is h.bytes_are h.before h.long h.wrong
