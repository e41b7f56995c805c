-- Whole sets, as they are found, are those that a decoder reads.
use Rattle.std.proofs.Common.{◌≡◌, ℕ, zero, suc, ◌+◌, ◌-◌, ◌*◌, ◌<◌, ◌≤◌, Bool, true, false, cond, eqb, ltb, leb, not, ◌||◌, List, [], ◌∷◌, ◌++◌, length, take, drop, slice_index, Option, Some, None, refl, sym, ap, subst, ◌∙◌, length-append, length-drop, arith, inl, inr}
use Rattle.std.proofs.lemmas.Bool.{eqb-true, eq-eqb, leb-true, le-leb, le-ltb, lt-ltb, ltb-false, not-true, both_ways, cond-true, cond-false, cases_Bool, and_parts, and_from}
use Rattle.std.proofs.lemmas.List.{length-take-le, take-append-drop}
use Rattle.usb_fields.specs.Bytes.{AreBytes}
use Rattle.usb_set.specs.declared.tree.Configuration.{Configuration}
use Rattle.usb_set.specs.declared.fault.SetWhy.{SetWhy}
use Rattle.usb_set.specs.declared.fault.SetWhy.TheVariants.{ItemLength, Over, Nested, ItemShort, Stray}
use Rattle.usb_set.specs.Building.{has_setting}
use Rattle.usb_set.specs.Descriptors.{Descriptor, type_number}
use Rattle.usb_set.specs.Layout.{set_bytes}
use Rattle.usb_set.specs.Faults.{Begins, is_set_type, header_fault, item_fault, least_length, total_of}
use Rattle.usb_set.specs.inside.Reading.{Reading, first, later, whole, faulty, reads, reading_of, goes_on, attach, configuration_of}
use Rattle.usb_set.proofs.ByteByByte.{option_cases, some_none, reads-append, reads-whole, reads-faulty, first_takes, later_takes, later_refuses}
use Rattle.usb_set.proofs.Growth.{has_setting-attach}
use Rattle.usb_set.proofs.Items.{two_bytes}
use Rattle.usb_set.proofs.Layouts.{complete_done, type_again}
use Rattle.usb_set.proofs.Sound.{Sound, sound}
use Rattle.usb_set.proofs.Stands.{before_end}
use Rattle.usb_find.specs.Found.{BeginsSet}
use Rattle.usb_find.specs.inside.Seeking.{are_items, has_header, is_item, length_of, set_length}

-- ---- one descriptor

pub least_two : (kind : ℕ) → 2 ≤ least_length kind
least_two kind = grind arith

not_stray : (s k : Bool) → (s || not k) ≡ true → cond k (cond s None (Some Stray)) None ≡ None
not_stray true true e = refl
not_stray true false e = refl
not_stray false true e = absurd cc
not_stray false false e = refl

-- what is tested of a descriptor is that it shows no fault
fine_item : (s : Bool) (len kind : ℕ) (rest : List ℕ) → is_item s (len ∷ kind ∷ rest) ≡ true → item_fault (2 + length rest) s (len ∷ kind ∷ rest) ≡ None
fine_item s len kind rest e =
    let p = and_parts (leb (least_length kind) len) _ e in
    let q = and_parts (leb len (2 + length rest)) _ p.1 in
    let r = and_parts (not (is_set_type kind)) _ q.1 in
    cond-false (ltb len 2) _ _ (le-ltb len 2 (omega (arith, least_two kind, leb-true (least_length kind) len p.0)))
    ∙ cond-false (ltb (2 + length rest) len) _ _ (le-ltb (2 + length rest) len (leb-true len (2 + length rest) q.0))
    ∙ cond-false (is_set_type kind) _ _ (not-true (is_set_type kind) r.0)
    ∙ cond-false (ltb len (least_length kind)) _ _ (le-ltb len (least_length kind) (leb-true (least_length kind) len p.0))
    ∙ not_stray s (eqb kind 5) r.1

no_fault : (b : Bool) (x : SetWhy) (o : Option SetWhy) → cond b (Some x) o ≡ None → (b ≡ false) × (o ≡ None)
no_fault true x o e = absurd cc
no_fault false x o e = (refl, e)

stray : (s k : Bool) → cond k (cond s None (Some Stray)) None ≡ None → (s || not k) ≡ true
stray true k e = refl
stray false true e = absurd cc
stray false false e = refl

no_item : (s : Bool) (len kind : ℕ) (rest : List ℕ) → item_fault (2 + length rest) s (len ∷ kind ∷ rest) ≡ None → is_item s (len ∷ kind ∷ rest) ≡ true
no_item s len kind rest e =
    let p = no_fault (ltb len 2) ItemLength _ e in
    let q = no_fault (ltb (2 + length rest) len) Over _ p.1 in
    let r = no_fault (is_set_type kind) Nested _ q.1 in
    let t = no_fault (ltb len (least_length kind)) ItemShort _ r.1 in
    and_from (leb (least_length kind) len) _ (le-leb (least_length kind) len (ltb-false len (least_length kind) t.0))
    (and_from (leb len (2 + length rest)) _ (le-leb len (2 + length rest) (ltb-false (2 + length rest) len q.0))
    (and_from (not (is_set_type kind)) _ (ap not r.0) (stray s (eqb kind 5) t.1)))

-- ---- the descriptors after the first

-- this many bytes are passed over
skip : (k : ℕ) (s : Bool) (b : List ℕ) → k ≤ length b → are_items k s b ≡ are_items 0 s (drop k b)
unfolding are_items
skip zero s b n = refl
skip (suc k) s [] n = absurd (omega arith)
skip (suc k) s (x ∷ b) n = skip k s b (omega arith)

-- what reading over the bytes comes to: the whole set, or a fault
abbrev Ended : Bool → ℕ → Reading → Type 0
Ended true total r = (c : Configuration) × (r ≡ whole c total)
Ended false total r = (p : ℕ) × (w : SetWhy) × (r ≡ faulty p w)

-- over one descriptor without fault
over_item : (c : Configuration) (total place m kind : ℕ) (rest : List ℕ) → place + suc (suc (length rest)) ≡ total → m ≤ length rest → item_fault (2 + length rest) (has_setting c) (suc (suc m) ∷ kind ∷ rest) ≡ None
    → reads (later c total place []) (suc (suc m) ∷ kind ∷ rest) ≡ reads (goes_on (attach c (record { kind = kind; body = take m rest })) total (place + (2 + m))) (drop m rest)
over_item c total place m kind rest sum n fine =
    let item : List ℕ = suc (suc m) ∷ kind ∷ take m rest in
    let parts : item ++ drop m rest ≡ suc (suc m) ∷ kind ∷ rest = ap (λ (z : List ℕ). suc (suc m) ∷ kind ∷ z) (take-append-drop m rest) in
    let room : 2 + length rest ≡ total - place = omega arith in
    let count : length (take m rest) ≡ m = length-take-le m rest n in
    ap (reads (later c total place [])) (sym parts)
    ∙ later_takes c total place item (drop m rest) (ap (item_fault (total - place) (has_setting c)) parts ∙ ap (λ z. item_fault z (has_setting c) (suc (suc m) ∷ kind ∷ rest)) (sym room) ∙ fine)
    (eq-eqb (length (kind ∷ take m rest) + 1) (suc (suc m)) (omega (arith, count)))
    ∙ ap (λ z. reads (goes_on (attach c (record { kind = kind; body = take m rest })) total (place + z)) (drop m rest)) (omega (arith, count))

item_taken : (n len kind : ℕ) (rest : List ℕ) (c : Configuration) (total place : ℕ)
    → ((b : List ℕ) (c : Configuration) (place : ℕ) → length b ≤ n → place + length b ≡ total → Ended (are_items 0 (has_setting c) b) total (reads (goes_on c total place) b))
    → length rest < n → place + length (len ∷ kind ∷ rest) ≡ total → is_item (has_setting c) (len ∷ kind ∷ rest) ≡ true
    → goes_on c total place ≡ later c total place [] → Ended (are_items 0 (has_setting c) (len ∷ kind ∷ rest)) total (reads (goes_on c total place) (len ∷ kind ∷ rest))
unfolding are_items
item_taken n zero kind rest c total place ih le sum y start = absurd (omega (arith, least_two kind, leb-true (least_length kind) 0 (and_parts (leb (least_length kind) 0) _ y).0))
item_taken n (suc zero) kind rest c total place ih le sum y start = absurd (omega (arith, least_two kind, leb-true (least_length kind) 1 (and_parts (leb (least_length kind) 1) _ y).0))
item_taken n (suc (suc m)) kind rest c total place ih le sum y start =
    let within : m ≤ length rest = omega (arith, leb-true (suc (suc m)) (2 + length rest) (and_parts (leb (suc (suc m)) (2 + length rest)) _ (and_parts (leb (least_length kind) (suc (suc m))) _ y).1).0) in
    let item : Descriptor = record { kind = kind; body = take m rest } in
    let left : length (drop m rest) ≡ length rest - m = length-drop m rest in
    let next = ih (drop m rest) (attach c item) (place + (2 + m)) (omega (arith, left, le)) (omega (arith, left, sum, within)) in
    let past : suc (suc m) - 1 ≡ suc m = omega arith in
    let same : are_items 0 (has_setting (attach c item)) (drop m rest) ≡ are_items 0 (has_setting c) (suc (suc m) ∷ kind ∷ rest) =
    ap (λ (v : Bool). are_items 0 v (drop m rest)) (has_setting-attach c item) ∙ sym (skip (suc m) (has_setting c || eqb kind 4) (kind ∷ rest) (omega (arith, within)))
    ∙ sym (ap (λ z. are_items z (has_setting c || eqb kind 4) (kind ∷ rest)) past) ∙ sym (cond-true (is_item (has_setting c) (suc (suc m) ∷ kind ∷ rest)) _ _ y) in
    let over : reads (goes_on c total place) (suc (suc m) ∷ kind ∷ rest) ≡ reads (goes_on (attach c item) total (place + (2 + m))) (drop m rest) =
    ap (λ (r : Reading). reads r (suc (suc m) ∷ kind ∷ rest)) start ∙ over_item c total place m kind rest (omega (arith, sum)) within (fine_item (has_setting c) (suc (suc m)) kind rest y) in
    subst (λ (r : Reading). Ended (are_items 0 (has_setting c) (suc (suc m) ∷ kind ∷ rest)) total r) (sym over)
    (subst (λ (v : Bool). Ended v total (reads (goes_on (attach c item) total (place + (2 + m))) (drop m rest))) same next)

walks : (n : ℕ) (b : List ℕ) (c : Configuration) (total place : ℕ) → length b ≤ n → place + length b ≡ total → Ended (are_items 0 (has_setting c) b) total (reads (goes_on c total place) b)
unfolding are_items goes_on
walks n [] c total place le sum = (c, cond-true (eqb place total) _ _ (eq-eqb place total (omega (arith, sum))) ∙ ap (whole c) (omega (arith, sum)))
walks zero (x ∷ b) c total place le sum = absurd (omega arith)
walks (suc n) (len ∷ []) c total place le sum =
    let start = before_end c total place (omega (arith, sum)) in
    let room : total - place ≡ 1 = omega (arith, sum) in
    elim (cases_Bool (ltb len 2)) [
      | inl y ↦ (place, ItemLength, ap (λ (r : Reading). reads r (len ∷ [])) start ∙ later_refuses c total place (len ∷ []) ItemLength (cond-true (ltb len 2) _ _ y))
      | inr t ↦ (
        place,
        Over,
        ap (λ (r : Reading). reads r (len ∷ [])) start ∙ later_refuses c total place (len ∷ []) Over
            (cond-false (ltb len 2) _ _ t ∙ cond-true (ltb (total - place) len) _ _ (lt-ltb (total - place) len (omega (arith, room, ltb-false len 2 t)))),
      )
    ]
walks (suc n) (len ∷ kind ∷ rest) c total place le sum =
    let start = before_end c total place (omega (arith, sum)) in
    let room : total - place ≡ 2 + length rest = omega (arith, sum) in
    let s = has_setting c in
    elim (cases_Bool (is_item (has_setting c) (len ∷ kind ∷ rest))) [
      | inl y ↦ item_taken n len kind rest c total place (λ b c place. walks n b c total place) (omega arith) sum y start
      | inr t ↦ elim (option_cases (item_fault (2 + length rest) (has_setting c) (len ∷ kind ∷ rest))) [
        | inl none ↦ absurd (both_ways _ t (no_item (has_setting c) len kind rest none))
        | inr some ↦
            subst (λ (v : Bool). Ended v total (reads (goes_on c total place) (len ∷ kind ∷ rest))) (sym (cond-false (is_item (has_setting c) (len ∷ kind ∷ rest)) _ _ t))
            (place, some.0, ap (λ (r : Reading). reads r (len ∷ kind ∷ rest)) start ∙ later_refuses c total place (len ∷ kind ∷ rest) some.0 (ap (λ z. item_fault z (has_setting c) (len ∷ kind ∷ rest)) room ∙ some.1))
      ]
    ]

-- ---- as the code goes over them

pub none_left : (s : Bool) (b : List ℕ) → length b ≡ 0 → are_items 0 s b ≡ true
unfolding are_items
none_left s [] n = refl
none_left s (x ∷ b) n = absurd (omega (arith, n))

pub refused : (s : Bool) (b : List ℕ) → 0 < length b → is_item s b ≡ false → are_items 0 s b ≡ false
unfolding are_items
refused s [] n e = absurd (omega arith)
refused s (len ∷ b) n e = cond-false (is_item s (len ∷ b)) _ _ e

pub over_one : (s : Bool) (b : List ℕ) → 0 < length b → is_item s b ≡ true → are_items 0 s b ≡ are_items 0 (s || eqb (slice_index b 1) 4) (drop (slice_index b 0) b)
unfolding are_items
over_one s [] n e = absurd (omega arith)
over_one s (len ∷ []) n e = absurd cc
over_one s (zero ∷ kind ∷ b) n e = absurd (omega (arith, least_two kind, leb-true (least_length kind) 0 (and_parts (leb (least_length kind) 0) _ e).0))
over_one s (suc m ∷ kind ∷ b) n e =
    let within : suc m ≤ 2 + length b = leb-true (suc m) (2 + length b) (and_parts (leb (suc m) (2 + length b)) _ (and_parts (leb (least_length kind) (suc m)) _ e).1).0 in
    let past : suc m - 1 ≡ m = omega arith in
    cond-true (is_item s (suc m ∷ kind ∷ b)) _ _ e ∙ ap (λ z. are_items z (s || eqb kind 4) (kind ∷ b)) past ∙ skip m (s || eqb kind 4) (kind ∷ b) (omega (arith, within))

-- ---- the whole set

settled : (v : Bool) (total : ℕ) (r : Reading) (xs : List ℕ) → Ended v total r → length_of (reads r xs) ≡ cond v (Some total) None
settled true total r xs h = ap (λ (z : Reading). length_of (reads z xs)) h.1 ∙ ap length_of (reads-whole h.0 total xs)
settled false total r xs h = ap (λ (z : Reading). length_of (reads z xs)) h.2 ∙ ap length_of (reads-faulty h.0 h.1 xs)

pub header_passes : (b : List ℕ) → (slice_index b 0 ≡ 9) → is_set_type (slice_index b 1) ≡ true → 9 ≤ total_of b → total_of b ≤ length b
    → length_of (reading_of b) ≡ cond (are_items 0 false (take (total_of b - 9) (drop 9 b))) (Some (total_of b)) None
header_passes [] l k n m = absurd (omega (arith, n, m))
header_passes (a ∷ []) l k n m = absurd (omega (arith, n, m))
header_passes (a ∷ b ∷ []) l k n m = absurd (omega (arith, n, m))
header_passes (a ∷ b ∷ c ∷ []) l k n m = absurd (omega (arith, n, m))
header_passes (a ∷ b ∷ c ∷ d ∷ []) l k n m = absurd (omega (arith, n, m))
header_passes (a ∷ b ∷ c ∷ d ∷ e ∷ []) l k n m = absurd (omega (arith, n, m))
header_passes (a ∷ b ∷ c ∷ d ∷ e ∷ f ∷ []) l k n m = absurd (omega (arith, n, m))
header_passes (a ∷ b ∷ c ∷ d ∷ e ∷ f ∷ g ∷ []) l k n m = absurd (omega (arith, n, m))
header_passes (a ∷ b ∷ c ∷ d ∷ e ∷ f ∷ g ∷ h ∷ []) l k n m = absurd (omega (arith, n, m))
header_passes (len ∷ kind ∷ low ∷ high ∷ i ∷ v ∷ t ∷ a ∷ p ∷ rest) l k n m =
    let header : List ℕ = len ∷ kind ∷ low ∷ high ∷ i ∷ v ∷ t ∷ a ∷ p ∷ [] in
    let total : ℕ = low + 256 * high in
    let c : Configuration = configuration_of (len ∷ kind ∷ low ∷ high ∷ i ∷ v ∷ t ∷ a ∷ p ∷ []) in
    let mid : List ℕ = take (low + 256 * high - 9) rest in
    let fine : header_fault (len ∷ kind ∷ low ∷ high ∷ i ∷ v ∷ t ∷ a ∷ p ∷ rest) ≡ None =
    cond-false (ltb len 9) _ _ (le-ltb len 9 (omega (arith, l))) ∙ cond-true (is_set_type kind) _ _ k ∙ cond-false (ltb (low + 256 * high) len) _ _ (le-ltb (low + 256 * high) len (omega (arith, l, n))) in
    let count : length (take (low + 256 * high - 9) rest) ≡ low + 256 * high - 9 = length-take-le (low + 256 * high - 9) rest (omega (arith, m)) in
    let ended = walks (length (take (low + 256 * high - 9) rest)) (take (low + 256 * high - 9) rest) (configuration_of (len ∷ kind ∷ low ∷ high ∷ i ∷ v ∷ t ∷ a ∷ p ∷ [])) (low + 256 * high) 9 (omega arith) (omega (arith, count, n)) in
    ap length_of (first_takes (len ∷ kind ∷ low ∷ high ∷ i ∷ v ∷ t ∷ a ∷ p ∷ []) rest fine (eq-eqb 9 len (sym l)))
    ∙ ap (λ (z : List ℕ). length_of (reads (goes_on c (low + 256 * high) 9) z)) (sym (take-append-drop (low + 256 * high - 9) rest))
    ∙ ap length_of (reads-append (goes_on c (low + 256 * high) 9) (take (low + 256 * high - 9) rest) (drop (low + 256 * high - 9) rest))
    ∙ settled (are_items 0 false (take (low + 256 * high - 9) rest)) (low + 256 * high) _ (drop (low + 256 * high - 9) rest) ended

header_read : (b : List ℕ) → has_header b ≡ true → set_length b ≡ cond (are_items 0 false (take (total_of b - 9) (drop 9 b))) (Some (total_of b)) None
unfolding set_length has_header
header_read b e =
    let p = and_parts (eqb (slice_index b 0) 9) _ e in
    let q = and_parts (is_set_type (slice_index b 1)) _ p.1 in
    let r = and_parts (leb 9 (total_of b)) _ q.1 in
    cond-true (eqb (slice_index b 0) 9) _ _ p.0
    ∙ header_passes b (eqb-true (slice_index b 0) 9 p.0) q.0 (leb-true 9 (total_of b) r.0) (leb-true (total_of b) (length b) r.1)

pub read_whole : (b : List ℕ) → has_header b ≡ true → are_items 0 false (take (total_of b - 9) (drop 9 b)) ≡ true → set_length b ≡ Some (total_of b)
read_whole b e y = header_read b e ∙ cond-true _ _ _ y

pub broken : (b : List ℕ) → has_header b ≡ true → are_items 0 false (take (total_of b - 9) (drop 9 b)) ≡ false → set_length b ≡ None
broken b e t = header_read b e ∙ cond-false _ _ _ t

-- what a decoder reads to its end is the layout of a set
begins_by : (b : List ℕ) (r : Reading) (n : ℕ) → Sound b r → length_of r ≡ Some n → (c : Configuration) × Begins b c n
begins_by b (first cur) n h e = absurd cc
begins_by b (later c total place cur) n h e = absurd cc
begins_by b (whole c place) n h e = let same : place ≡ n = cc e in (c, subst (Begins b c) same h)
begins_by b (faulty place why) n h e = absurd cc

-- a set has a header as it is tested
begins_header : (b : List ℕ) (c : Configuration) (n : ℕ) → Begins b c n → eqb (slice_index b 0) 9 ≡ true → has_header b ≡ true
unfolding has_header
begins_header b c n h e =
    let bytes = h.layout.bytes in
    let all : b ≡ set_bytes c (length h.front) ++ h.rest = h.parts ∙ ap (λ (z : List ℕ). z ++ h.rest) h.layout.bytes in
    let kind : slice_index b 1 ≡ type_number c.kind = ap (λ (z : List ℕ). slice_index z 1) all in
    let total : total_of b ≡ length h.front = ap total_of all ∙ two_bytes (length h.front) in
    let long : 9 ≤ length h.front = omega (arith, ap length h.layout.bytes) in
    let room : length b ≡ length h.front + length h.rest = ap length h.parts ∙ length-append h.front h.rest in
    and_from (eqb (slice_index b 0) 9) _ e (and_from (is_set_type (slice_index b 1)) _ (ap is_set_type kind ∙ type_again c.kind)
    (and_from (leb 9 (total_of b)) _ (le-leb 9 (total_of b) (omega (arith, total, long))) (le-leb (total_of b) (length b) (omega (arith, total, room)))))

pub no_header : (b : List ℕ) → AreBytes b → has_header b ≡ false → set_length b ≡ None
unfolding set_length
no_header b fits e =
    elim (cases_Bool (eqb (slice_index b 0) 9)) [
      | inl y ↦ elim (option_cases (length_of (reading_of b))) [
        | inl none ↦ cond-true (eqb (slice_index b 0) 9) _ _ y ∙ none
        | inr some ↦
            let begins = begins_by b (reading_of b) some.0 (sound b fits) some.1 in
            absurd (both_ways _ e (begins_header b begins.0 some.0 begins.1 y))
      ]
      | inr t ↦ cond-false (eqb (slice_index b 0) 9) _ _ t
    ]

-- ---- the whole set, as it is defined

pub set_begins : (b : List ℕ) (n : ℕ) → AreBytes b → set_length b ≡ Some n → BeginsSet b n
unfolding set_length
set_begins b n fits e =
    elim (cases_Bool (eqb (slice_index b 0) 9)) [
      | inl y ↦
          let begins = begins_by b (reading_of b) n (sound b fits) (sym (cond-true (eqb (slice_index b 0) 9) _ _ y) ∙ e) in
          record { set = begins.0; begins = begins.1; first = eqb-true (slice_index b 0) 9 y }
      | inr t ↦ absurd (some_none n (sym e ∙ cond-false (eqb (slice_index b 0) 9) _ _ t))
    ]

pub begins_set : (b : List ℕ) (n : ℕ) → BeginsSet b n → set_length b ≡ Some n
unfolding set_length
begins_set b n h = cond-true (eqb (slice_index b 0) 9) _ _ (eq-eqb (slice_index b 0) 9 h.first) ∙ ap length_of (complete_done b h.set n h.begins)
