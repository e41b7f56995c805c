-- Reading descriptor by descriptor is reading byte by byte.
use Rattle.std.proofs.Common.{◌≡◌, ℕ, ◌+◌, ◌-◌, ◌<◌, ◌≤◌, true, false, eqb, min, List, [], ◌∷◌, ◌++◌, length, take, drop, get_or, Option, Some, None, refl, sym, ap, subst, ◌∙◌, length-append, length-drop, arith, inl, inr}
use Rattle.std.proofs.lemmas.Bool.{cond-true, cond-false, cases_Bool, cases_lt, eqb-false, eq-eqb}
use Rattle.std.proofs.lemmas.List.{take_all, take-append-drop, length-take-le}
use Rattle.std.proofs.Common.{Result, Ok, Err}
use Rattle.std.specs.Prelude.{OnOk, OnErr, is_err}
use Rattle.usb_set.specs.declared.tree.Configuration.{Configuration}
use Rattle.usb_set.specs.declared.fault.SetFault.{SetFault}
use Rattle.usb_set.specs.declared.fault.SetWhy.{SetWhy}
use Rattle.usb_set.specs.declared.reader.Step.TheVariants.{Took, Cut, Refused}
use Rattle.usb_set.specs.Faults.{Fault, is_whole, header_fault, total_of}
use Rattle.usb_set.specs.Building.{has_setting}
use Rattle.usb_set.specs.inside.Reading.{Reading, first, later, whole, faulty, reads, goes_on, attach, configuration_of, first_byte}
use Rattle.usb_set.specs.inside.Stepping.{InWork, is_done, place_of, current_of, taken, with_current, partial_of, IsStart, GoesOn, header_at, item_at, fault_at, past, IsWanting, WantsHere, Steps}
use Rattle.usb_set.proofs.ByteByByte.{reads-append, reads-faulty, waits_in, goes_through, first_fine, first_past, header_fault-front, first_stays, first_leaves, item_fine, item_past, item_fault-front, item_stays, item_leaves, later_waits, later_refuses, refuses_from, header_long, header_settled, whole_length}
use Rattle.usb_set.proofs.Stands.{header_within}

-- ---- the fault that bytes show

no_header : (o : Option Fault) → header_at o ≡ None → o ≡ None
no_header None e = refl
no_header (Some f) e = absurd cc

some_header : (o : Option Fault) (fault : SetFault) → header_at o ≡ Some fault → o ≡ Some (fault.at, fault.why)
some_header None fault e = absurd cc
some_header (Some f) fault e =
    let is : record { at = f.0; why = f.1 } ≡ fault = cc in
    ap (λ (g : SetFault). Some (g.at, g.why)) is

no_item : (place : ℕ) (o : Option SetWhy) → item_at place o ≡ None → o ≡ None
no_item place None e = refl
no_item place (Some f) e = absurd cc

some_item : (place : ℕ) (o : Option SetWhy) (fault : SetFault) → item_at place o ≡ Some fault → (o ≡ Some fault.why) × (fault.at ≡ place)
some_item place None fault e = absurd cc
some_item place (Some why) fault e =
    let is : record { at = place; why = why } ≡ fault = cc in
    (ap (λ (f : SetFault). Some f.why) is, sym (ap (λ (f : SetFault). f.at) is))

pub work_of : (p : Reading) (current : List ℕ) → InWork (with_current p current) → InWork p
work_of (first b) current w = tt
work_of (later c total place b) current w = tt
work_of (whole c place) current w = w
work_of (faulty place why) current w = w

pub work_with : (p : Reading) (current : List ℕ) → InWork p → InWork (with_current p current)
work_with (first b) current w = tt
work_with (later c total place b) current w = tt
work_with (whole c place) current w = w
work_with (faulty place why) current w = w

-- where bytes of the current descriptor are there, the set goes on
pub work_there : (p : Reading) (current : List ℕ) → GoesOn (with_current p current) → (is_done p ≡ true → current ≡ []) → 0 < length current → InWork p
work_there (first b) current on empty some = tt
work_there (later c total place b) current on empty some = tt
work_there (whole c place) current on empty some = absurd (omega (arith, some, ap length (empty refl)))
work_there (faulty place why) current on empty some = on

-- ---- over bytes of one descriptor

pub waits : (p : Reading) (current xs : List ℕ) → InWork p → fault_at p (current ++ xs) ≡ None → length (current ++ xs) < first_byte (current ++ xs) → reads (with_current p current) xs ≡ with_current p (current ++ xs)
waits (first b) current xs w fine short = waits_in first first_past first_fine header_fault-front first_stays first_leaves current xs (no_header _ fine) short
waits (later c total place b) current xs w fine short =
    waits_in (later c total place) (item_past c total place) (item_fine c total place) (item_fault-front (total - place) (has_setting c)) (item_stays c total place) (item_leaves c total place) current xs (no_item place _ fine) short
waits (whole c place) current xs w fine short = absurd w
waits (faulty place why) current xs w fine short = absurd w

pub takes : (p : Reading) (current xs : List ℕ) → InWork p → fault_at p (current ++ xs) ≡ None → is_whole (current ++ xs) ≡ true → 0 < length xs → reads (with_current p current) xs ≡ past p (current ++ xs)
takes (first b) current xs w fine e some = goes_through first first_past first_fine header_fault-front first_stays first_leaves current xs some (no_header _ fine) e
takes (later c total place b) current xs w fine e some =
    goes_through (later c total place) (item_past c total place) (item_fine c total place) (item_fault-front (total - place) (has_setting c)) (item_stays c total place) (item_leaves c total place) current xs some (no_item place _ fine) e
takes (whole c place) current xs w fine e some = absurd w
takes (faulty place why) current xs w fine e some = absurd w

pub refuses : (p : Reading) (current xs : List ℕ) (fault : SetFault) → InWork p → GoesOn (with_current p current) → fault_at p (current ++ xs) ≡ Some fault → reads (with_current p current) xs ≡ faulty fault.at fault.why
refuses (first b) current xs fault w on e = refuses_from current xs (fault.at, fault.why) on.0 (some_header _ fault e)
refuses (later c total place b) current xs fault w on e =
    let is = some_item place _ fault e in
    ap (λ (r : Reading). reads r xs) (sym (later_waits c total place current on.0 on.1))
    ∙ sym (reads-append (later c total place []) current xs)
    ∙ later_refuses c total place (current ++ xs) fault.why is.0
    ∙ ap (λ n. faulty n fault.why) (sym is.1)
refuses (whole c place) current xs fault w on e = absurd w
refuses (faulty place why) current xs fault w on e = absurd w

-- ---- past a descriptor

goes_on-with : (c : Configuration) (total place : ℕ) → with_current (goes_on c total place) [] ≡ goes_on c total place
unfolding goes_on
goes_on-with c total place = elim (cases_Bool (eqb place total)) [
  | inl y ↦ ap (λ (r : Reading). with_current r []) (cond-true (eqb place total) (whole c place) (later c total place []) y) ∙ sym (cond-true (eqb place total) (whole c place) (later c total place []) y)
  | inr n ↦ ap (λ (r : Reading). with_current r []) (cond-false (eqb place total) (whole c place) (later c total place []) n) ∙ sym (cond-false (eqb place total) (whole c place) (later c total place []) n)
]

goes_on-taken : (c : Configuration) (total place : ℕ) → taken (goes_on c total place) ≡ place
unfolding goes_on
goes_on-taken c total place = elim (cases_Bool (eqb place total)) [
  | inl y ↦ ap taken (cond-true (eqb place total) (whole c place) (later c total place []) y) ∙ omega arith
  | inr n ↦ ap taken (cond-false (eqb place total) (whole c place) (later c total place []) n) ∙ omega arith
]

pub past-with : (p : Reading) (item : List ℕ) → with_current (past p item) [] ≡ past p item
past-with (first b) item = goes_on-with (configuration_of item) (total_of item) (length item)
past-with (later c total place b) item = goes_on-with (attach c (record { kind = get_or item 1 0; body = drop 2 item })) total (place + length item)
past-with (whole c place) item = refl
past-with (faulty place why) item = refl

past-taken : (p : Reading) (item : List ℕ) → InWork p → taken (past p item) ≡ place_of p + length item
past-taken (first b) item w = goes_on-taken (configuration_of item) (total_of item) (length item) ∙ omega arith
past-taken (later c total place b) item w = goes_on-taken (attach c (record { kind = get_or item 1 0; body = drop 2 item })) total (place + length item)
past-taken (whole c place) item w = absurd w
past-taken (faulty place why) item w = absurd w

pub start_on : (p : Reading) → IsStart p → GoesOn (with_current p [])
start_on (first b) h = (refl, omega arith, omega arith)
start_on (later c total place b) h = (refl, omega arith, omega arith)
start_on (whole c place) h = tt
start_on (faulty place why) h = h

-- ---- what the fields say of the reading

pub place_with : (p : Reading) (current : List ℕ) → place_of (with_current p current) ≡ place_of p
place_with (first b) current = refl
place_with (later c total place b) current = refl
place_with (whole c place) current = refl
place_with (faulty place why) current = refl

pub current_with : (p : Reading) (current : List ℕ) → InWork p → current_of (with_current p current) ≡ current
current_with (first b) current w = refl
current_with (later c total place b) current w = refl
current_with (whole c place) current w = absurd w
current_with (faulty place why) current w = absurd w

pub on_short : (p : Reading) (current : List ℕ) → InWork p → GoesOn (with_current p current) → (length current < first_byte current) × (length current < 255)
on_short (first b) current w on = (on.1, on.2)
on_short (later c total place b) current w on = (on.1, on.2)
on_short (whole c place) current w on = absurd w
on_short (faulty place why) current w on = absurd w

-- ---- a step

pub step_refused : (old p new : Reading) (current bytes : List ℕ) (count : ℕ) (fault : SetFault) → with_current p current ≡ old → InWork old → GoesOn old → fault_at p (current ++ take count bytes) ≡ Some fault
    → Steps old bytes (Refused fault) new
step_refused old p new current bytes count fault is w on e =
    let work : InWork p = work_of p current (subst InWork (sym is) w) in
    let P : Reading → Type 0 = λ r. GoesOn r in
    inr (ap (reads old) (sym (take-append-drop count bytes)) ∙ reads-append old (take count bytes) (drop count bytes)
    ∙ ap (λ (r : Reading). reads r (drop count bytes)) (ap (λ (r : Reading). reads r (take count bytes)) (sym is) ∙ refuses p current (take count bytes) fault work (subst P (sym is) on) e)
    ∙ reads-faulty fault.at fault.why (drop count bytes))

pub step_cut : (old p : Reading) (current bytes : List ℕ) → with_current p current ≡ old → InWork old → fault_at p (current ++ bytes) ≡ None → length (current ++ bytes) < first_byte (current ++ bytes)
    → Steps old bytes Cut (with_current p (current ++ bytes))
step_cut old p current bytes is w fine short =
    let work : InWork p = work_of p current (subst InWork (sym is) w) in
    (ap (λ (r : Reading). reads r bytes) (sym is) ∙ waits p current bytes work fine short, work_with p (current ++ bytes) work)

pub step_took : (old p new : Reading) (current bytes : List ℕ) (count : ℕ) → with_current p current ≡ old → InWork old → fault_at p (current ++ take count bytes) ≡ None → is_whole (current ++ take count bytes) ≡ true
    → count ≤ length bytes → 0 < count → new ≡ past p (current ++ take count bytes) → IsStart new → Steps old bytes (Took count) (with_current new [])
step_took old p new current bytes count is w fine e within some is_new start =
    let work : InWork p = work_of p current (subst InWork (sym is) w) in
    let long : length (take count bytes) ≡ count = length-take-le count bytes within in
    let now : with_current new [] ≡ past p (current ++ take count bytes) = ap (λ (r : Reading). with_current r []) is_new ∙ past-with p (current ++ take count bytes) in
    let before : taken old ≡ place_of p + length current = ap taken (sym is) ∙ ap (λ n. n + length (current_of (with_current p current))) (place_with p current) ∙ ap (λ (z : List ℕ). place_of p + length z) (current_with p current work) in
    let after : taken (with_current new []) ≡ place_of p + length (current ++ take count bytes) = ap taken now ∙ past-taken p (current ++ take count bytes) work in (
      within,
      some,
      ap (λ (r : Reading). reads r (take count bytes)) (sym is) ∙ takes p current (take count bytes) work fine e (omega (arith, long)) ∙ sym now,
      omega (arith, before, after, length-append current (take count bytes), long),
      start_on new start,
    )

pub wants_here : (old p : Reading) (current bytes : List ℕ) (count : ℕ) (fault : SetFault) → with_current p current ≡ old → InWork old → is_whole (current ++ take count bytes) ≡ true
    → count ≤ length bytes → 0 < count → IsWanting (place_of p) fault → WantsHere old bytes fault
wants_here old p current bytes count fault is w e within some wants =
    let work : InWork p = work_of p current (subst InWork (sym is) w) in
    let here : current_of old ≡ current = ap current_of (sym is) ∙ current_with p current work in
    let place : place_of old ≡ place_of p = ap place_of (sym is) ∙ place_with p current in
    (w, (wants.0 ∙ sym place, wants.1), record { count = count; within = within; some = some; whole = ap (λ (z : List ℕ). is_whole (z ++ take count bytes)) here ∙ e })

-- ---- one more descriptor

pub begun : (old : Reading) (tree : Option Configuration) (total0 place0 : ℕ) (item : List ℕ) (c : Configuration) (total place : ℕ) → partial_of tree total0 place0 ≡ old → tree ≡ None
    → c ≡ configuration_of item → total ≡ total_of item → place ≡ length item → partial_of (Some c) total place ≡ past old item
unfolding goes_on
begun old (Some d) total0 place0 item c total place is none is_c is_total is_place = absurd cc
begun old None total0 place0 item c total place is none is_c is_total is_place =
    ap (λ (x : Configuration). partial_of (Some x) total place) is_c ∙ ap (λ n. partial_of (Some (configuration_of item)) n place) is_total
    ∙ ap (λ n. partial_of (Some (configuration_of item)) (total_of item) n) is_place ∙ ap (λ (r : Reading). past r item) is

-- where a tree is there and the set goes on, it is in a later descriptor
pub in_later : (old : Reading) (tree : Option Configuration) (total place : ℕ) (c : Configuration) → partial_of tree total place ≡ old → InWork old → tree ≡ Some c → old ≡ later c total place []
in_later old None total place c is w some = absurd cc
in_later old (Some d) total place c is w some =
    let same : d ≡ c = cc in
    elim (cases_Bool (eqb place total)) [
      | inl y ↦ absurd (subst InWork (sym is ∙ cond-true (eqb place total) (whole d place) (later d total place []) y) w)
      | inr n ↦ sym is ∙ cond-false (eqb place total) (whole d place) (later d total place []) n ∙ ap (λ (x : Configuration). later x total place []) same
    ]

pub grown : (old : Reading) (tree : Option Configuration) (total place : ℕ) (c new : Configuration) (item : List ℕ) → partial_of tree total place ≡ old → InWork old → tree ≡ Some c
    → new ≡ attach c (record { kind = get_or item 1 0; body = take (length item - 2) (drop 2 item) }) → partial_of (Some new) total (place + length item) ≡ past old item
unfolding goes_on
grown old tree total place c new item is w some is_new =
    let body : take (length item - 2) (drop 2 item) ≡ drop 2 item = take_all (length item - 2) (drop 2 item) (omega (arith, length-drop 2 item)) in
    ap (λ (x : Configuration). partial_of (Some x) total (place + length item)) (is_new ∙ ap (λ (z : List ℕ). attach c (record { kind = get_or item 1 0; body = z })) body)
    ∙ sym (ap (λ (r : Reading). past r item) (in_later old tree total place c is w some))

-- ---- the current descriptor, where it is put together

pub first_is : (current : List ℕ) (d : ℕ) → 0 < length current → get_or current 0 d ≡ first_byte current
first_is [] d some = absurd (omega arith)
first_is (x ∷ current) d some = refl

pub first_stays_first : (current xs : List ℕ) → 0 < length current → first_byte (current ++ xs) ≡ first_byte current
first_stays_first [] xs some = absurd (omega arith)
first_stays_first (x ∷ current) xs some = refl

-- this many bytes as its bLength says
pub whole_now : (current xs : List ℕ) → 0 < length current → length (current ++ xs) ≡ first_byte current → is_whole (current ++ xs) ≡ true
whole_now [] xs some e = absurd (omega arith)
whole_now (x ∷ current) xs some e = eq-eqb (length (current ++ xs) + 1) x (omega arith)

-- a prefix of some bytes, at its length
pub front_taken : (front rest : List ℕ) → take (length front) (front ++ rest) ≡ front
front_taken [] rest = refl
front_taken (x ∷ front) rest = ap (λ (z : List ℕ). x ∷ z) (front_taken front rest)

pub fault_front : (p : Reading) (a b : List ℕ) → fault_at p (a ++ b) ≡ None → fault_at p a ≡ None
fault_front (first c) a b e = ap header_at (header_fault-front a b (no_header _ e))
fault_front (later c total place d) a b e = ap (item_at place) (item_fault-front (total - place) (has_setting c) a b (no_item place _ e))
fault_front (whole c place) a b e = refl
fault_front (faulty place why) a b e = refl

-- where the bytes end first, all of them are taken
pub takes_all : (current bytes : List ℕ) (len count : ℕ) → count ≡ min (len - length current) (length bytes) → length (current ++ take count bytes) < len → take count bytes ≡ bytes
takes_all current bytes len count is short =
    let within : count ≤ length bytes = omega arith in
    take_all count bytes (omega (arith, length-append current (take count bytes), length-take-le count bytes within))

-- where the descriptor ends, it is whole
pub ends_here : (current bytes : List ℕ) (len count : ℕ) → count ≡ min (len - length current) (length bytes) → len ≡ first_byte current → 0 < length current → length current < first_byte current → (length (current ++ take count bytes) < len → ⊥)
    → (is_whole (current ++ take count bytes) ≡ true) × (count ≤ length bytes) × (0 < count)
ends_here current bytes len count is is_len some short long =
    let within : count ≤ length bytes = omega arith in
    let all : length (current ++ take count bytes) ≡ length current + count = omega (arith, length-append current (take count bytes), length-take-le count bytes within) in
    let full : length (current ++ take count bytes) ≡ first_byte current = elim (cases_lt (length (current ++ take count bytes)) len) [ inl lt ↦ absurd (long lt) | inr le ↦ omega arith ] in
    (whole_now current (take count bytes) some full, within, omega arith)

pub begun_start : (old : Reading) (tree : Option Configuration) (total0 place0 : ℕ) (item : List ℕ) (c : Configuration) (total place : ℕ) → partial_of tree total0 place0 ≡ old → tree ≡ None → fault_at old item ≡ None
    → is_whole item ≡ true → total ≡ total_of item → total ≤ 65535 → place ≡ length item → IsStart (partial_of (Some c) total place)
begun_start old (Some d) total0 place0 item c total place is none fine e is_total bound is_place = absurd cc
begun_start old None total0 place0 item c total place is none fine e is_total bound is_place =
    let shown : header_fault item ≡ None = no_header _ (ap (λ (r : Reading). fault_at r item) is ∙ fine) in
    let within : place ≤ total = omega (arith, header_within item shown (omega (arith, header_long item shown e)), whole_length item e) in
    let P : Reading → Type 0 = λ r. IsStart r in
    elim (cases_Bool (eqb place total)) [
      | inl y ↦ subst P (sym (cond-true (eqb place total) (whole c place) (later c total place []) y)) (omega arith)
      | inr n ↦ subst P (sym (cond-false (eqb place total) (whole c place) (later c total place []) n)) (refl, omega (arith, eqb-false place total n), bound)
    ]

-- what is neither read to its end nor faulty is current
pub not_done : (r : Reading) → GoesOn r → is_done r ≡ false → InWork r
not_done (first b) on e = tt
not_done (later c total place b) on e = tt
not_done (whole c place) on e = absurd cc
not_done (faulty place why) on e = on

-- ---- a growth that went, and one that was refused

pub on_ok : {A E : Type 0} (r : Result A E) (P : Type 0) → is_err r ≡ false → OnOk r P → P
on_ok (Ok x) P e h = h
on_ok (Err x) P e h = absurd cc

on_err : {A E : Type 0} (r : Result A E) (P : Type 0) → is_err r ≡ true → OnErr r P → P
on_err (Ok x) P e h = absurd cc
on_err (Err x) P e h = h

-- the place is still that of the descriptor
pub wanting_still : {A E : Type 0} (p new : Reading) (r : Result A E) (fault : SetFault) → is_err r ≡ true → OnErr r (place_of new ≡ place_of p) → IsWanting (place_of new) fault → IsWanting (place_of p) fault
wanting_still p new r fault e h w = (w.0 ∙ on_err r (place_of new ≡ place_of p) e h, w.1)

-- ---- no fault lies after the first four bytes

pub settled_append : (p : Reading) (a b : List ℕ) → 4 ≤ length a → fault_at p a ≡ None → fault_at p (a ++ b) ≡ None
settled_append (first c) a b n e = ap header_at (header_settled a b (no_header _ e) n)
settled_append (later c total place d) [] b n e = absurd (omega arith)
settled_append (later c total place d) (x ∷ []) b n e = absurd (omega arith)
settled_append (later c total place d) (x ∷ y ∷ a) b n e = e
settled_append (whole c place) a b n e = refl
settled_append (faulty place why) a b n e = refl

pub settled : (p : Reading) (b : List ℕ) (n : ℕ) → 4 ≤ n → n ≤ length b → fault_at p (take n b) ≡ None → fault_at p b ≡ None
settled p b n four within e =
    sym (ap (fault_at p) (take-append-drop n b)) ∙ settled_append p (take n b) (drop n b) (omega (arith, length-take-le n b within)) e

pub on_fine : (p : Reading) (current : List ℕ) → InWork p → GoesOn (with_current p current) → fault_at p current ≡ None
on_fine (first b) current w on = ap header_at on.0
on_fine (later c total place b) current w on = ap (item_at place) on.0
on_fine (whole c place) current w on = absurd w
on_fine (faulty place why) current w on = absurd w
