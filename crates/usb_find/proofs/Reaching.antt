-- How descriptors lead to a place.
use Rattle.std.proofs.Common.{◌≡◌, ℕ, ◌+◌, ◌-◌, ◌<◌, ◌≤◌, Bool, true, false, eqb, leb, not, ◌&&◌, ◌||◌, List, [], ◌∷◌, length, take, drop, slice_index, Option, Some, None, refl, sym, ap, ◌∙◌, length-drop, arith, inl, inr}
use Rattle.std.proofs.lemmas.Bool.{eq-eqb, leb-true, le-leb, lt-leb, ne_eqb, cases_Bool, cases_lt, cases_eq, cond-true, cond-false, and_parts}
use Rattle.std.proofs.lemmas.List.{drop-drop, drop-take, get_or-take, get_or-drop, length-take-le}
use Rattle.usb_set.specs.Faults.{is_set_type, least_length}
use Rattle.usb_find.specs.declared.walk.Spot.{Spot}
use Rattle.usb_find.specs.inside.Seeking.{are_items, is_item}
use Rattle.usb_find.specs.inside.Walks.{may_follow, next_spot, reaches}
use Rattle.usb_find.proofs.Seeking.{least_two, none_left, over_one, refused}

-- not beyond the place
pub beyond : (b : List ℕ) (s : Spot) (t : ℕ) → t < s.place → reaches b s t ≡ false
unfolding reaches
beyond b s t past = ap (λ (v : Bool). v && (leb t (length b) && are_items 0 s.in_setting (take (t - s.place) (drop s.place b)))) (lt-leb s.place t past)

never : (v : Bool) → (v && false) ≡ false
never true = refl
never false = refl

-- not out of the bytes
outside : (b : List ℕ) (s : Spot) (t : ℕ) → length b < t → reaches b s t ≡ false
unfolding reaches
outside b s t past = ap (λ (v : Bool). leb s.place t && (v && are_items 0 s.in_setting (take (t - s.place) (drop s.place b)))) (lt-leb t (length b) past) ∙ never (leb s.place t)

-- within the bytes
pub within : (b : List ℕ) (s : Spot) (t : ℕ) → s.place ≤ t → t ≤ length b → reaches b s t ≡ are_items 0 s.in_setting (take (t - s.place) (drop s.place b))
unfolding reaches
within b s t le all =
    ap (λ (v : Bool). v && (leb t (length b) && are_items 0 s.in_setting (take (t - s.place) (drop s.place b)))) (le-leb s.place t le)
    ∙ ap (λ (v : Bool). v && are_items 0 s.in_setting (take (t - s.place) (drop s.place b))) (le-leb t (length b) all)

pub here : (b : List ℕ) (s : Spot) (t : ℕ) → s.place ≡ t → t ≤ length b → reaches b s t ≡ true
here b s t same all =
    within b s t (omega (arith, same)) all
    ∙ none_left s.in_setting (take (t - s.place) (drop s.place b)) (length-take-le (t - s.place) (drop s.place b) (omega (arith, same)) ∙ omega (arith, same))

-- what is tested of a descriptor
tests : (s : Bool) (c : List ℕ) → 2 ≤ length c → is_item s c ≡ (leb (least_length (slice_index c 1)) (slice_index c 0) && (leb (slice_index c 0) (length c) && (not (is_set_type (slice_index c 1)) && (s || not (eqb (slice_index c 1) 5)))))
tests s [] n = absurd (omega arith)
tests s (x ∷ []) n = absurd (omega arith)
tests s (x ∷ y ∷ c) n = ap (λ z. leb (least_length y) x && (leb x z && (not (is_set_type y) && (s || not (eqb y 5))))) (omega arith)

no_room : (s : Bool) (c : List ℕ) → 0 < length c → length c < slice_index c 0 → is_item s c ≡ false
no_room s [] n m = absurd (omega arith)
no_room s (x ∷ []) n m = refl
no_room s (x ∷ y ∷ c) n m = ap (λ (v : Bool). leb (least_length y) x && (v && (not (is_set_type y) && (s || not (eqb y 5))))) (lt-leb x (2 + length c) (omega (arith, m))) ∙ never (leb (least_length y) x)

with_room : (v w x : Bool) → w ≡ true → (v && (w && x)) ≡ (v && x)
with_room v w x e = ap (λ (z : Bool). v && (z && x)) e

without : (v w x : Bool) → (v && x) ≡ false → (v && (w && x)) ≡ false
without true true x e = e
without true false x e = refl
without false w x e = refl

-- the bytes up to a place, from a spot on
first_byte : (b : List ℕ) (p t : ℕ) → p < t → slice_index (take (t - p) (drop p b)) 0 ≡ slice_index b p
first_byte b p t below = get_or-take (t - p) (drop p b) 0 0 (omega (arith, below)) ∙ get_or-drop p b 0 0 ∙ ap (slice_index b) (omega arith)

second_byte : (b : List ℕ) (p t : ℕ) → p + 1 < t → slice_index (take (t - p) (drop p b)) 1 ≡ slice_index b (p + 1)
second_byte b p t below = get_or-take (t - p) (drop p b) 1 0 (omega (arith, below)) ∙ get_or-drop p b 1 0

as_long : (b : List ℕ) (p t : ℕ) → p ≤ t → t ≤ length b → length (take (t - p) (drop p b)) ≡ t - p
as_long b p t le all = length-take-le (t - p) (drop p b) (omega (arith, length-drop p b, le, all))

passed : (b : List ℕ) (p len t : ℕ) → p + len ≤ t → drop len (take (t - p) (drop p b)) ≡ take (t - (p + len)) (drop (p + len) b)
passed b p len t le =
    let parts : t - p ≡ len + (t - (p + len)) = omega (arith, le) in
    ap (λ n. drop len (take n (drop p b))) parts ∙ drop-take len (t - (p + len)) (drop p b) ∙ ap (take (t - (p + len))) (drop-drop len p b)

some_none : {A : Type 0} (x : A) → ◌≡◌ {A = Option A} (Some x) None → ⊥
some_none x e = cc

record Follows (b : List ℕ) (s x : Spot) : Type 0 where
  may : may_follow s.in_setting (slice_index b s.place) (slice_index b (s.place + 1)) ≡ true
  next : x ≡ record { place = s.place + slice_index b s.place; in_setting = s.in_setting || eqb (slice_index b (s.place + 1)) 4 }

follows : (b : List ℕ) (s x : Spot) → next_spot b s ≡ Some x → Follows b s x
follows b s x e =
    elim (cases_Bool (may_follow s.in_setting (slice_index b s.place) (slice_index b (s.place + 1)))) [
      | inl y ↦ record { may = y; next = sym (cc (sym (cond-true _ _ _ y) ∙ e)) }
      | inr t ↦ absurd (some_none x (sym e ∙ cond-false _ _ _ t))
    ]

may_not : (b : List ℕ) (s : Spot) → next_spot b s ≡ None → may_follow s.in_setting (slice_index b s.place) (slice_index b (s.place + 1)) ≡ false
may_not b s e =
    elim (cases_Bool (may_follow s.in_setting (slice_index b s.place) (slice_index b (s.place + 1)))) [
      | inl y ↦ absurd (some_none _ (sym (cond-true _ _ _ y) ∙ e))
      | inr t ↦ t
    ]

-- the next one lies past the place, or is of a type that a set has not there
fitting : (b : List ℕ) (s : Spot) (t : ℕ) → s.place + slice_index b s.place ≤ t → t ≤ length b → may_follow s.in_setting (slice_index b s.place) (slice_index b (s.place + 1)) ≡ true
    → are_items 0 s.in_setting (take (t - s.place) (drop s.place b)) ≡ are_items 0 (s.in_setting || eqb (slice_index b (s.place + 1)) 4) (take (t - (s.place + slice_index b s.place)) (drop (s.place + slice_index b s.place) b))
fitting b s t le all may =
    let c : List ℕ = take (t - s.place) (drop s.place b) in
    let least : least_length (slice_index b (s.place + 1)) ≤ slice_index b s.place = leb-true _ _ (and_parts (leb (least_length (slice_index b (s.place + 1))) (slice_index b s.place)) _ may).0 in
    let two : 2 ≤ slice_index b s.place = omega (arith, least, least_two (slice_index b (s.place + 1))) in
    let count : length (take (t - s.place) (drop s.place b)) ≡ t - s.place = as_long b s.place t (omega (arith, le)) all in
    let one : slice_index (take (t - s.place) (drop s.place b)) 0 ≡ slice_index b s.place = first_byte b s.place t (omega (arith, le, two)) in
    let kind : slice_index (take (t - s.place) (drop s.place b)) 1 ≡ slice_index b (s.place + 1) = second_byte b s.place t (omega (arith, le, two)) in
    let room : leb (slice_index b s.place) (t - s.place) ≡ true = le-leb _ _ (omega (arith, le)) in
    let item : is_item s.in_setting (take (t - s.place) (drop s.place b)) ≡ true =
    tests s.in_setting (take (t - s.place) (drop s.place b)) (omega (arith, count, le, two))
    ∙ ap (λ z. leb (least_length (slice_index (take (t - s.place) (drop s.place b)) 1)) (slice_index (take (t - s.place) (drop s.place b)) 0) && (leb (slice_index (take (t - s.place) (drop s.place b)) 0) z && (not (is_set_type (slice_index (take (t - s.place) (drop s.place b)) 1)) && (s.in_setting || not (eqb (slice_index (take (t - s.place) (drop s.place b)) 1) 5))))) count
    ∙ ap (λ z. leb (least_length z) (slice_index (take (t - s.place) (drop s.place b)) 0) && (leb (slice_index (take (t - s.place) (drop s.place b)) 0) (t - s.place) && (not (is_set_type z) && (s.in_setting || not (eqb z 5))))) kind
    ∙ ap (λ z. leb (least_length (slice_index b (s.place + 1))) z && (leb z (t - s.place) && (not (is_set_type (slice_index b (s.place + 1))) && (s.in_setting || not (eqb (slice_index b (s.place + 1)) 5))))) one
    ∙ with_room _ _ _ room ∙ may in
    over_one s.in_setting (take (t - s.place) (drop s.place b)) (omega (arith, count, le, two)) item
    ∙ ap (λ z. are_items 0 (s.in_setting || eqb z 4) (drop (slice_index (take (t - s.place) (drop s.place b)) 0) (take (t - s.place) (drop s.place b)))) kind
    ∙ ap (λ z. are_items 0 (s.in_setting || eqb (slice_index b (s.place + 1)) 4) (drop z (take (t - s.place) (drop s.place b)))) one
    ∙ ap (are_items 0 (s.in_setting || eqb (slice_index b (s.place + 1)) 4)) (passed b s.place (slice_index b s.place) t le)

too_long : (b : List ℕ) (s : Spot) (t : ℕ) → s.place < t → t < s.place + slice_index b s.place → t ≤ length b → are_items 0 s.in_setting (take (t - s.place) (drop s.place b)) ≡ false
too_long b s t below past all =
    let count : length (take (t - s.place) (drop s.place b)) ≡ t - s.place = as_long b s.place t (omega (arith, below)) all in
    let one : slice_index (take (t - s.place) (drop s.place b)) 0 ≡ slice_index b s.place = first_byte b s.place t below in
    refused s.in_setting (take (t - s.place) (drop s.place b)) (omega (arith, count, below)) (no_room s.in_setting (take (t - s.place) (drop s.place b)) (omega (arith, count, below)) (omega (arith, count, one, past)))

follow : (b : List ℕ) (s : Spot) (t : ℕ) → s.place < t → may_follow s.in_setting (slice_index b s.place) (slice_index b (s.place + 1)) ≡ true
    → reaches b s t ≡ reaches b (record { place = s.place + slice_index b s.place; in_setting = s.in_setting || eqb (slice_index b (s.place + 1)) 4 }) t
follow b s t below may =
    elim (cases_lt (length b) t) [
      | inl out ↦ outside b s t out ∙ sym (outside b (record { place = s.place + slice_index b s.place; in_setting = s.in_setting || eqb (slice_index b (s.place + 1)) 4 }) t out)
      | inr all ↦ elim (cases_lt t (s.place + slice_index b s.place)) [
        | inl past ↦
            within b s t (omega (arith, below)) all ∙ too_long b s t below past all
            ∙ sym (beyond b (record { place = s.place + slice_index b s.place; in_setting = s.in_setting || eqb (slice_index b (s.place + 1)) 4 }) t past)
        | inr le ↦
            within b s t (omega (arith, below)) all ∙ fitting b s t le all may
            ∙ sym (within b (record { place = s.place + slice_index b s.place; in_setting = s.in_setting || eqb (slice_index b (s.place + 1)) 4 }) t le all)
      ]
    ]

pub onward : (b : List ℕ) (s x : Spot) (t : ℕ) → s.place < t → next_spot b s ≡ Some x → reaches b s t ≡ reaches b x t
onward b s x t below e =
    let f = follows b s x e in
    follow b s t below f.may ∙ ap (λ (z : Spot). reaches b z t) (sym f.next)

pub ahead : (b : List ℕ) (s x : Spot) → next_spot b s ≡ Some x → s.place + 2 ≤ x.place
ahead b s x e =
    let f = follows b s x e in
    let least = leb-true _ _ (and_parts (leb (least_length (slice_index b (s.place + 1))) (slice_index b s.place)) _ f.may).0 in
    omega (arith, ap (λ (z : Spot). z.place) f.next, least, least_two (slice_index b (s.place + 1)))

one_left : (s : Bool) (c : List ℕ) → length c ≡ 1 → is_item s c ≡ false
one_left s [] n = absurd (omega (arith, n))
one_left s (x ∷ []) n = refl
one_left s (x ∷ y ∷ c) n = absurd (omega (arith, n))

no_follower : (b : List ℕ) (s : Spot) (t : ℕ) → s.place < t → t ≤ length b → may_follow s.in_setting (slice_index b s.place) (slice_index b (s.place + 1)) ≡ false → is_item s.in_setting (take (t - s.place) (drop s.place b)) ≡ false
no_follower b s t below all not_may =
    let count : length (take (t - s.place) (drop s.place b)) ≡ t - s.place = as_long b s.place t (omega (arith, below)) all in
    elim (cases_lt (s.place + 1) t) [
      | inl two ↦
          let one : slice_index (take (t - s.place) (drop s.place b)) 0 ≡ slice_index b s.place = first_byte b s.place t below in
          let kind : slice_index (take (t - s.place) (drop s.place b)) 1 ≡ slice_index b (s.place + 1) = second_byte b s.place t two in
          tests s.in_setting (take (t - s.place) (drop s.place b)) (omega (arith, count, two))
          ∙ without (leb (least_length (slice_index (take (t - s.place) (drop s.place b)) 1)) (slice_index (take (t - s.place) (drop s.place b)) 0)) _ _
          (ap (λ z. may_follow s.in_setting z (slice_index (take (t - s.place) (drop s.place b)) 1)) one ∙ ap (λ z. may_follow s.in_setting (slice_index b s.place) z) kind ∙ not_may)
      | inr last ↦ one_left s.in_setting (take (t - s.place) (drop s.place b)) (omega (arith, count, below, last))
    ]

pub stuck : (b : List ℕ) (s : Spot) (t : ℕ) → s.place < t → next_spot b s ≡ None → reaches b s t ≡ false
stuck b s t below e =
    elim (cases_lt (length b) t) [
      | inl out ↦ outside b s t out
      | inr all ↦
          let count : length (take (t - s.place) (drop s.place b)) ≡ t - s.place = as_long b s.place t (omega (arith, below)) all in
          within b s t (omega (arith, below)) all ∙ refused s.in_setting (take (t - s.place) (drop s.place b)) (omega (arith, count, below)) (no_follower b s t below all (may_not b s e))
    ]

-- what the code finds at the place or past it
pub arrives : (b : List ℕ) (s : Spot) (t : ℕ) → t ≤ s.place → t ≤ length b → eqb s.place t ≡ reaches b s t
arrives b s t past all =
    elim (cases_eq s.place t) [
      | inl same ↦ eq-eqb s.place t same ∙ sym (here b s t same all)
      | inr other ↦ ne_eqb s.place t other ∙ sym (beyond b s t (omega (arith, past, other)))
    ]
