-- What stands first among bytes.
use Rattle.std.proofs.Common.{◌≡◌, ℕ, suc, ◌+◌, ◌<◌, ◌≤◌, true, false, List, [], ◌∷◌, length, take, drop, Option, Some, None, refl, sym, ap, subst, ◌∙◌, arith, length-drop, inl, inr, ◌⊎◌}
use Rattle.std.specs.Prelude.{IfSome, IfNone}
use Rattle.std.proofs.Math.Seq.{drop-cons}
use Rattle.std.proofs.lemmas.Bool.{cases_Bool, cases_eq, cond-true, cond-false}
use Rattle.std.proofs.lemmas.List.{drop-drop, drop_all, take-append-drop}
use Rattle.usb_fields.specs.Bytes.{AreBytes}
use Rattle.usb_set.proofs.ByteByByte.{option_cases, some_none}
use Rattle.usb_set.proofs.Sound.{bytes-parts}
use Rattle.usb_find.specs.declared.search.Found.{Found}
use Rattle.usb_find.specs.Found.{BeginsSet, IsBare, IsDevice, IsFirst, IsSet, begins_device}
use Rattle.usb_find.specs.inside.Seeking.{first_standing, or_later, set_at, set_length, standing}
use Rattle.usb_find.proofs.Seeking.{begins_set, set_begins}

-- ---- as the code goes over the places

one_place : (b : List ℕ) (place : ℕ) → place < length b → first_standing place (drop place b) ≡ or_later (standing place (drop place b)) (first_standing (place + 1) (drop (place + 1) b))
unfolding first_standing
one_place b place below =
    let here = drop-cons b place 0 below in
    let next : suc place ≡ place + 1 = omega arith in
    ap (first_standing place) here ∙ ap (λ (z : List ℕ). or_later (standing place z) (first_standing (place + 1) (drop (suc place) b))) (sym here)
    ∙ ap (λ n. or_later (standing place (drop place b)) (first_standing (place + 1) (drop n b))) next

pub stands_here : (b : List ℕ) (place : ℕ) (f : Found) → place < length b → standing place (drop place b) ≡ Some f → first_standing place (drop place b) ≡ Some f
stands_here b place f below e = one_place b place below ∙ ap (λ (o : Option Found). or_later o (first_standing (place + 1) (drop (place + 1) b))) e

pub stands_later : (b : List ℕ) (place : ℕ) → place < length b → standing place (drop place b) ≡ None → first_standing place (drop place b) ≡ first_standing (place + 1) (drop (place + 1) b)
stands_later b place below e = one_place b place below ∙ ap (λ (o : Option Found). or_later o (first_standing (place + 1) (drop (place + 1) b))) e

pub stands_nowhere : (b : List ℕ) (place : ℕ) → length b ≤ place → first_standing place (drop place b) ≡ None
unfolding first_standing
stands_nowhere b place past = ap (first_standing place) (drop_all place b past)

-- ---- what that says

pub bytes_from : (b : List ℕ) (place : ℕ) → AreBytes b → AreBytes (drop place b)
bytes_from b place fits = (bytes-parts (take place b) (drop place b) (subst AreBytes (sym (take-append-drop place b)) fits)).1

no_set_at : (place : ℕ) (o : Option ℕ) → set_at place o ≡ None → o ≡ None
no_set_at place None e = refl
no_set_at place (Some n) e = absurd cc

bare_place : (b : List ℕ) (place : ℕ) → standing place (drop place b) ≡ None → IsBare b place
bare_place b place e =
    elim (cases_Bool (begins_device (drop place b))) [
      | inl y ↦ absurd (some_none _ (sym (cond-true (begins_device (drop place b)) _ _ y) ∙ e))
      | inr t ↦
          let none = no_set_at place (set_length (drop place b)) (sym (cond-false (begins_device (drop place b)) _ _ t) ∙ e) in
          record { no_set = λ n h. some_none n (sym (begins_set (drop place b) n h) ∙ none); no_device = t }
    ]

record Stands (b : List ℕ) (at : ℕ) (f : Found) : Type 0 where
  place : f.place ≡ at
  stands : IsSet b f ⊎ IsDevice b f

set_stands : (b : List ℕ) (place : ℕ) (f : Found) (o : Option ℕ) → AreBytes b → set_length (drop place b) ≡ o → set_at place o ≡ Some f → Stands b place f
set_stands b place f None fits is e = absurd cc
set_stands b place f (Some n) fits is e =
    let found : Found = record { place = place; length = n; next = place + n; kind = 1 } in
    let same : record { place = place; length = n; next = place + n; kind = 1 } ≡ f = cc e in
    subst (Stands b place) same (record { place = refl; stands = inl (record { kind = refl; begins = set_begins (drop place b) n (bytes_from b place fits) is; next = refl }) })

stands_at : (b : List ℕ) (place : ℕ) (f : Found) → AreBytes b → standing place (drop place b) ≡ Some f → Stands b place f
stands_at b place f fits e =
    elim (cases_Bool (begins_device (drop place b))) [
      | inl y ↦
          let found : Found = record { place = place; length = 18; next = place + 1; kind = 4 } in
          let is : Some found ≡ Some f = sym (cond-true (begins_device (drop place b)) _ _ y) ∙ e in
          let same : found ≡ f = cc is in
          subst (Stands b place) same (record { place = refl; stands = inr (record { kind = refl; begins = y; length = refl; next = refl }) })
      | inr t ↦ set_stands b place f (set_length (drop place b)) fits refl (sym (cond-false (begins_device (drop place b)) _ _ t) ∙ e)
    ]

-- behind the bytes nothing stands
bare_end : (b : List ℕ) (p : ℕ) → length b ≤ p → IsBare b p
bare_end b p past =
    let none = drop_all p b past in
    let P : List ℕ → Type 0 = λ z. ((n : ℕ) → BeginsSet z n → ⊥) × (begins_device z ≡ false) in
    let bare = subst P (sym none) ((λ n h. let no = h.first in cc), refl) in
    record { no_set = bare.0; no_device = bare.1 }

next_rest : (b : List ℕ) (place x : ℕ) (rest : List ℕ) → x ∷ rest ≡ drop place b → rest ≡ drop (place + 1) b
next_rest b place x rest e = ap (drop 1) e ∙ drop-drop 1 place b

pub none_from : (b rest : List ℕ) (place : ℕ) → rest ≡ drop place b → length b ≤ place + length rest → first_standing place rest ≡ None → (p : ℕ) → place ≤ p → IsBare b p
unfolding first_standing
none_from b [] place is all e p le = bare_end b p (omega (arith, all, le))
none_from b (x ∷ rest) place is all e p le =
    elim (option_cases (standing place (x ∷ rest))) [
      | inl none ↦ elim (cases_eq place p) [
        | inl same ↦ subst (IsBare b) same (bare_place b place (ap (standing place) (sym is) ∙ none))
        | inr other ↦ none_from b rest (place + 1) (next_rest b place x rest is) (omega (arith, all)) (sym (ap (λ (o : Option Found). or_later o (first_standing (place + 1) rest)) none) ∙ e) p (omega (arith, le, other))
      ]
      | inr some ↦ absurd (some_none some.0 (sym (ap (λ (o : Option Found). or_later o (first_standing (place + 1) rest)) some.1) ∙ e))
    ]

at_or_after : (b : List ℕ) (f : Found) (place p : ℕ) → IsBare b place → ((q : ℕ) → place + 1 ≤ q → q < f.place → IsBare b q) → place ≤ p → p < f.place → IsBare b p
at_or_after b f place p bare h le below =
    elim (cases_eq place p) [
      | inl same ↦ subst (IsBare b) same bare
      | inr other ↦ h p (omega (arith, le, other)) below
    ]

first_from : (b rest : List ℕ) (place : ℕ) (f : Found) → AreBytes b → rest ≡ drop place b → first_standing place rest ≡ Some f → IsFirst b place f
unfolding first_standing
first_from b [] place f fits is e = absurd cc
first_from b (x ∷ rest) place f fits is e =
    elim (option_cases (standing place (x ∷ rest))) [
      | inl none ↦
          let bare = bare_place b place (ap (standing place) (sym is) ∙ none) in
          let h = first_from b rest (place + 1) f fits (next_rest b place x rest is) (sym (ap (λ (o : Option Found). or_later o (first_standing (place + 1) rest)) none) ∙ e) in
          record { least = omega (arith, h.least); stands = h.stands; bare = λ p le below. at_or_after b f place p bare h.bare le below }
      | inr some ↦
          let same : some.0 ≡ f = cc (sym (ap (λ (o : Option Found). or_later o (first_standing (place + 1) rest)) some.1) ∙ e) in
          let h = stands_at b place f fits (ap (standing place) (sym is) ∙ some.1 ∙ ap (λ (z : Found). Some z) same) in
          record { least = omega (arith, h.place); stands = h.stands; bare = λ p le below. absurd (omega (arith, h.place, le, below)) }
    ]

pub found_none : (b : List ℕ) (start : ℕ) → first_standing start (drop start b) ≡ None → (p : ℕ) → start ≤ p → IsBare b p
found_none b start e = none_from b (drop start b) start refl (omega (arith, length-drop start b)) e

pub found_first : (b : List ℕ) (start : ℕ) (f : Found) → AreBytes b → first_standing start (drop start b) ≡ Some f → IsFirst b start f
found_first b start f fits e = first_from b (drop start b) start f fits refl e

-- ---- what stands at a place

pub is_device : (b : List ℕ) (place : ℕ) → begins_device (drop place b) ≡ true → Some (record { place = place; length = 18; next = place + 1; kind = 4 }) ≡ standing place (drop place b)
is_device b place e = sym (cond-true (begins_device (drop place b)) _ _ e)

pub is_set : (b : List ℕ) (place n : ℕ) → begins_device (drop place b) ≡ false → set_length (drop place b) ≡ Some n → Some (record { place = place; length = n; next = place + n; kind = 1 }) ≡ standing place (drop place b)
is_set b place n e s = sym (cond-false (begins_device (drop place b)) _ _ e ∙ ap (set_at place) s)

pub is_none : (b : List ℕ) (place : ℕ) → begins_device (drop place b) ≡ false → set_length (drop place b) ≡ None → ◌≡◌ {A = Option Found} None (standing place (drop place b))
is_none b place e s = sym (cond-false (begins_device (drop place b)) _ _ e ∙ ap (set_at place) s)

-- ---- what is found first

pub some_first : (b : List ℕ) (start : ℕ) (o : Option Found) → AreBytes b → o ≡ first_standing start (drop start b) → IfSome o (λ f. IsFirst b start f)
some_first b start None fits e = tt
some_first b start (Some f) fits e = found_first b start f fits (sym e)

pub none_first : (b : List ℕ) (start : ℕ) (o : Option Found) → AreBytes b → o ≡ first_standing start (drop start b) → IfNone o ((p : ℕ) → start ≤ p → IsBare b p)
none_first b start None fits e = found_none b start (sym e)
none_first b start (Some f) fits e = tt
