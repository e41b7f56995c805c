-- The walk over descriptors as numbers, by their positions.
use Rattle.std.proofs.Common.{◌≡◌, ◌≤◌, inl, inr, ℕ, List, ◌∷◌, length, drop, Option, Some, None, unwrap_or, Bool, true, false, nat_le, refl, sym, ap, subst, ◌∙◌, arith, length-drop}
use Rattle.std.specs.Option.{option_map}
use Rattle.std.proofs.lemmas.Bool.{and_parts, cond-false, cond-true, le-leb}
use Rattle.std.proofs.lemmas.Bool.Decides.{nat_tests}
use Rattle.std.proofs.lemmas.Option.{none-some}
use Rattle.usb_walk.specs.declared.position.Position.{Position}
use Rattle.usb_walk.specs.declared.role.Role.{Role}
use Rattle.usb_walk.specs.declared.walked_descriptor.WalkedDescriptor.{WalkedDescriptor}
use Rattle.usb_walk.specs.Numbered.{next_position, numbered_next}
use Rattle.usb_walk.specs.Positions.{Counted, first_position}
use Rattle.usb_walk.specs.WalkedDescriptors.{AllGoOn, GoesOn, all_as_numbers, as_numbers, first_walked, is_counted, next_as_numbers, next_of, nothing, walked}
use Rattle.usb_walk.proofs.Positions.{counted_at, counted_noted}
use Rattle.usb_fields.proofs.Unfolded.{unfolded_more, unfolded_none}
use Rattle.usb_walk.proofs.WalkSteps.{Behind, Continues, Ends, behind_is, by_steps, coming, numbered, numbered_at, step_of}

-- ---- counts

-- the tests of a count are those of a record
le_of : (a b : ℕ) → nat_le a b ≡ true → a ≤ b
le_of a b e = grind (arith, nat_tests)

pub counted_of : (p : Position) → is_counted p ≡ true → Counted p
unfolding is_counted
counted_of p e =
    let at = p.at in
    let one = and_parts (nat_le p.strings at) _ e in
    let two = and_parts (nat_le p.main_sets at) _ one.1 in
    let three = and_parts (nat_le p.other_sets at) _ two.1 in
    let four = and_parts (nat_le p.associations at) _ three.1 in
    let five = and_parts (nat_le p.settings at) (nat_le p.endpoints at) four.1 in
    record {
      strings = le_of p.strings at one.0;
      main_sets = le_of p.main_sets at two.0;
      other_sets = le_of p.other_sets at three.0;
      associations = le_of p.associations at four.0;
      settings = le_of p.settings at five.0;
      endpoints = le_of p.endpoints at five.1;
    }

counted_holds : (p : Position) → Counted p → is_counted p ≡ true
unfolding is_counted
counted_holds p c =
    rw (le-leb _ _ c.strings, le-leb _ _ c.main_sets, le-leb _ _ c.other_sets, le-leb _ _ c.associations, le-leb _ _ c.settings, le-leb _ _ c.endpoints) refl

-- ---- the walk goes over the descriptors by their positions

-- the next descriptor, where one stands at the position
next_is : (b : List ℕ) (was : WalkedDescriptor) (o : Option (Role × ℕ)) → is_counted was.position ≡ true → coming b was.position ≡ o
    → next_of b was ≡ option_map (λ next. as_numbers b was (numbered_next was.position (drop was.position.at b) next)) o
unfolding next_of
next_is b was o c is =
    cond-true (is_counted was.position) (next_as_numbers b was) None c
    ∙ ap (λ o. option_map (λ next. as_numbers b was (numbered_next was.position (drop was.position.at b) next)) o) is

none_uncounted : (b : List ℕ) (was : WalkedDescriptor) → is_counted was.position ≡ false → next_of b was ≡ None
unfolding next_of
none_uncounted b was c = cond-false (is_counted was.position) (next_as_numbers b was) None c

-- the walk gives these descriptors
abbrev WalksAlong : List ℕ → Behind
WalksAlong b n was ns = Counted was.position → first_walked n b was ≡ all_as_numbers b was ns

ends : (b : List ℕ) → Ends b (WalksAlong b)
ends b n was (inl e) c = unfolded_none (next_of b) (λ was d. (d, d)) n was (inl e)
ends b n was (inr e) c = unfolded_none (next_of b) (λ was d. (d, d)) n was (inr (next_is b was None (counted_holds was.position c) e))

one_more : (b : List ℕ) → Continues b (WalksAlong b)
one_more b n was next ns step later c =
    let p = was.position in
    let m = numbered_at b p next in
    let d = as_numbers b was m in
    let counted : Counted (next_position m) = counted_noted next.0 m.bytes (length m.bytes) m.position (omega (arith, step.taken, step.least)) (counted_at next.0 (drop p.at b) p c) in
    unfolded_more (next_of b) (λ was d. (d, d)) n was d (next_is b was (Some next) (counted_holds p c) step.is) ∙ ap (λ l. d ∷ l) (later (subst Counted (sym (behind_is b was m)) counted))

counted_first : Counted first_position
counted_first = record { strings = omega arith; main_sets = omega arith; other_sets = omega arith; associations = omega arith; settings = omega arith; endpoints = omega arith }

pub walk_by_positions : (b : List ℕ) → walked b ≡ all_as_numbers b nothing (numbered b)
walk_by_positions b = by_steps b (WalksAlong b) (ends b) (one_more b) counted_first

-- ---- each step goes on

goes_on : (b : List ℕ) (was : WalkedDescriptor) (next : Role × ℕ) → coming b was.position ≡ Some next
    → GoesOn b was (as_numbers b was (numbered_at b was.position next))
unfolding as_numbers
goes_on b was next is =
    let step = step_of was.position (drop was.position.at b) next is in
    record {
      place = step.place;
      least = omega (arith, step.first, step.least);
      most = omega (arith, step.first, step.place, length-drop was.position.at b, step.least, step.most);
      next = omega (arith, step.at, step.place, step.first);
    }

some_is : (x y : WalkedDescriptor) → ◌≡◌ {A = Option WalkedDescriptor} (Some x) (Some y) → x ≡ y
some_is x y e = ap (λ o. unwrap_or o x) e

step_goes_on : (b : List ℕ) (was d : WalkedDescriptor) (c : Bool) (o : Option (Role × ℕ)) → is_counted was.position ≡ c → coming b was.position ≡ o
    → next_of b was ≡ Some d → GoesOn b was d
step_goes_on b was d false o c is e = absurd (none-some d (sym (none_uncounted b was c) ∙ e))
step_goes_on b was d true None c is e = absurd (none-some d (sym (next_is b was None c is) ∙ e))
step_goes_on b was d true (Some next) c is e =
    subst (λ (d : WalkedDescriptor). GoesOn b was d) (some_is _ d (sym (next_is b was (Some next) c is) ∙ e)) (goes_on b was next is)

pub all_go_on : AllGoOn
all_go_on b was d e = step_goes_on b was d (is_counted was.position) (coming b was.position) refl refl e
