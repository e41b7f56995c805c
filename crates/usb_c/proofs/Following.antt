-- A field by its number.
use Rattle.std.proofs.Common.{◌≡◌, ◌≤◌, ℕ, zero, suc, ◌+◌, true, List, [], ◌∷◌, ◌++◌, length, map, Option, Some, None, IfSome, unwrap_or, refl, sym, ap, subst, ◌∙◌, arith, length-append}
use Rattle.std.specs.Iterator.{SkipsThenYields, Yields, YieldsFirstBy}
use Rattle.std.specs.List.{AllByRecursion, slice_get}
use Rattle.std.specs.Option.{option_map}
use Rattle.std.proofs.lemmas.List.{length-map}
use Rattle.std.proofs.lemmas.Option.{none-some, slice_get_past}
use Rattle.usb_names.specs.declared.codes.ClassCodes.{ClassCodes}
use Rattle.usb_explain.specs.declared.field.Field.{Field}
use Rattle.usb_walk.specs.declared.role.Role.{Role}
use Rattle.usb_walk.specs.declared.role.Role.TheVariants as roles
use Rattle.usb_explain.specs.FieldLaws.{first_place, has_fields, span_of_field}
use Rattle.usb_explain.specs.Fields.{PlacedField, fields_of, placed_of}
use Rattle.usb_remarks.specs.OutlineLaws.{Follow, Span}
use Rattle.usb_explain.proofs.FieldsCover.{fields_have_all_bytes}

-- ---- an item of an iterator by its number

rest_is : {S A B : Type 0} (view : A → B) (rest : S → List B) (xs : List A) (s t : S) → Yields (YieldsFirstBy view rest) s xs t → rest s ≡ map view xs ++ rest t
rest_is view rest [] s t e = ap rest e
rest_is view rest (x ∷ xs) s t y = y.1 ∙ ap (λ l. view x ∷ l) (rest_is view rest xs y.0 t y.2)

behind_front : {B : Type 0} (xs ys : List B) (n : ℕ) → length xs ≡ n → slice_get (xs ++ ys) n ≡ slice_get ys 0
behind_front {B} xs ys n e = ap (λ k. slice_get (xs ++ ys) k) (sym e) ∙ by xs
  where
    by : (xs : List B) → slice_get (xs ++ ys) (length xs) ≡ slice_get ys 0
    by [] = refl
    by (x ∷ xs) = by xs

pub nth_is : {S A B : Type 0} (view : A → B) (rest : S → List B) (s : S) (n : ℕ) (r : Option A) (u : S) → SkipsThenYields (YieldsFirstBy view rest) s n r u
    → option_map view r ≡ slice_get (rest s) n
nth_is view rest s n None u y =
    let xs = y.0 in
    let parts = rest_is view rest xs s y.1.0 y.1.1 ∙ ap (λ l. map view xs ++ l) y.1.2.0 in
    let past : slice_get (map view xs ++ []) n ≡ None = slice_get_past (map view xs ++ []) n (omega (arith, y.2, length-append (map view xs) [], length-map xs view)) in
    sym past ∙ ap (λ l. slice_get l n) (sym parts)
nth_is view rest s n (Some x) u y =
    let xs = y.0 in
    let parts = rest_is view rest xs s y.1.0 y.1.1 ∙ ap (λ l. map view xs ++ l) y.1.2 in
    sym (behind_front (map view xs) (view x ∷ rest u) n (length-map xs view ∙ y.2)) ∙ ap (λ l. slice_get l n) (sym parts)

-- ---- a field is in its descriptor

follow_on : (xs : List Span) (from to : ℕ) → Follow from xs to → from + length xs ≤ to
follow_on [] from to e = omega (arith, e)
follow_on (x ∷ xs) from to f = let more = follow_on xs (from + x.count) to f.2 in let some = f.1 in omega (arith, more, some)

pub of_all : {X : Type 0} (P : X → Type 0) (xs : List X) (n : ℕ) (x : X) → AllByRecursion P xs → slice_get xs n ≡ Some x → P x
of_all P [] n x all e = absurd (none-some x e)
of_all P (y ∷ ys) zero x all e = subst P (ap (λ o. unwrap_or o y) e) all.0
of_all P (y ∷ ys) (suc n) x all e = of_all P ys n x all.1 e

-- it ends by this place
abbrev pub EndsBy : ℕ → PlacedField → Type 0
EndsBy to f = f.place + length f.value ≤ to

all_end_by : (fs : List PlacedField) (from to : ℕ) → Follow from (map span_of_field fs) to → AllByRecursion (EndsBy to) fs
all_end_by [] from to follows = tt
all_end_by (f ∷ fs) from to follows =
    let more = follow_on (map span_of_field fs) (from + length f.value) to follows.2 in
    let begins = follows.0 in
    (omega (arith, more, begins), all_end_by fs (from + length f.value) to follows.2)

near : (role : Role) → first_place role ≤ 2
near roles.Device = omega arith
near roles.Qualifier = omega arith
near roles.Configuration = omega arith
near roles.Association = omega arith
near roles.Interface = omega arith
near roles.Endpoint = omega arith
near roles.Raw = omega arith
near roles.Languages = omega arith
near roles.Text = omega arith

-- the fields of a descriptor end by its end, and are no more than its bytes
pub record FieldsFit (role : Role) (interface : Option ClassCodes) (b : List ℕ) : Type 0 where
  pub ends : AllByRecursion (EndsBy (length b)) (fields_of role interface b)
  pub few : length (fields_of role interface b) ≤ length b

covered : (role : Role) (interface : Option ClassCodes) (b : List ℕ) → has_fields role ≡ true → 2 ≤ length b → FieldsFit role interface b
covered role interface b has least =
    let fields = fields_of role interface b in
    let follow = (fields_have_all_bytes role interface b has).places (omega (arith, near role, least)) in
    let few = follow_on (map span_of_field fields) (first_place role) (length b) follow in
    let many = length-map fields span_of_field in
    record { ends = all_end_by fields (first_place role) (length b) follow; few = omega (arith, few, many) }

pub fields_fit : (role : Role) (interface : Option ClassCodes) (b : List ℕ) → 2 ≤ length b → FieldsFit role interface b
unfolding fields_of
fields_fit roles.Device interface b least = covered roles.Device interface b refl least
fields_fit roles.Qualifier interface b least = covered roles.Qualifier interface b refl least
fields_fit roles.Configuration interface b least = covered roles.Configuration interface b refl least
fields_fit roles.Association interface b least = covered roles.Association interface b refl least
fields_fit roles.Interface interface b least = covered roles.Interface interface b refl least
fields_fit roles.Endpoint interface b least = covered roles.Endpoint interface b refl least
fields_fit roles.Raw interface b least = covered roles.Raw interface b refl least
fields_fit roles.Languages interface b least = record { ends = tt; few = omega (arith, least) }
fields_fit roles.Text interface b least = record { ends = tt; few = omega (arith, least) }

pub answered_within : (role : Role) (interface : Option ClassCodes) (b : List ℕ) (n : ℕ) (r : Option Field) → 2 ≤ length b
    → option_map placed_of r ≡ slice_get (fields_of role interface b) n → IfSome r (λ f. f.place + length f.value.now ≤ length b)
answered_within role interface b n None least e = tt
answered_within role interface b n (Some f) least e = of_all (EndsBy (length b)) (fields_of role interface b) n (placed_of f) (fields_fit role interface b least).ends (sym e)
