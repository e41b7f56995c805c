-- On the fields of a descriptor put into a buffer, and on those by a number and by a name.
use Rattle.std.proofs.Common.{◌≡◌, ◌∙◌, ◌+◌, ◌<◌, ◌≤◌, ◌++◌, ℕ, suc, List, [], ◌∷◌, Option, Some, None, ap, append-nil, append_assoc, arith, drop, flat_map, length, map, refl, sym, take, unwrap_or}
use Rattle.std.specs.Prelude.{option_and_then}
use Rattle.std.specs.List.{slice_get}
use Rattle.std.specs.Option.{option_map}
use Rattle.std.proofs.lemmas.List.{length-map, set_split}
use Rattle.std.proofs.lemmas.Option.{slice_get-map}
use Rattle.std.proofs.Math.ListN.{set}
use Rattle.usb_walk.specs.declared.role.Role.{Role}
use Rattle.usb_walk.specs.declared.walked_descriptor.WalkedDescriptor.{WalkedDescriptor}
use Rattle.usb_walk.specs.RoleNumbers.{role_in}
use Rattle.usb_walk.specs.Surroundings.{codes_of}
use Rattle.usb_explain.specs.Fields.{fields_of}
use Rattle.usb_c.specs.DescriptorFields.{bytes_in, field_at, field_numbers}
use Rattle.usb_c.specs.FieldLists.{AllByNumber, fields_at}
use Rattle.usb_c.proofs.Placed.{PutSoFar, one_put, room_for_one}

-- ---- one item of each, put one after another

flat_each : {X A : Type 0} (g : X → A) (xs : List X) → flat_map (λ x. g x ∷ []) xs ≡ map g xs
flat_each g [] = refl
flat_each g (x ∷ xs) = ap (λ l. g x ∷ l) (flat_each g xs)

module _ {X A : Type 0} (g : X → A) (all : List X) (old now : List A) (filled : ℕ) where
  pub each_put : PutSoFar (λ x. g x ∷ []) all [] old now filled → now ≡ map g all ++ drop (length (map g all)) old
  each_put p =
      let each : flat_map (λ x. g x ∷ []) p.done ≡ map g all = flat_each g p.done ∙ ap (map g) (sym (p.parts ∙ append-nil p.done)) in
      p.put ∙ ap (λ n. flat_map (λ x. g x ∷ []) p.done ++ drop n old) p.filled_is ∙ ap (λ l. l ++ drop (length l) old) each

  module _ (x : X) (rest : List X) (p : PutSoFar (λ x. g x ∷ []) all (x ∷ rest) old now filled) where
    pub room_for_next : length (map g all) ≤ length old → filled < length now
    room_for_next fits =
        let each = ap length (flat_each g all) in
        let room = room_for_one (λ x. g x ∷ []) all x rest old now filled p (omega (arith, each, fits)) in
        omega (arith, room)

    pub next_put : filled < length now → PutSoFar (λ x. g x ∷ []) all rest old (set now filled (g x)) (filled + 1)
    next_put room =
        let next : suc filled ≡ filled + 1 = omega arith in
        one_put (λ x. g x ∷ []) all x rest old now filled p (set now filled (g x)) (filled + 1)
        (set_split now filled (g x) room ∙ ap (λ (n : ℕ). take filled now ++ (g x ∷ drop n now)) next ∙ sym (append_assoc (take filled now) (g x ∷ []) (drop (filled + 1) now))) refl

pub as_many : (d : WalkedDescriptor) (role : Role) (b : List ℕ) → length (fields_at d role b) ≡ length (fields_of role (codes_of d.position) b)
as_many d role b = length-map (fields_of role (codes_of d.position) b) (field_numbers d.place)

-- ---- a field by its number

picked : {R B D : Type 0} (list : R → B → List D) (one : R → B → Option D) (n : ℕ) → ((r : R) (b : B) → slice_get (list r b) n ≡ one r b)
    → (role : Option R) (bytes : Option B)
    → slice_get (unwrap_or (option_and_then (λ r. option_map (list r) bytes) role) []) n ≡ option_and_then (λ r. option_and_then (one r) bytes) role
picked list one n each None bytes = refl
picked list one n each (Some r) None = refl
picked list one n each (Some r) (Some b) = each r b

pub all_by_number : AllByNumber
all_by_number b d n =
    picked (fields_at d) (field_at d n) n (λ role bytes. slice_get-map (field_numbers d.place) (fields_of role (codes_of d.position) bytes) n) (role_in d.role) (bytes_in b d)
