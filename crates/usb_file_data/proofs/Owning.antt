-- Owners of addresses.
use Rattle.std.proofs.Common.{◌≡◌, ℕ, ◌<◌, ◌==◌, ◌&&◌, ◌||◌, not, Bool, true, false, List, length, ap, sym, ◌∙◌, arith, inl, inr}
use Rattle.std.specs.Prelude.{slice_index_or, slice_set}
use Rattle.std.proofs.lemmas.Bool.{cases_eq}
use Rattle.std.proofs.lemmas.Bool.Decides.{nat_tests}
use Rattle.std.proofs.lemmas.List.{get_or-set_other}
use Rattle.std.proofs.lemmas.Grind.{get_or-set_at}
use Rattle.usb_fields.specs.Marks.{marked}
use Rattle.usb_fields.proofs.Cells.{funext}
use Rattle.usb_file_data.specs.inside.Addresses.{is_other, owned_at}
use Rattle.usb_file_data.specs.declared.addresses.Owner.{Owner}
use Rattle.usb_file_data.specs.declared.addresses.Owner.TheVariants as owners

-- an address that another number has too
pub is_other_shared : (stands : Bool) (old : Owner) (n m : ℕ) → (stands && is_other old n) ≡ true → true ≡ (not (n == m) || (stands && is_other old m))
is_other_shared true (owners.One k) n m h = grind (arith, nat_tests)
is_other_shared true owners.Several n m h = grind (arith, nat_tests)
is_other_shared false old n m h = grind arith

-- an address that no other number has
pub is_other_alone : (stands : Bool) (old : Owner) (n m : ℕ) → (stands && is_other old n) ≡ false → not (n == m) ≡ (not (n == m) || (stands && is_other old m))
is_other_alone true (owners.One k) n m h = grind (arith, nat_tests)
is_other_alone true owners.Several n m h = grind arith
is_other_alone false old n m h = grind (arith, nat_tests)

-- whether another number has an address, by whether the address is there
abbrev pub by_cells : (ℕ → Bool) → List Owner → ℕ → ℕ → Bool
by_cells stands cells b m = stands b && is_other (slice_index_or cells b (owners.One 0)) m

same_address : (stands : ℕ → Bool) (n a b m : ℕ) (now old : Bool) → b ≡ a → now ≡ (not (n == m) || old) → (marked stands a b && now) ≡ ((not (n == m) && (a == b)) || old)
unfolding marked
same_address stands n a b m now old same is = grind (arith, nat_tests)

other_address : (stands : ℕ → Bool) (n a b m : ℕ) (old : Bool) → (b ≡ a → ⊥) → (marked stands a b && old) ≡ ((not (n == m) && (a == b)) || (stands b && old))
unfolding marked
other_address stands n a b m old other = grind (arith, nat_tests)

owner_more : (stands : ℕ → Bool) (cells : List Owner) (n a : ℕ) (o : Owner) → a < length cells
    → ((m : ℕ) → is_other o m ≡ (not (n == m) || by_cells stands cells a m)) → (b m : ℕ)
    → by_cells (marked stands a) (slice_set cells a o) b m ≡ ((not (n == m) && (a == b)) || by_cells stands cells b m)
owner_more stands cells n a o small is b m =
    elim (cases_eq b a) [
      | inl same ↦
          same_address stands n a b m _ (by_cells stands cells b m) same
          (ap (λ x. is_other x m) (get_or-set_at cells a b o (owners.One 0) same small) ∙ is m ∙ ap (λ k. not (n == m) || by_cells stands cells k m) (sym same))
      | inr other ↦
          ap (λ x. marked stands a b && is_other x m) (get_or-set_other cells a b o (owners.One 0) other)
          ∙ other_address stands n a b m (is_other (slice_index_or cells b (owners.One 0)) m) other
    ]

pub owners_more : (stands : ℕ → Bool) (cells : List Owner) (n a : ℕ) (o : Owner) → a < length cells
    → ((m : ℕ) → is_other o m ≡ (not (n == m) || by_cells stands cells a m))
    → by_cells (marked stands a) (slice_set cells a o) ≡ owned_at n (by_cells stands cells) a
unfolding owned_at
owners_more stands cells n a o small is = funext _ _ (λ b. funext _ _ (λ m. owner_more stands cells n a o small is b m))

-- an address that stands, once more
same_mark : (stands : ℕ → Bool) (a b : ℕ) → b ≡ a → stands b ≡ true → marked stands a b ≡ stands b
unfolding marked
same_mark stands a b same is = grind (arith, nat_tests)

other_mark : (stands : ℕ → Bool) (a b : ℕ) → (b ≡ a → ⊥) → marked stands a b ≡ stands b
unfolding marked
other_mark stands a b other = grind (arith, nat_tests)

pub marked_again : (stands : ℕ → Bool) (a : ℕ) → stands a ≡ true → marked stands a ≡ stands
marked_again stands a is = funext _ _ (λ b. elim (cases_eq b a) [
  | inl same ↦ same_mark stands a b same (ap stands same ∙ is)
  | inr other ↦ other_mark stands a b other
])

-- an address of one number, under the same number once more
again_here : (stands : Bool) (old : Owner) (n m : ℕ) (same : Bool) → stands ≡ true → is_other old n ≡ false → (stands && is_other old m) ≡ ((not (n == m) && same) || (stands && is_other old m))
again_here true (owners.One k) n m true s h = grind (arith, nat_tests)
again_here true (owners.One k) n m false s h = grind (arith, nat_tests)
again_here true owners.Several n m same s h = grind arith
again_here false old n m same s h = grind arith

not_here : (n m a b : ℕ) (there : Bool) → (b ≡ a → ⊥) → there ≡ ((not (n == m) && (a == b)) || there)
not_here n m a b there other = grind (arith, nat_tests)

pub owned_again : (stands : ℕ → Bool) (cells : List Owner) (n a : ℕ) → stands a ≡ true → is_other (slice_index_or cells a (owners.One 0)) n ≡ false
    → by_cells stands cells ≡ owned_at n (by_cells stands cells) a
unfolding owned_at
owned_again stands cells n a there alone = funext _ _ (λ b. funext _ _ (λ m. elim (cases_eq b a) [
  | inl same ↦
      again_here (stands b) (slice_index_or cells b (owners.One 0)) n m (a == b) (ap stands same ∙ there)
      (ap (λ k. is_other (slice_index_or cells k (owners.One 0)) n) same ∙ alone)
  | inr other ↦ not_here n m a b (by_cells stands cells b m) other
]))
