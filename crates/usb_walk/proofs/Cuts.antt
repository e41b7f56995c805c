-- The descriptors of bytes, one by one.
use Rattle.std.proofs.Common.{◌≡◌, ◌≤◌, ℕ, zero, suc, ◌-◌, List, [], ◌∷◌, length, take, drop, Option, Some, None, unwrap_or, refl, sym, ap, ◌∙◌, arith, length-drop}
use Rattle.std.specs.Option.{option_map}
use Rattle.std.proofs.lemmas.Bool.Decides.{nat_tests}
use Rattle.usb_walk.specs.Trees.{descriptor_length, descriptors, first_descriptors}

-- a descriptor has two bytes at least, and no more than are there
pub length_within : (b : List ℕ) (n : ℕ) → descriptor_length b ≡ Some n → (2 ≤ n) × (n ≤ length b)
length_within [] n e = absurd (cc)
length_within (len ∷ rest) n e = (grind (arith, nat_tests), grind (arith, nat_tests))

-- the descriptors where the first is known
pub first_step : (f : ℕ) (b : List ℕ) (o : Option ℕ) → descriptor_length b ≡ o
    → first_descriptors (suc f) b ≡ unwrap_or (option_map (λ len. take len b ∷ first_descriptors f (drop len b)) o) []
first_step f b o e = ap (λ o. unwrap_or (option_map (λ len. take len b ∷ first_descriptors f (drop len b)) o) []) e

-- of no bytes there is none
pub none_of_nothing : (f : ℕ) → first_descriptors f [] ≡ []
none_of_nothing zero = refl
none_of_nothing (suc f) = refl

-- the same of bytes that begin with what is known, where it holds of those behind
pub enough_at : (f g : ℕ) (b : List ℕ) (o : Option ℕ) → descriptor_length b ≡ o → length b ≤ suc f → length b ≤ suc g
    → ((c : List ℕ) → length c ≤ f → length c ≤ g → first_descriptors f c ≡ first_descriptors g c)
    → first_descriptors (suc f) b ≡ first_descriptors (suc g) b
enough_at f g b None e p q same = first_step f b None e ∙ sym (first_step g b None e)
enough_at f g b (Some n) e p q same =
    let within : (2 ≤ n) × (n ≤ length b) = length_within b n e in
    let left : length (drop n b) ≡ length b - n = length-drop n b in
    first_step f b (Some n) e ∙ ap (λ ds. take n b ∷ ds) (same (drop n b) (omega (arith, within.0, within.1)) (omega (arith, within.0, within.1)))
    ∙ sym (first_step g b (Some n) e)

-- no more are counted than there are bytes
pub enough : (f g : ℕ) (b : List ℕ) → length b ≤ f → length b ≤ g → first_descriptors f b ≡ first_descriptors g b
enough f g [] p q = none_of_nothing f ∙ sym (none_of_nothing g)
enough zero g (x ∷ xs) p q = absurd (omega arith)
enough (suc f) zero (x ∷ xs) p q = absurd (omega arith)
enough (suc f) (suc g) (x ∷ xs) p q = enough_at f g (x ∷ xs) (descriptor_length (x ∷ xs)) refl p q (enough f g)

-- the first descriptor, and those behind it
pub descriptors_step : (b : List ℕ) (n : ℕ) → descriptor_length b ≡ Some n → descriptors b ≡ take n b ∷ descriptors (drop n b)
descriptors_step [] n e = absurd (cc)
descriptors_step (x ∷ xs) n e =
    let b : List ℕ = x ∷ xs in
    let within : (2 ≤ n) × (n ≤ length b) = length_within b n e in
    let left : length (drop n b) ≡ length b - n = length-drop n b in
    first_step (length xs) b (Some n) e
    ∙ ap (λ ds. take n b ∷ ds) (enough (length xs) (length (drop n b)) (drop n b) (omega (arith, within.0, within.1)) (omega (arith, within.0, within.1)))

-- where the bytes begin with none, there is none
pub descriptors_end : (b : List ℕ) → descriptor_length b ≡ None → descriptors b ≡ []
descriptors_end [] e = refl
descriptors_end (x ∷ xs) e = first_step (length xs) (x ∷ xs) None e
