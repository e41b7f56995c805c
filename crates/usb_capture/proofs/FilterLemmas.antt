-- What is found in a list that was filtered.
use Rattle.std.proofs.Common.{◌≡◌, Bool, true, false, List, [], ◌∷◌, refl, sym, ◌∙◌, ap}
use Rattle.std.specs.Prelude.{Some, None, filter, cond, if◌then◌else◌}
use Rattle.std.specs.List.{find}

-- nothing, where the filter passes none of what is looked for
pub none_left : {A : Type 0} (p q : A → Bool) → ((x : A) → p x ≡ true → q x ≡ false) → (xs : List A) → find p (filter q xs) ≡ None
none_left p q stops [] = refl
none_left p q stops (x ∷ xs) = by (q x) (p x) refl refl (none_left p q stops xs)
  where
    by : (b c : Bool) → q x ≡ b → p x ≡ c → find p (filter q xs) ≡ None → find p (if b then x ∷ filter q xs else filter q xs) ≡ None
    by true true e f later = absurd (let w : ⊥ = (let g = stops x f in cc) in w)
    by true false e f later = ap (λ t. cond t (Some x) (find p (filter q xs))) f ∙ later
    by false c e f later = later

-- the same, where it passes all of what is looked for
pub still_there : {A : Type 0} (p q : A → Bool) → ((x : A) → p x ≡ true → q x ≡ true) → (xs : List A) → find p (filter q xs) ≡ find p xs
still_there p q passes [] = refl
still_there p q passes (x ∷ xs) = by (q x) (p x) refl refl (still_there p q passes xs)
  where
    by : (b c : Bool) → q x ≡ b → p x ≡ c → find p (filter q xs) ≡ find p xs → find p (if b then x ∷ filter q xs else filter q xs) ≡ find p (x ∷ xs)
    by true c e f later = ap (cond (p x) (Some x)) later
    by false true e f later = absurd (let w : ⊥ = (let g = passes x f in cc) in w)
    by false false e f later = later ∙ sym (ap (λ t. cond t (Some x) (find p xs)) f)
