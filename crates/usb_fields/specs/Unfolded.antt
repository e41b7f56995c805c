-- Lists that come step by step.
use Rattle.std.specs.Prelude.{ℕ, zero, suc, List, [], ◌∷◌, Option, unwrap_or}
use Rattle.std.specs.Option.{option_map}

-- What comes of a state in at most n steps: each takes what is next there, as long as anything is, and gives an element and the
-- state after it.
unfoldable pub unfolded : {A S X : Type 0} → (S → Option X) → (S → X → A × S) → ℕ → S → List A
unfolded next step zero s = []
unfolded next step (suc n) s = unwrap_or (option_map (λ x. (step s x).0 ∷ unfolded next step n (step s x).1) (next s)) []
