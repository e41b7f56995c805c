-- Functions with the same values are the same.
use Rattle.std.proofs.Common.{◌≡◌}

pub funext : {A B : Type 0} (f g : A → B) → ((x : A) → f x ≡ g x) → f ≡ g
funext f g h = λ i x. h x i
