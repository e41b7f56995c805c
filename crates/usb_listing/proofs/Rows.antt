-- On texts that are put for each element of a list in turn.
use Rattle.std.proofs.Common.{◌≡◌, ℕ, ◌+◌, zero, suc, List, [], ◌∷◌, ◌++◌, drop, take, Some, slice_get, refl, sym, ap, ◌∙◌, subst, add-one, append_assoc, append-nil}
use Rattle.std.specs.List.{flat_map}
use Rattle.usb_text.specs.Output.{AppendsLess, Held}
use Rattle.usb_text.specs.inside.Pages.{Puts}
use Rattle.usb_text.proofs.Pages.{front_longer, puts_broken, puts_more}

-- the texts of the elements up to x, and that of x
take_next : {X : Type 0} (f : X → List ℕ) (xs : List X) (i : ℕ) (x : X) → slice_get xs i ≡ Some x
    → flat_map f (take (i + 1) xs) ≡ flat_map f (take i xs) ++ f x
take_next f [] zero x h = cc
take_next f [] (suc i) x h = cc
take_next f (y ∷ ys) zero x h = let same : y ≡ x = cc in append-nil (f y) ∙ ap f same
take_next f (y ∷ ys) (suc i) x h =
    rw add-one (rw add-one at (ap (λ l. f y ++ l) (take_next f ys i x h)) ∙ sym (append_assoc (f y) (flat_map f (take i ys)) (f x)))

-- and those after x
take_rest : {X : Type 0} (f : X → List ℕ) (xs : List X) (i : ℕ) → flat_map f xs ≡ flat_map f (take i xs) ++ flat_map f (drop i xs)
take_rest f [] zero = refl
take_rest f [] (suc i) = refl
take_rest f (y ∷ ys) zero = refl
take_rest f (y ∷ ys) (suc i) = ap (λ l. f y ++ l) (take_rest f ys i) ∙ sym (append_assoc (f y) (flat_map f (take i ys)) (flat_map f (drop i ys)))

pub row_put : {X : Type 0} (a b c : Held) (page mid rest : List ℕ) (f : X → List ℕ) (xs : List X) (i : ℕ) (x : X) → slice_get xs i ≡ Some x
    → Puts a b page mid (flat_map f (take i xs)) → Puts b c mid rest (f x) → Puts a c page rest (flat_map f (take (i + 1) xs))
row_put a b c page mid rest f xs i x h p q =
    subst (Puts a c page rest) (sym (take_next f xs i x h)) (puts_more a b c page mid rest (flat_map f (take i xs)) (f x) p q)

pub row_broken : {X : Type 0} (a b c : Held) (page mid : List ℕ) (f : X → List ℕ) (xs : List X) (i : ℕ) (x : X) → slice_get xs i ≡ Some x
    → Puts a b page mid (flat_map f (take i xs)) → AppendsLess b c (mid ++ f x) → AppendsLess a c (page ++ flat_map f xs)
row_broken a b c page mid f xs i x h p q =
    let short = puts_broken a b c page mid (flat_map f (take i xs)) (f x) p q in
    let here = ap (λ l. page ++ l) (sym (take_next f xs i x h)) in
    let whole = append_assoc page (flat_map f (take (i + 1) xs)) (flat_map f (drop (i + 1) xs)) ∙ ap (λ l. page ++ l) (sym (take_rest f xs (i + 1))) in
    subst (AppendsLess a c) whole (front_longer a c (page ++ flat_map f (take (i + 1) xs)) (flat_map f (drop (i + 1) xs)) (subst (AppendsLess a c) here short))
