-- The first packets of a list.
use Rattle.std.proofs.Common.{◌≡◌, ℕ, zero, suc, List, [], ◌∷◌, ◌++◌, append_assoc, take, drop, refl, sym, ◌∙◌, ap}
use Rattle.std.proofs.lemmas.List.{append-nil}
use Rattle.usb_fields.specs.Packets.{joined}

-- one packet more
pub front_more : (k : ℕ) (xs : List (List ℕ)) (p : List ℕ) (rest : List (List ℕ)) → drop k xs ≡ p ∷ rest → joined (take (suc k) xs) ≡ joined (take k xs) ++ p
front_more zero [] p rest e = absurd (let w : ⊥ = cc in w)
front_more zero (x ∷ xs) p rest e = (let same : x ≡ p = cc in append-nil x ∙ same)
front_more (suc k) [] p rest e = absurd (let w : ⊥ = cc in w)
front_more (suc k) (x ∷ xs) p rest e = ap (λ y. x ++ y) (front_more k xs p rest e) ∙ sym (append_assoc x (joined (take k xs)) p)

-- the first packets and those that are left
pub front_joins : (k : ℕ) (xs : List (List ℕ)) → joined (take k xs) ++ joined (drop k xs) ≡ joined xs
front_joins zero xs = refl
front_joins (suc k) [] = refl
front_joins (suc k) (x ∷ xs) = append_assoc x (joined (take k xs)) (joined (drop k xs)) ∙ ap (λ y. x ++ y) (front_joins k xs)
