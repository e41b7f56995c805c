-- The first packets of a list, and those that are left.
use Rattle.std.proofs.Common.{◌≡◌, ℕ, zero, suc, ◌+◌, ◌<◌, List, [], ◌∷◌, ◌++◌, length, take, drop, refl, sym, ap, ◌∙◌, arith, subst, append_assoc, length-append, zero-add}
use Rattle.std.proofs.lemmas.List.{append-nil}
use Rattle.usb_fields.specs.Packets.{packets, joined}
use Rattle.usb_bus.specs.inside.Sound.{Due, IsCut}

pub drop_suc : (k : ℕ) (xs : List (List ℕ)) (p : List ℕ) (rest : List (List ℕ)) →
    drop k xs ≡ p ∷ rest → drop (suc k) xs ≡ rest
drop_suc zero [] p rest e = cc
drop_suc zero (x ∷ xs) p rest e = cc
drop_suc (suc k) [] p rest e = cc
drop_suc (suc k) (x ∷ xs) p rest e = drop_suc k xs p rest e

-- one packet more
pub front_more : (k : ℕ) (xs : List (List ℕ)) (p : List ℕ) (rest : List (List ℕ)) →
    drop k xs ≡ p ∷ rest → joined (take (suc k) xs) ≡ joined (take k xs) ++ p
front_more zero [] p rest e = absurd (cc)
front_more zero (x ∷ xs) p rest e = (let same : x ≡ p = cc in append-nil x ∙ same)
front_more (suc k) [] p rest e = absurd (cc)
front_more (suc k) (x ∷ xs) p rest e = ap (λ y. x ++ y) (front_more k xs p rest e) ∙ sym (append_assoc x (joined (take k xs)) p)

-- the first packets and those that are left
pub front_joins : (k : ℕ) (xs : List (List ℕ)) → joined (take k xs) ++ joined (drop k xs) ≡ joined xs
front_joins zero xs = refl
front_joins (suc k) [] = refl
front_joins (suc k) (x ∷ xs) = append_assoc x (joined (take k xs)) (joined (drop k xs)) ∙ ap (λ y. x ++ y) (front_joins k xs)

pub is_within : (k : ℕ) (xs : List (List ℕ)) (p : List ℕ) (rest : List (List ℕ)) → drop k xs ≡ p ∷ rest → k < length xs
is_within zero [] p rest e = absurd (cc)
is_within zero (x ∷ xs) p rest e = omega arith
is_within (suc k) [] p rest e = absurd (cc)
is_within (suc k) (x ∷ xs) p rest e = (let within = is_within k xs p rest e in omega arith)

pub is_last : (k : ℕ) (xs : List (List ℕ)) (p : List ℕ) → drop k xs ≡ p ∷ [] → length xs ≡ suc k
is_last zero [] p e = absurd (cc)
is_last zero (x ∷ []) p e = refl
is_last zero (x ∷ (y ∷ ys)) p e = absurd (cc)
is_last (suc k) [] p e = absurd (cc)
is_last (suc k) (x ∷ xs) p e = ap suc (is_last k xs p e)

pub none_left : (k : ℕ) (xs : List (List ℕ)) → drop k xs ≡ [] → k < length xs → ⊥
none_left zero [] e within = absurd (omega arith)
none_left zero (x ∷ xs) e within = absurd (cc)
none_left (suc k) [] e within = absurd (omega arith)
none_left (suc k) (x ∷ xs) e within = none_left k xs e (omega arith)

pub some_due : (size limit came : ℕ) (xs : List (List ℕ)) → Due size limit came xs → 0 < length xs
some_due size limit came [] d = absurd d
some_due size limit came (x ∷ xs) d = omega arith

-- the packets that are left are due
due_left : (size limit : ℕ) (k came : ℕ) (xs : List (List ℕ)) → Due size limit came xs → k < length xs →
    Due size limit (came + length (joined (take k xs))) (drop k xs)
due_left size limit zero came xs d within = (let same : came ≡ came + 0 = omega arith in subst (λ n. Due size limit n xs) same d)
due_left size limit (suc k) came [] d within = absurd d
due_left size limit (suc k) came (x ∷ []) d within = absurd (omega arith)
due_left size limit (suc k) came (x ∷ (y ∷ ys)) d within =
    let same : (came + length x) + length (joined (take k (y ∷ ys))) ≡ came + length (joined (take (suc k) (x ∷ (y ∷ ys)))) =
    (let long = length-append x (joined (take k (y ∷ ys))) in omega arith) in
    subst (λ n. Due size limit n (drop k (y ∷ ys))) same (due_left size limit k (came + length x) (y ∷ ys) d.2 (omega arith))

module _ (cut size limit : ℕ) (bytes : List ℕ) (c : IsCut cut size limit bytes) (k : ℕ) (got : List ℕ) (left : List (List ℕ)) where
  abbrev all : List (List ℕ)
  all = packets bytes cut limit

  pub cut_due : got ≡ joined (take k all) → k < length all → drop k all ≡ left → Due size limit (length got) left
  cut_due kept within at =
      let due = subst (λ n. Due size limit n (drop k all)) (zero-add (length (joined (take k all)))) (due_left size limit k 0 all c.due within) in
      subst (λ x. Due size limit (length got) x) at (subst (λ x. Due size limit (length x) (drop k all)) (sym kept) due)

  pub cut_joins : got ≡ joined (take k all) → drop k all ≡ left → got ++ joined left ≡ bytes
  cut_joins kept at =
      ap (λ x. x ++ joined left) kept ∙ ap (λ x. joined (take k all) ++ joined x) (sym at) ∙ front_joins k all ∙ c.joins
