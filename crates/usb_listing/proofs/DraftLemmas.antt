-- On what is kept beside a file so far.
use Rattle.std.proofs.Common.{◌≡◌, ℕ, zero, suc, ◌-◌, ◌<◌, List, [], ◌∷◌, Option, Some, None, unwrap_or, length, get_or, Result, Ok, Err, refl, ap, sym, subst, ◌∙◌, arith}
use Rattle.std.specs.Prelude.{OnOk}
use Rattle.std.proofs.Math.ListN.{set}
use Rattle.usb_set.specs.inside.Reading.{with_last}
use Rattle.usb_set.proofs.Last.{with_last_is}
use Rattle.usb_set.specs.declared.tree.Configuration.{Configuration}
use Rattle.usb_listing.specs.inside.Drafts.{Joins, JoinsLast}
use Rattle.usb_listing.specs.inside.Growing.{last_of, set_and}

pub last_none : {A : Type 0} (xs : List A) → length xs ≡ 0 → last_of xs ≡ None
last_none [] e = refl
last_none (x ∷ xs) e = absurd (omega arith)

last_from : {A : Type 0} (xs : List A) (i : ℕ) (d : A) → suc i ≡ length xs → last_of xs ≡ Some (get_or xs i d)
last_from [] i d e = absurd (omega arith)
last_from (x ∷ []) zero d e = refl
last_from (x ∷ []) (suc i) d e = absurd (omega arith)
last_from (x ∷ y ∷ xs) zero d e = absurd (omega arith)
last_from (x ∷ y ∷ xs) (suc i) d e = last_from (y ∷ xs) i d (omega arith)

pub last_at : {A : Type 0} (xs : List A) (d : A) → 0 < length xs → last_of xs ≡ Some (get_or xs (length xs - 1) d)
last_at xs d lt = last_from xs (length xs - 1) d (omega arith)

-- ---- a descriptor that joins the last set

pub joins_some : (b : List ℕ) (sets : List Configuration) → JoinsLast b sets → 0 < length sets
joins_some b [] j = absurd (let e = j.last in cc)
joins_some b (c ∷ sets) j = omega arith

pub joins_at : (b : List ℕ) (sets : List Configuration) (d : Configuration) → JoinsLast b sets → Joins b (get_or sets (length sets - 1) d)
joins_at b sets d j =
    let same : j.set ≡ get_or sets (length sets - 1) d = ap (λ (o : Option Configuration). unwrap_or o d) (sym j.last ∙ last_at sets d (joins_some b sets j)) in
    subst (Joins b) same j.joins

pub joins_there : (b : List ℕ) (sets : List Configuration) (x : Configuration) (n : ℕ) → n ≡ length sets → x ≡ get_or sets (n - 1) x → JoinsLast b sets → Joins b x
joins_there b sets x n is at j = subst (Joins b) (sym (at ∙ ap (λ (k : ℕ). get_or sets (k - 1) x) is)) (joins_at b sets x j)

pub joined_there : {E : Type 0} (r : Result (Unit {0}) E) (b : List ℕ) (sets : List Configuration) (x new : Configuration) (n : ℕ) → n ≡ length sets → x ≡ get_or sets (n - 1) x → JoinsLast b sets
    → OnOk r (new ≡ set_and b x) → OnOk r (set sets (n - 1) new ≡ with_last (set_and b) sets)
joined_there (Err e) b sets x new n is at j h = tt
joined_there (Ok u) b sets x new n is at j h =
    ap (set sets (n - 1)) (h ∙ ap (set_and b) at) ∙ ap (λ (k : ℕ). set sets (k - 1) (set_and b (get_or sets (k - 1) x))) is
    ∙ with_last_is (set_and b) x sets (joins_some b sets j)
