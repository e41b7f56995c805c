-- Which strings descriptors name, a descriptor more; which languages a list has, a language more.
use Rattle.std.proofs.Common.{◌≡◌, ℕ, zero, suc, ◌<◌, ◌≤◌, Bool, true, false, List, [], ◌∷◌, length, drop, take, refl, sym, ◌∙◌, ap, arith, length-drop}
use Rattle.std.specs.Prelude.{◌||◌, ◌==◌, nat_lt, slice_index, if◌then◌else◌}
use Rattle.std.proofs.lemmas.Bool.Decides.{nat_tests}
use Rattle.usb_fields.specs.Bytes.{little_endian_at}
use Rattle.usb_capture.specs.Findings.{lists_language, names, names_in, string_index}

above_one : (n : ℕ) → nat_lt 1 n ≡ true → 1 < n
above_one n e = grind (arith, nat_tests)

is_above : (n : ℕ) → 1 < n → nat_lt 1 n ≡ true
is_above n lt = grind (arith, nat_tests)

isnt_above : (n : ℕ) → n ≤ 1 → nat_lt 1 n ≡ false
isnt_above n le = grind (arith, nat_tests)

-- as many descriptors as bytes are enough
names_enough : (m k n : ℕ) (b : List ℕ) → length b ≤ m → length b ≤ k → names_in m n b ≡ names_in k n b
unfolding names_in
names_enough zero zero n b h g = refl
names_enough zero (suc k) n [] h g = refl
names_enough zero (suc k) n (x ∷ b) h g = absurd (omega (arith, h))
names_enough (suc m) zero n [] h g = refl
names_enough (suc m) zero n (x ∷ b) h g = absurd (omega (arith, g))
names_enough (suc m) (suc k) n b h g = by (nat_lt 1 (slice_index b 0)) refl (names_enough m k n (drop (slice_index b 0) b))
  where
    by : (t : Bool) → nat_lt 1 (slice_index b 0) ≡ t
        → (length (drop (slice_index b 0) b) ≤ m → length (drop (slice_index b 0) b) ≤ k → names_in m n (drop (slice_index b 0) b) ≡ names_in k n (drop (slice_index b 0) b))
        → (if t then string_index (take (slice_index b 0) b) == n || names_in m n (drop (slice_index b 0) b) else false)
        ≡ (if t then string_index (take (slice_index b 0) b) == n || names_in k n (drop (slice_index b 0) b) else false)
    by true e later =
        let lt = above_one (slice_index b 0) e in
        let left = length-drop (slice_index b 0) b in
        ap (λ x. string_index (take (slice_index b 0) b) == n || x) (later (omega (arith, lt, left, h)) (omega (arith, lt, left, g)))
    by false e later = refl

pub names_step : (n : ℕ) (b : List ℕ) → 1 < slice_index b 0
    → names n b ≡ (string_index (take (slice_index b 0) b) == n || names n (drop (slice_index b 0) b))
unfolding names_in
names_step n [] lt = absurd (omega (arith, lt))
names_step n (x ∷ b) lt =
    let rest = drop x (x ∷ b) in
    ap (λ t. if t then string_index (take x (x ∷ b)) == n || names_in (length b) n rest else false) (is_above x lt)
    ∙ ap (λ r. string_index (take x (x ∷ b)) == n || r)
    (names_enough (length b) (length rest) n rest (omega (arith, lt, length-drop x (x ∷ b))) (omega arith))

pub names_end : (n : ℕ) (b : List ℕ) → slice_index b 0 ≤ 1 → names n b ≡ false
unfolding names_in
names_end n [] le = refl
names_end n (x ∷ b) le =
    ap (λ t. if t then string_index (take x (x ∷ b)) == n || names_in (length b) n (drop x (x ∷ b)) else false) (isnt_above x le)

pub lists_step : (language : ℕ) (b : List ℕ) → 1 < length b
    → lists_language language b ≡ (little_endian_at b 0 == language || lists_language language (drop 2 b))
lists_step language [] lt = absurd (omega (arith, lt))
lists_step language (x ∷ []) lt = absurd (omega (arith, lt))
lists_step language (x ∷ y ∷ b) lt = refl

pub lists_end : (language : ℕ) (b : List ℕ) → length b ≤ 1 → lists_language language b ≡ false
lists_end language [] le = refl
lists_end language (x ∷ []) le = refl
lists_end language (x ∷ y ∷ b) le = absurd (omega (arith, le))

-- the search among descriptors: found, not found yet, and not found
pub found_in : (n k m i : ℕ) (rest all front : List ℕ) → names n rest ≡ names n all → k ≡ slice_index rest 0 → 1 < k → m ≡ slice_index rest 0
    → front ≡ take m rest → i ≡ string_index front → i ≡ n → true ≡ names n all
found_in n k m i rest all front so first lt length is index same =
    let here : string_index (take (slice_index rest 0) rest) ≡ n = ap (λ x. string_index (take x rest)) (sym length) ∙ sym (ap string_index is) ∙ sym index ∙ same in
    sym (sym so ∙ names_step n rest (omega (arith, first, lt)) ∙ ap (λ b. b || names n (drop (slice_index rest 0) rest)) (equal _ n here))
  where
    equal : (a b : ℕ) → a ≡ b → (a == b) ≡ true
    equal a b e = grind (arith, nat_tests)

pub not_yet_in : (n k m i : ℕ) (rest all front later : List ℕ) → names n rest ≡ names n all → k ≡ slice_index rest 0 → 1 < k → m ≡ slice_index rest 0
    → front ≡ take m rest → i ≡ string_index front → (i ≡ n → ⊥) → later ≡ drop m rest → names n later ≡ names n all
not_yet_in n k m i rest all front later so first lt length is index other dropped =
    let there : i ≡ string_index (take (slice_index rest 0) rest) = index ∙ ap string_index is ∙ ap (λ x. string_index (take x rest)) length in
    ap (names n) (dropped ∙ ap (λ x. drop x rest) length)
    ∙ sym (sym so ∙ names_step n rest (omega (arith, first, lt)) ∙ ap (λ b. b || names n (drop (slice_index rest 0) rest)) (apart _ n (λ e. other (there ∙ e))))
  where
    apart : (a b : ℕ) → (a ≡ b → ⊥) → (a == b) ≡ false
    apart a b e = grind (arith, nat_tests)

pub not_in : (n k : ℕ) (rest all : List ℕ) → names n rest ≡ names n all → k ≡ slice_index rest 0 → k ≤ 1 → false ≡ names n all
not_in n k rest all so first le = sym (sym so ∙ names_end n rest (omega (arith, first, le)))
