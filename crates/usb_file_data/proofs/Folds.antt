-- What marks say.
use Rattle.std.proofs.Common.{◌≡◌, ℕ, zero, suc, ◌+◌, ◌-◌, ◌<◌, ◌≤◌, ◌==◌, List, [], ◌∷◌, ◌++◌, Bool, true, false, ◌||◌, cond, refl, ap, sym, ◌∙◌, arith, map}
use Rattle.std.specs.Prelude.{fold, filter, not}
use Rattle.std.specs.List.{list_any, range_with_len}
use Rattle.std.proofs.lemmas.List.{append-nil}
use Rattle.std.proofs.lemmas.List.FromFn.{filter_of_map_range_with_len_more}
use Rattle.usb_file_data.specs.File.{named_among}
use Rattle.usb_fields.specs.Marks.{IsNextAbsent, unmarked, marked}
use Rattle.usb_file_data.specs.inside.Walk.{marked_among}

pub fold_append : {A B : Type 0} (f : B → A → B) (b : B) (xs ys : List A) → fold f b (xs ++ ys) ≡ fold f (fold f b xs) ys
fold_append f b [] ys = refl
fold_append f b (x ∷ xs) ys = fold_append f (f b x) xs ys

pub map_from : {A B : Type 0} (f : A → B) (x : A) (xs : List A) → map f (x ∷ xs) ≡ f x ∷ map f xs
map_from f x xs = refl

map_same : (xs : List ℕ) → map (λ x. x) xs ≡ xs
map_same [] = refl
map_same (x ∷ xs) = ap (λ ys. x ∷ ys) (map_same xs)

filter_range_more : (p : ℕ → Bool) (a n : ℕ) → filter p (range_with_len a (n + 1)) ≡ filter p (range_with_len a n) ++ cond (p (a + n)) ((a + n) ∷ []) []
filter_range_more p a n =
    let step = filter_of_map_range_with_len_more p (λ x. x) a n (a + n) refl in
    let l = map_same (range_with_len a (n + 1)) in
    let r = map_same (range_with_len a n) in
    cc

pub among_none : (first : ℕ) (passes : ℕ → Bool) → marked_among first 0 passes ≡ []
unfolding marked_among
among_none first passes = refl

among_more : (first n : ℕ) (passes : ℕ → Bool) → marked_among first (n + 1) passes ≡ marked_among first n passes ++ cond (passes (first + n)) ((first + n) ∷ []) []
unfolding marked_among
among_more first n passes = filter_range_more passes first n

-- the next number passes
pub among_next : (first n : ℕ) (passes : ℕ → Bool) → passes (first + n) ≡ true → marked_among first (n + 1) passes ≡ marked_among first n passes ++ (first + n) ∷ []
among_next first n passes h = among_more first n passes ∙ ap (λ b. marked_among first n passes ++ cond b ((first + n) ∷ []) []) h

-- the next number does not pass
pub among_same : (first n : ℕ) (passes : ℕ → Bool) → passes (first + n) ≡ false → marked_among first (n + 1) passes ≡ marked_among first n passes
among_same first n passes h =
    among_more first n passes ∙ ap (λ b. marked_among first n passes ++ cond b ((first + n) ∷ []) []) h ∙ append-nil (marked_among first n passes)

-- ---- the marked numbers, from one to the next

not_true : (b : Bool) → not b ≡ true → b ≡ false
not_true false h = refl
not_true true h = sym h

not_false : (b : Bool) → not b ≡ false → b ≡ true
not_false true h = refl
not_false false h = sym h

among_gap : (first n more : ℕ) (passes : ℕ → Bool) → ((k : ℕ) → first + n ≤ k → k < first + n + more → passes k ≡ false)
    → marked_among first (n + more) passes ≡ marked_among first n passes
among_gap first n zero passes h = let same : n + 0 ≡ n = omega arith in ap (λ m. marked_among first m passes) same
among_gap first n (suc more) passes h =
    let same : n + suc more ≡ (n + more) + 1 = omega arith in
    ap (λ m. marked_among first m passes) same
    ∙ among_same first (n + more) passes (h (first + (n + more)) (omega arith) (omega arith))
    ∙ among_gap first n more passes (λ k from_here below. h k from_here (omega (arith, below)))

-- none is marked from one number to another
pub among_skip : (marks others : ℕ → Bool) (from next end : ℕ) → ((n : ℕ) → n < 256 → others n ≡ not (marks n)) → IsNextAbsent others from next
    → 1 ≤ from → from ≤ end → end ≤ next → end ≤ 256 → marked_among 1 (end - 1) marks ≡ marked_among 1 (from - 1) marks
among_skip marks others from next end other found some least most within =
    let same : end - 1 ≡ (from - 1) + (end - from) = omega (arith, some, least) in
    ap (λ m. marked_among 1 m marks) same
    ∙ among_gap 1 (from - 1) (end - from) marks
    (λ k from_here below.
    not_true (marks k) (sym (other k (omega (arith, below, some, least, within))) ∙ found.before k (omega (arith, from_here, some)) (omega (arith, below, some, least, most))))

-- the next marked number
pub among_found : (marks others : ℕ → Bool) (from next : ℕ) → ((n : ℕ) → n < 256 → others n ≡ not (marks n)) → IsNextAbsent others from next
    → 1 ≤ from → next < 256 → marked_among 1 next marks ≡ marked_among 1 (from - 1) marks ++ next ∷ []
among_found marks others from next other found some within =
    let least = found.least in
    let last : next ≡ (next - 1) + 1 = omega (arith, some, least) in
    let here : 1 + (next - 1) ≡ next = omega (arith, some, least) in
    let is : marks next ≡ true = not_false (marks next) (sym (other next within) ∙ found.absent) in
    ap (λ m. marked_among 1 m marks) last
    ∙ among_next 1 (next - 1) marks (ap marks here ∙ is)
    ∙ ap (λ n. marked_among 1 (next - 1) marks ++ n ∷ []) here
    ∙ ap (λ ns. ns ++ next ∷ []) (among_skip marks others from next next other found some least (omega arith) (omega (arith, within)))

-- ---- the named indices

or_swap : (a b c : Bool) → (a || (b || c)) ≡ ((b || a) || c)
or_swap true true c = refl
or_swap true false c = refl
or_swap false true c = refl
or_swap false false c = refl

or-false : (b : Bool) → (b || false) ≡ b
or-false true = refl
or-false false = refl

-- whether the number is in the list
abbrev is_among : List ℕ → ℕ → Bool
is_among xs n = list_any (λ x. x == n) xs

marks_hold : (marks : ℕ → Bool) (xs : List ℕ) (k : ℕ) → fold marked marks xs k ≡ (is_among xs k || marks k)
unfolding marked
marks_hold marks [] k = refl
marks_hold marks (x ∷ xs) k = marks_hold (marked marks x) xs k ∙ or_swap (is_among xs k) (x == k) (marks k)

filter_along : (p q : ℕ → Bool) (xs : List ℕ) → ((k : ℕ) → p k ≡ q k) → filter p xs ≡ filter q xs
filter_along p q [] h = refl
filter_along p q (x ∷ xs) h = let here = h x in let rest = filter_along p q xs h in cc

pub among_marks : (xs : List ℕ) → marked_among 1 255 (fold marked unmarked xs) ≡ named_among xs
unfolding marked_among named_among
among_marks xs =
    filter_along (fold marked unmarked xs) (is_among xs) (range_with_len 1 255) (λ k. marks_hold unmarked xs k ∙ or-false (is_among xs k))
