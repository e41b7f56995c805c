-- Each string stands where it is asked for.
use Rattle.std.proofs.Common.{◌≡◌, ℕ, zero, suc, ◌+◌, ◌*◌, ◌/◌, ◌%◌, ◌<◌, ◌≤◌, ◌==◌, Bool, true, false, if◌then◌else◌, List, [], ◌∷◌, length, filter, slice_get, Some, refl, arith, position, get_or}
use Rattle.std.specs.List.{list_any, range_with_len, position_or_len}
use Rattle.std.proofs.lemmas.Bool.Decides.{nat_tests}
use Rattle.std.proofs.lemmas.List.Sums.{position_or_len_is}
use Rattle.std.proofs.Math.Nat.{mod-lt, div-add-mod}
use Rattle.usb_file_data.specs.declared.file.DescriptorFile.{DescriptorFile}
use Rattle.usb_file_data.specs.declared.file.Strings.{Strings}
use Rattle.usb_file_data.specs.File.{named_among, named_indices, string_indices, units_at}
use Rattle.usb_device.specs.Accepted.{is_among, repeats}
use Rattle.usb_host.specs.Order.{index_due, language_due}

-- two places of a list in which no number stands twice have two numbers
stands_at : (xs : List ℕ) (n i : ℕ) → i < length xs → is_among xs n ≡ false → (get_or xs i 0 == n) ≡ false
stands_at [] n i within none = absurd (omega arith)
stands_at (x ∷ xs) n zero within none = grind (arith, nat_tests)
stands_at (x ∷ xs) n (suc i) within none = stands_at xs n i (omega arith) (grind (arith, nat_tests))

swapped : (a b : ℕ) → (a == b) ≡ false → (b == a) ≡ false
swapped a b e = grind (arith, nat_tests)

apart : (xs : List ℕ) (k i : ℕ) → repeats xs ≡ false → k < i → i < length xs → (get_or xs k 0 == get_or xs i 0) ≡ false
apart [] k i once below within = absurd (omega arith)
apart (x ∷ xs) zero zero once below within = absurd (omega arith)
apart (x ∷ xs) (suc k) zero once below within = absurd (omega arith)
apart (x ∷ xs) zero (suc i) once below within = swapped (get_or xs i 0) x (stands_at xs x i (omega arith) (grind (arith, nat_tests)))
apart (x ∷ xs) (suc k) (suc i) once below within = apart xs k i (grind (arith, nat_tests)) (omega arith) (omega arith)

pub place_of : (xs : List ℕ) (i : ℕ) → repeats xs ≡ false → i < length xs → position (λ n. n == get_or xs i 0) xs ≡ Some i
place_of xs i once within =
    let is : position_or_len (λ n. n == get_or xs i 0) xs ≡ i =
    position_or_len_is (λ n. n == get_or xs i 0) xs i 0 (omega arith) (λ k below. apart xs k i once below within) (λ w. grind (arith, nat_tests)) in
    grind (arith, nat_tests)

-- the named indices are 1 to 255, and none stands twice
abbrev AreFrom : ℕ → List ℕ → Type 0
AreFrom a [] = Unit {0}
AreFrom a (x ∷ xs) = (a ≤ x) × (x < 256) × AreFrom a xs

from_later : (a b : ℕ) (xs : List ℕ) → a ≤ b → AreFrom b xs → AreFrom a xs
from_later a b [] le h = tt
from_later a b (x ∷ xs) le h = (let first = h.0 in omega arith, h.1, from_later a b xs le h.2)

by_test_from : (t : Bool) (a : ℕ) (rest : List ℕ) → a < 256 → AreFrom a rest → AreFrom a (if t then a ∷ rest else rest)
by_test_from true a rest small h = (omega arith, small, h)
by_test_from false a rest small h = h

filtered_from : (p : ℕ → Bool) (a n : ℕ) → a + n ≤ 256 → AreFrom a (filter p (range_with_len a n))
filtered_from p a zero fits = tt
filtered_from p a (suc n) fits =
    by_test_from (p a) a (filter p (range_with_len (a + 1) n)) (omega arith)
    (from_later a (a + 1) (filter p (range_with_len (a + 1) n)) (omega arith) (filtered_from p (a + 1) n (omega arith)))

not_in : (a : ℕ) (xs : List ℕ) → AreFrom (a + 1) xs → is_among xs a ≡ false
not_in a [] h = refl
not_in a (x ∷ xs) h = (let first = h.0 in let rest = not_in a xs h.2 in grind (arith, nat_tests))

by_test_once : (t : Bool) (a : ℕ) (rest : List ℕ) → is_among rest a ≡ false → repeats rest ≡ false → repeats (if t then a ∷ rest else rest) ≡ false
by_test_once true a rest none once = grind (arith, nat_tests)
by_test_once false a rest none once = once

filtered_once : (p : ℕ → Bool) (a n : ℕ) → a + n ≤ 256 → repeats (filter p (range_with_len a n)) ≡ false
filtered_once p a zero fits = refl
filtered_once p a (suc n) fits =
    by_test_once (p a) a (filter p (range_with_len (a + 1) n))
    (not_in a (filter p (range_with_len (a + 1) n)) (filtered_from p (a + 1) n (omega arith))) (filtered_once p (a + 1) n (omega arith))

pub named_once : (xs : List ℕ) → repeats (named_among xs) ≡ false
unfolding named_among
named_once xs = filtered_once (λ n. list_any (λ index. index == n) xs) 1 255 (omega arith)

named_from : (xs : List ℕ) → AreFrom 1 (named_among xs)
unfolding named_among
named_from xs = filtered_from (λ n. list_any (λ index. index == n) xs) 1 255 (omega arith)

at_from : (xs : List ℕ) (i : ℕ) → i < length xs → AreFrom 1 xs → (0 < get_or xs i 0) × (get_or xs i 0 < 256)
at_from [] i within h = absurd (omega arith)
at_from (x ∷ xs) zero within h = (let first = h.0 in omega arith, h.1)
at_from (x ∷ xs) (suc i) within h = at_from xs i (omega arith) h.2

pub index_fits : (f : DescriptorFile) (k : ℕ) → (length (named_indices f) == 0) ≡ false → (0 < index_due (named_indices f) k) × (index_due (named_indices f) k < 256)
index_fits f k some =
    let pos : 0 < length (named_indices f) = grind (arith, nat_tests) in
    at_from (named_indices f) (k % length (named_indices f)) (mod-lt k pos) (named_from (string_indices f))

-- row and column of a place in a table
row_below : (k rows columns : ℕ) → 0 < columns → k < rows * columns → k / columns < rows
row_below k rows columns pos below = grind (arith, nat_tests)

place_is : (k columns : ℕ) → k / columns * columns + k % columns ≡ k
place_is k columns = (let e = div-add-mod k columns in grind arith)

pub string_found : (s : Strings) (named : List ℕ) (k : ℕ) (t : List ℕ) → repeats s.languages ≡ false → repeats named ≡ false → 0 < length named →
    k < length s.languages * length named → slice_get s.texts k ≡ Some t → units_at s named (index_due named k) (language_due s.languages named k) ≡ Some t
string_found s named k t once_l once_n pos below at =
    let row = k / length named in
    let column = k % length named in
    let rows : position (λ l. l == get_or s.languages row 0) s.languages ≡ Some row = place_of s.languages row once_l (row_below k (length s.languages) (length named) pos below) in
    let columns : position (λ n. n == get_or named column 0) named ≡ Some column = place_of named column once_n (mod-lt k pos) in
    rw (rows, columns, place_is k (length named)) at
