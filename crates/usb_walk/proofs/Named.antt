-- The strings that are named, in order.
use Rattle.std.proofs.Common.{◌≡◌, ◌≤◌, ◌<◌, ℕ, zero, suc, ◌+◌, ◌-◌, ◌*◌, ◌/◌, ◌%◌, ◌^◌, ◌==◌, List, [], ◌∷◌, ◌++◌, Bool, true, false, cond, get_or, length, slice_index, refl, sym, ap, ap₂, subst, ◌∙◌, arith, length-append, div-one, pow-suc}
use Rattle.std.specs.Prelude.{filter}
use Rattle.std.specs.Int.{bit_at}
use Rattle.std.specs.Int.RustNames.{count_ones}
use Rattle.std.specs.List.{range_with_len}
use Rattle.std.proofs.lemmas.Nat.{ones_le_self}
use lib.Count.{ones_step}
use lib.Pow.{shr-shr}
use lib.ListN.{get_or-eq_default}
use Rattle.usb_fields.specs.Marks.{is_marked}
use Rattle.usb_walk.specs.NamedStrings.{indices_in}

-- the indices below a number that are named
abbrev pub marked_before : ℕ → List ℕ → List ℕ
marked_before n words = filter (is_marked words) (range_with_len 1 (n - 1))

joined : (b : Bool) (a : ℕ) (xs ys : List ℕ) → cond b (a ∷ (xs ++ ys)) (xs ++ ys) ≡ cond b (a ∷ xs) xs ++ ys
joined true a xs ys = refl
joined false a xs ys = refl

-- those of this many numbers and of this many behind them
split : (m : ℕ → Bool) (a n k : ℕ) → filter m (range_with_len a (n + k)) ≡ filter m (range_with_len a n) ++ filter m (range_with_len (a + n) k)
split m a zero k =
    let one : 0 + k ≡ k = omega arith in
    let two : a + 0 ≡ a = omega arith in
    ap (λ j. filter m (range_with_len a j)) one ∙ ap (λ j. filter m (range_with_len j k)) (sym two)
split m a (suc n) k =
    let one : suc n + k ≡ suc (n + k) = omega arith in
    let two : (a + 1) + n ≡ a + suc n = omega arith in
    ap (λ j. filter m (range_with_len a j)) one
    ∙ ap (λ l. cond (m a) (a ∷ l) l) (split m (a + 1) n k ∙ ap (λ j. filter m (range_with_len (a + 1) n) ++ filter m (range_with_len j k)) two)
    ∙ joined (m a) a (filter m (range_with_len (a + 1) n)) (filter m (range_with_len (a + suc n) k))

-- those below the next number
pub one_more : (n : ℕ) (words : List ℕ) → 1 ≤ n → marked_before (n + 1) words ≡ marked_before n words ++ cond (is_marked words n) (n ∷ []) []
one_more n words some =
    let m = is_marked words in
    let more : (n + 1) - 1 ≡ (n - 1) + 1 = omega (arith, some) in
    let same : 1 + (n - 1) ≡ n = omega (arith, some) in
    ap (λ k. filter m (range_with_len 1 k)) more ∙ split m 1 (n - 1) 1 ∙ ap (λ k. marked_before n words ++ cond (m k) (k ∷ []) []) same

none_more : (b : Bool) (n : ℕ) (xs : List ℕ) → length (xs ++ cond b (n ∷ []) []) ≡ length xs + cond b 1 0
none_more true n xs = length-append xs (n ∷ [])
none_more false n xs = length-append xs []

pub counted_more : (n : ℕ) (words : List ℕ) → 1 ≤ n → length (marked_before (n + 1) words) ≡ length (marked_before n words) + cond (is_marked words n) 1 0
counted_more n words some = ap (λ (l : List ℕ). length l) (one_more n words some) ∙ none_more (is_marked words n) n (marked_before n words)

at_seam : (xs ys : List ℕ) (n : ℕ) → slice_index (xs ++ (n ∷ ys)) (length xs) ≡ n
at_seam [] ys n = refl
at_seam (x ∷ xs) ys n = at_seam xs ys n

-- a number that is named is behind those below it
pub named_is : (n : ℕ) (words : List ℕ) → 1 ≤ n → n < 256 → is_marked words n ≡ true → slice_index (indices_in words) (length (marked_before n words)) ≡ n
unfolding indices_in
named_is n words some most e =
    let m = is_marked words in
    let rest = filter m (range_with_len (1 + (n - 1) + 1) (255 - n)) in
    let all : 255 ≡ (n - 1) + suc (255 - n) = omega (arith, some, most) in
    let same : 1 + (n - 1) ≡ n = omega (arith, some) in
    let parts : indices_in words ≡ marked_before n words ++ cond (m n) (n ∷ rest) rest =
    ap (λ k. filter m (range_with_len 1 k)) all ∙ split m 1 (n - 1) (suc (255 - n)) ∙ ap (λ k. marked_before n words ++ cond (m k) (k ∷ rest) rest) same in
    ap (λ (l : List ℕ). slice_index l (length (marked_before n words))) (parts ∙ ap (λ b. marked_before n words ++ cond b (n ∷ rest) rest) e)
    ∙ at_seam (marked_before n words) rest n

-- all of them are those below 256
pub all_named : (words : List ℕ) → marked_before 256 words ≡ indices_in words
unfolding indices_in
all_named words = refl

pub none_behind : (xs : List ℕ) (n : ℕ) → length xs ≤ n → slice_index xs n ≡ 0
none_behind xs n le = get_or-eq_default xs 0 le

-- ---- how many are named

one_first : (b : Bool) (a : ℕ) (xs : List ℕ) → length (cond b (a ∷ xs) xs) ≡ cond b 1 0 + length xs
one_first true a xs = omega arith
one_first false a xs = omega arith

low_bit : (n : ℕ) → cond (n % 2 == 1) 1 0 ≡ n % 2
low_bit n = by (n % 2) (omega arith)
  where
    by : (k : ℕ) → k < 2 → cond (k == 1) 1 0 ≡ k
    by zero below = refl
    by (suc zero) below = refl
    by (suc (suc k)) below = absurd (omega (arith, below))

next_bit : (n i : ℕ) → bit_at n (1 + i) ≡ bit_at (n / 2) i
next_bit n i = ap (λ k. k % 2) (sym (shr-shr n 1 i))

-- the marks of this many numbers are the digits of one
ones_of : (k a n : ℕ) (m : ℕ → Bool) → n < 2 ^ k → ((i : ℕ) → i < k → m (a + i) ≡ (bit_at n i == 1)) → length (filter m (range_with_len a k)) ≡ count_ones n
ones_of zero a n m below same =
    let none : n ≡ 0 = omega (arith, below) in
    let least : count_ones n ≤ 0 = ap_le none in
    omega (arith, least)
  where
    ap_le : n ≡ 0 → count_ones n ≤ 0
    ap_le e = subst (λ n. count_ones n ≤ 0) (sym e) (ones_le_self 0)
ones_of (suc k) a n m below same =
    let half : n / 2 < 2 ^ k = omega (arith, below, pow-suc 2 k) in
    let zero_place : a + 0 ≡ a = omega arith in
    let first : m a ≡ (n % 2 == 1) = ap m (sym zero_place) ∙ same 0 (omega arith) ∙ ap (λ d. d % 2 == 1) (div-one n) in
    let more = ones_of k (a + 1) (n / 2) m half (λ i lt.
    let place : (a + 1) + i ≡ a + (1 + i) = omega arith in
    ap m place ∙ same (1 + i) (omega (arith, lt)) ∙ ap (λ d. d == 1) (next_bit n i)) in
    one_first (m a) a (filter m (range_with_len (a + 1) k))
    ∙ ap (λ b. cond b 1 0 + length (filter m (range_with_len (a + 1) k))) first
    ∙ ap (λ d. d + length (filter m (range_with_len (a + 1) k))) (low_bit n)
    ∙ ap (λ d. n % 2 + d) more
    ∙ sym (ones_step n)

block : (words : List ℕ) (j : ℕ) → get_or words j 0 < 18446744073709551616 → length (filter (is_marked words) (range_with_len (64 * j) 64)) ≡ count_ones (get_or words j 0)
unfolding is_marked
block words j fits =
    ones_of 64 (64 * j) (get_or words j 0) (is_marked words) fits (λ i lt.
    let high : (64 * j + i) / 64 ≡ j = omega (arith, lt) in
    let low : (64 * j + i) % 64 ≡ i = omega (arith, lt) in
    ap (λ h. bit_at (get_or words h 0) ((64 * j + i) % 64) == 1) high ∙ ap (λ l. bit_at (get_or words j 0) l == 1) low)

-- as many as there are digits, without that of 0
pub all_counted : (words : List ℕ) → ((j : ℕ) → get_or words j 0 < 18446744073709551616)
    → cond (is_marked words 0) 1 0 + length (indices_in words)
    ≡ count_ones (get_or words 0 0) + (count_ones (get_or words 1 0) + (count_ones (get_or words 2 0) + count_ones (get_or words 3 0)))
unfolding indices_in
all_counted words fits =
    let m = is_marked words in
    let part = λ (j : ℕ). filter m (range_with_len (64 * j) 64) in
    let all : length (filter m (range_with_len 0 256)) ≡ length (part 0) + (length (part 1) + (length (part 2) + length (part 3))) =
    ap (λ (l : List ℕ). length l) (split m 0 64 192) ∙ length-append (part 0) (filter m (range_with_len 64 192))
    ∙ ap (λ n. length (part 0) + n) (ap (λ (l : List ℕ). length l) (split m 64 64 128) ∙ length-append (part 1) (filter m (range_with_len 128 128))
    ∙ ap (λ n. length (part 1) + n) (ap (λ (l : List ℕ). length l) (split m 128 64 64) ∙ length-append (part 2) (part 3))) in
    sym (one_first (m 0) 0 (indices_in words)) ∙ all
    ∙ ap₂ ◌+◌ (block words 0 (fits 0)) (ap₂ ◌+◌ (block words 1 (fits 1)) (ap₂ ◌+◌ (block words 2 (fits 2)) (block words 3 (fits 3))))
