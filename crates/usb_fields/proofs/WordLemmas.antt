-- The words of marks: a bit for each number.
use Rattle.std.proofs.Common.{◌≡◌, ℕ, zero, suc, ◌+◌, ◌-◌, ◌*◌, ◌/◌, ◌%◌, ◌^◌, ◌<◌, ◌≤◌, ◌==◌, ◌||◌, List, [], ◌∷◌, Bool, true, false, length, refl, ap, sym, ◌∙◌, arith, get_or, replicate, inl, inr, ◌⊎◌, subst, w64}
use Rattle.std.specs.Prelude.{slice_set, slice_index_or, not}
use Rattle.std.specs.Int.{bit_at, bit_not, trailing_ones}
use Rattle.std.specs.Int.RustNames.{bit_or}
use Rattle.std.proofs.lemmas.Bool.{cases_eq, cases_lt}
use Rattle.std.proofs.lemmas.Bool.Decides.{nat_tests}
use Rattle.std.proofs.lemmas.Grind.{get_or-set_at}
use Rattle.std.proofs.lemmas.List.{get_or-set_other}
use Rattle.std.proofs.lemmas.Nat.{shr_le, trailing_le}
use Rattle.std.proofs.lemmas.Nat.Bits.{bit_at-zero, bit_at_not, bit_at_set_same, bit_at_set_other, bit_at-trailing_ones, bit_at_ones, bit_at_above, bit_at-lt}
use Rattle.std.specs.Int.Count.{count_trailing_zeros, trailing_of_zero}
use lib.ListN.{get_or-eq_default}
use lib.Pow.{shr-shr}
use Rattle.usb_fields.specs.Marks.{marked, is_marked}

zero_word : (n k : ℕ) → ◌≡◌ {A = ℕ} (get_or (replicate n 0) k 0) 0
zero_word zero k = refl
zero_word (suc n) zero = refl
zero_word (suc n) (suc k) = zero_word n k

pub none_in : (n k : ℕ) → is_marked (replicate n 0) k ≡ false
unfolding is_marked
none_in n k = ap (λ word. bit_at word (k % 64) == 1) (zero_word n (k / 64)) ∙ ap (λ bit. bit == 1) (bit_at-zero (k % 64))

-- a word with one bit more
abbrev pub word_with : List ℕ → ℕ → ℕ
word_with words n = bit_or (slice_index_or words (n / 64) 0) (1 * 2 ^ (n % 64) % 2 ^ 64)

same_number : (n k : ℕ) (b : Bool) → k ≡ n → true ≡ ((n == k) || b)
same_number n k b same = grind (arith, nat_tests)

other_number : (n k : ℕ) (b : Bool) → (k ≡ n → ⊥) → b ≡ ((n == k) || b)
other_number n k b other = grind (arith, nat_tests)

pub set_bit : (words : List ℕ) (n k : ℕ) → n / 64 < length words → is_marked (slice_set words (n / 64) (word_with words n)) k ≡ marked (is_marked words) n k
unfolding is_marked marked
set_bit words n k h =
    elim (cases_eq (k / 64) (n / 64)) [
      | inl high ↦
          ap (λ word. bit_at word (k % 64) == 1) (get_or-set_at words (n / 64) (k / 64) (word_with words n) 0 high h)
          ∙ elim (cases_eq (k % 64) (n % 64)) [
            | inl low ↦
                ap (λ i. bit_at (word_with words n) i == 1) low
                ∙ ap (λ bit. bit == 1) (bit_at_set_same w64 (slice_index_or words (n / 64) 0) (n % 64) (omega arith))
                ∙ same_number n k _ (omega (arith, high, low))
            | inr low ↦
                ap (λ bit. bit == 1) (bit_at_set_other w64 (slice_index_or words (n / 64) 0) (n % 64) (omega arith) (k % 64) low)
                ∙ ap (λ i. bit_at (slice_index_or words i 0) (k % 64) == 1) (sym high)
                ∙ other_number n k _ (λ same. low (ap (λ m. m % 64) same))
          ]
      | inr high ↦
          ap (λ word. bit_at word (k % 64) == 1) (get_or-set_other words (n / 64) (k / 64) (word_with words n) 0 high)
          ∙ other_number n k _ (λ same. high (ap (λ m. m / 64) same))
    ]

-- ---- the run of ones at the low end of a word

run_ones : (n i : ℕ) → n < 2 ^ 64 → i < trailing_ones w64 n → bit_at n i ≡ 1
run_ones n i small h =
    elim (cases_lt (n + 1) (2 ^ 64)) [
      | inl below ↦ (bit_at-trailing_ones w64 n below).2 i h
      | inr all ↦
          let whole : n ≡ 2 ^ 64 - 1 = omega (arith, small, all) in
          ap (λ m. bit_at m i) whole ∙ bit_at_ones 64 i (omega (arith, h, trailing_le 64 (bit_not w64 n)))
    ]

no_ones : (n : ℕ) → n < 2 ^ 64 → trailing_ones w64 n ≡ 0 → bit_at n 0 ≡ 0
no_ones n small none =
    elim (cases_lt (n + 1) (2 ^ 64)) [
      | inl below ↦ ap (bit_at n) (sym none) ∙ (bit_at-trailing_ones w64 n below).1
      | inr all ↦
          let whole : bit_not w64 n ≡ 0 = omega (arith, small, all) in
          let many = ap (count_trailing_zeros 64) whole ∙ trailing_of_zero 64 in
          absurd (omega (arith, none, many))
    ]

-- the bit of a number in its word, moved down
in_word : (word place i : ℕ) → bit_at (word / 2 ^ place) i ≡ bit_at word (place + i)
in_word word place i = ap (λ w. w % 2) (shr-shr word place i)

shr-lt : (word place : ℕ) → word < 2 ^ 64 → word / 2 ^ place < 2 ^ 64
shr-lt word place small = omega (arith, small, shr_le word place)

-- the numbers of a run
run_marked : (words : List ℕ) (from n : ℕ) → slice_index_or words (from / 64) 0 < 2 ^ 64
    → from ≤ n → n < from + trailing_ones w64 (slice_index_or words (from / 64) 0 / 2 ^ (from % 64)) → is_marked words n ≡ true
unfolding is_marked
run_marked words from n small least most =
    let word = slice_index_or words (from / 64) 0 in
    let low = from % 64 in
    let one : bit_at word (low + (n - from)) ≡ 1 =
    sym (in_word word low (n - from)) ∙ run_ones (word / 2 ^ low) (n - from) (shr-lt word low small) (omega (arith, least, most)) in
    let within : low + (n - from) < 64 =
    elim (cases_lt (low + (n - from)) 64) [
      | inl below ↦ below
      | inr above ↦ let none = bit_at_above word 64 (low + (n - from)) small above in absurd (omega (arith, one, none))
    ] in
    let high : from / 64 ≡ n / 64 = omega (arith, least, within) in
    let place : low + (n - from) ≡ n % 64 = omega (arith, least, within) in
    ap (λ i. bit_at (slice_index_or words i 0) (n % 64) == 1) (sym high) ∙ ap (λ i. bit_at word i == 1) (sym place) ∙ ap (λ bit. bit == 1) one

-- no number has a word of its own from the last on
none_from : (words : List ℕ) (n : ℕ) → length words ≤ n / 64 → is_marked words n ≡ false
unfolding is_marked
none_from words n h = ap (λ word. bit_at word (n % 64) == 1) (get_or-eq_default words 0 h) ∙ ap (λ bit. bit == 1) (bit_at-zero (n % 64))

not_marked : (words : List ℕ) (n : ℕ) → slice_index_or words (n / 64) 0 < 2 ^ 64
    → trailing_ones w64 (slice_index_or words (n / 64) 0 / 2 ^ (n % 64)) ≡ 0 → is_marked words n ≡ false
unfolding is_marked
not_marked words n small none =
    let word = slice_index_or words (n / 64) 0 in
    let same : n % 64 ≡ n % 64 + 0 = omega arith in
    ap (λ bit. bit == 1) (ap (bit_at word) same ∙ sym (in_word word (n % 64) 0) ∙ no_ones (word / 2 ^ (n % 64)) (shr-lt word (n % 64) small) none)

-- ---- a step of the search

-- all numbers up to the end of a run are marked
pub runs_on : (words : List ℕ) (from at word ones : ℕ) → word ≡ slice_index_or words (at / 64) 0 → word < 2 ^ 64 → ones ≡ trailing_ones w64 (word / 2 ^ (at % 64))
    → ((n : ℕ) → from ≤ n → n < at → is_marked words n ≡ true) → (n : ℕ) → from ≤ n → n < at + ones → is_marked words n ≡ true
runs_on words from at word ones is small ones_are before n least most =
    let many = ones_are ∙ ap (λ w. trailing_ones w64 (w / 2 ^ (at % 64))) is in
    elim (cases_lt n at) [
      | inl earlier ↦ before n least earlier
      | inr later ↦ run_marked words at n (subst (λ w. w < 2 ^ 64) is small) later (omega (arith, most, many))
    ]

-- where none is marked, or the words end, the number isn't marked
pub ends_at : (words : List ℕ) (at word ones : ℕ) → length words ≡ 4 → word ≡ slice_index_or words (at / 64) 0 → word < 2 ^ 64
    → ones ≡ trailing_ones w64 (word / 2 ^ (at % 64)) → (ones ≡ 0) ⊎ (255 < at + ones) → is_marked words (at + ones) ≡ false
ends_at words at word ones long is small ones_are (inl none) =
    let same : at ≡ at + ones = omega (arith, none) in
    ap (is_marked words) (sym same)
    ∙ not_marked words at (subst (λ w. w < 2 ^ 64) is small) (sym (ap (λ w. trailing_ones w64 (w / 2 ^ (at % 64))) is) ∙ sym ones_are ∙ none)
ends_at words at word ones long is small ones_are (inr end) = none_from words (at + ones) (omega (arith, long, end))

-- ---- the words of the other numbers

other_bit : (bit : ℕ) → bit < 2 → (1 - bit == 1) ≡ not (bit == 1)
other_bit bit h = grind (arith, nat_tests)

in_other : (others words : List ℕ) (word n i : ℕ) → n / 64 ≡ i → get_or others i 0 ≡ bit_not w64 word → word ≡ get_or words i 0 → word < 2 ^ 64
    → is_marked others n ≡ not (is_marked words n)
unfolding is_marked
in_other others words word n i high turned is small =
    ap (λ k. bit_at (get_or others k 0) (n % 64) == 1) high
    ∙ ap (λ w. bit_at w (n % 64) == 1) turned
    ∙ ap (λ bit. bit == 1) (bit_at_not w64 word (n % 64) small (omega arith))
    ∙ other_bit (bit_at word (n % 64)) (bit_at-lt word (n % 64))
    ∙ ap (λ w. not (bit_at w (n % 64) == 1)) is
    ∙ ap (λ k. not (bit_at (get_or words k 0) (n % 64) == 1)) (sym high)

pub other_numbers : (words : List ℕ) (a b c d n : ℕ) → a ≡ get_or words 0 0 → b ≡ get_or words 1 0 → c ≡ get_or words 2 0 → d ≡ get_or words 3 0
    → a < 2 ^ 64 → b < 2 ^ 64 → c < 2 ^ 64 → d < 2 ^ 64 → n < 256
    → is_marked (bit_not w64 a ∷ bit_not w64 b ∷ bit_not w64 c ∷ bit_not w64 d ∷ []) n ≡ not (is_marked words n)
other_numbers words a b c d n is_a is_b is_c is_d small_a small_b small_c small_d most =
    let others : List ℕ = bit_not w64 a ∷ bit_not w64 b ∷ bit_not w64 c ∷ bit_not w64 d ∷ [] in
    elim (cases_lt n 64) [
      | inl first ↦ in_other others words a n 0 (omega (arith, first)) refl is_a small_a
      | inr past ↦
          elim (cases_lt n 128) [
            | inl second ↦ in_other others words b n 1 (omega (arith, past, second)) refl is_b small_b
            | inr further ↦
                elim (cases_lt n 192) [
                  | inl third ↦ in_other others words c n 2 (omega (arith, further, third)) refl is_c small_c
                  | inr last ↦ in_other others words d n 3 (omega (arith, last, most)) refl is_d small_d
                ]
          ]
    ]
