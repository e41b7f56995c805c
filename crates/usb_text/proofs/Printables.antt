-- Text that has only bytes that a line may have.
use Rattle.std.proofs.Common.{◌≡◌, ℕ, zero, suc, ◌/◌, ◌%◌, ◌<◌, ◌==◌, ◌&&◌, ◌||◌, not, Bool, true, false, cond, List, [], ◌∷◌, ◌++◌, slice_index, inl, inr, refl, ◌∙◌, arith}
use Rattle.std.specs.List.{list_all}
use Rattle.std.proofs.lemmas.Bool.{and_parts, cases_lt}
use Rattle.std.proofs.lemmas.List.Folds.{list_all-append}
use Rattle.hex.specs.Hex.{encode_lower, encode_with, lower_digits}
use Rattle.usb_fields.specs.Bytes.{AreBytes}
use Rattle.usb_text.specs.Characters.{is_plain, two_bytes, written_unit}
use Rattle.usb_text.specs.Lines.{is_printable}

-- a test of the numbers below n, which computes
abbrev pub all_below : (ℕ → Bool) → ℕ → Bool
all_below p zero = true
all_below p (suc n) = p n && all_below p n

pub all_below-at : (p : ℕ → Bool) (n k : ℕ) → all_below p n ≡ true → k < n → p k ≡ true
all_below-at p zero k h lt = absurd (omega arith)
all_below-at p (suc n) k h lt =
    let parts = and_parts (p n) (all_below p n) h in
    elim (cases_lt k n) [ inl below ↦ all_below-at p n k parts.1 below | inr top ↦ let e : k ≡ n = omega arith in rw e parts.0 ]

abbrev pub high_digit : ℕ → ℕ
high_digit b = slice_index lower_digits (b / 16)

abbrev pub low_digit : ℕ → ℕ
low_digit b = slice_index lower_digits (b % 16)

abbrev pub Printable : List ℕ → Type 0
Printable line = list_all is_printable line ≡ true

pub both : (a b : Bool) → a ≡ true → b ≡ true → (a && b) ≡ true
both a b ea eb = rw (ea, eb) refl

pub joined : (xs ys : List ℕ) → Printable xs → Printable ys → Printable (xs ++ ys)
joined xs ys hx hy = list_all-append is_printable xs ys ∙ both (list_all is_printable xs) (list_all is_printable ys) hx hy

abbrev digit_prints : ℕ → Bool
digit_prints d = is_printable (slice_index lower_digits d)

all_print : all_below digit_prints 16 ≡ true
all_print = refl

digit_printable : (d : ℕ) → d < 16 → is_printable (slice_index lower_digits d) ≡ true
digit_printable d lt = all_below-at digit_prints 16 d all_print lt

pub digits_printable : (b : ℕ) (rest : List ℕ) → b < 256 → Printable rest → Printable (high_digit b ∷ low_digit b ∷ rest)
digits_printable b rest lt h = both _ _ (digit_printable (b / 16) (omega arith)) (both _ _ (digit_printable (b % 16) (omega arith)) h)

pub encoded_printable : (bytes : List ℕ) → AreBytes bytes → Printable (encode_lower bytes)
unfolding encode_with
encoded_printable [] h = refl
encoded_printable (b ∷ bytes) h = digits_printable b (encode_lower bytes) h.0 (encoded_printable bytes h.1)

pub two_fit : (u : ℕ) → u < 65536 → AreBytes (two_bytes u)
two_fit u lt = (omega arith, (omega arith, tt))

pub unit_printable : (u : ℕ) → u < 65536 → Printable (written_unit u)
unfolding written_unit
unit_printable u lt = cases (is_plain u) refl
  where
    cases : (p : Bool) → is_plain u ≡ p → Printable (cond p (u ∷ []) (92 ∷ encode_lower (two_bytes u)))
    cases true ep = both _ _ (and_parts (is_printable u) (not ((u == 34) || (u == 92))) ep).0 refl
    cases false ep = encoded_printable (two_bytes u) (two_fit u lt)
