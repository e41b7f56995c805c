-- On lower-case hexadecimal digits.
use Rattle.std.proofs.Common.{◌≡◌, ℕ, ◌+◌, ◌*◌, ◌/◌, ◌%◌, ◌<◌, ◌≤◌, ◌==◌, ◌&&◌, Bool, true, ltb, slice_index, Option, Some, None, unwrap_or, inl, inr, refl, sym, ap, subst, ◌∙◌, arith}
use Rattle.std.proofs.lemmas.Bool.{and_parts, cases_lt, eqb-true, ltb-true}
use Rattle.hex.specs.Hex.{lower_digits}
use Rattle.usb_text.proofs.Printables.{all_below, all_below-at}
use Rattle.usb_listing.specs.declared.fields.TheConstants.{VALUES}
use Rattle.usb_listing.specs.inside.Fields.{digit_value, pair_value, value_or}
use Rattle.usb_text.specs.HexDigits.{joined}

-- what a character and its value have to do with one another
abbrev digit_test : ℕ → Option ℕ → Bool
digit_test c None = true
digit_test c (Some d) = ltb d 16 && (slice_index lower_digits d == c)

abbrev tests_well : ℕ → Bool
tests_well c = digit_test c (digit_value c)

all_test_well : all_below tests_well 128 ≡ true
unfolding digit_value
all_test_well = refl

no_digit_above : (c d : ℕ) → 128 ≤ c → digit_value c ≡ Some d → ⊥
unfolding digit_value
no_digit_above c d h e = grind arith

is_some_value : (d : ℕ) (o : Option ℕ) → d < 16 → unwrap_or o 99 ≡ d → o ≡ Some d
is_some_value d (Some v) lt e = ap Some e
is_some_value d None lt e = absurd (omega arith)

-- a digit that was read
pub record Digit (c d : ℕ) : Type 0 where
  pub small : d < 16
  pub is_char : slice_index lower_digits d ≡ c

pub digit_read : (c d : ℕ) → digit_value c ≡ Some d → Digit c d
digit_read c d e =
    elim (cases_lt c 128) [
      | inl below ↦
          let t : digit_test c (Some d) ≡ true = subst (λ o. digit_test c o ≡ true) e (all_below-at tests_well 128 c all_test_well below) in
          let q = and_parts (ltb d 16) (slice_index lower_digits d == c) t in
          record { small = ltb-true d 16 q.0; is_char = eqb-true _ _ q.1 }
      | inr above ↦ absurd (no_digit_above c d above e)
    ]

-- the digit of a value reads as the value
abbrev reads_again : ℕ → Bool
reads_again d = unwrap_or (digit_value (slice_index lower_digits d)) 99 == d

all_read_again : all_below reads_again 16 ≡ true
unfolding digit_value
all_read_again = refl

pub digit_again : (d : ℕ) → d < 16 → digit_value (slice_index lower_digits d) ≡ Some d
digit_again d lt = is_some_value d (digit_value (slice_index lower_digits d)) lt (eqb-true _ _ (all_below-at reads_again 16 d all_read_again lt))

-- ---- pairs

-- a pair that was read
pub record Pair (high low b : ℕ) : Type 0 where
  pub byte : b < 256
  pub is_high : slice_index lower_digits (b / 16) ≡ high
  pub is_low : slice_index lower_digits (b % 16) ≡ low
  pub value : (h : ℕ) × (l : ℕ) × (digit_value high ≡ Some h) × (digit_value low ≡ Some l) × (b ≡ h * 16 + l)

pub pair_read : (high low b : ℕ) → pair_value high low ≡ Some b → Pair high low b
pair_read high low b e = cases (digit_value high) (digit_value low) refl refl e
  where
    cases : (h l : Option ℕ) → digit_value high ≡ h → digit_value low ≡ l → joined h l ≡ Some b → Pair high low b
    cases None l eh el e = cc
    cases (Some h) None eh el e = cc
    cases (Some h) (Some l) eh el e =
        let dh = digit_read high h eh in
        let dl = digit_read low l el in
        let is : b ≡ h * 16 + l = cc in
        let hs = dh.small in
        let ls = dl.small in
        let top : h ≡ b / 16 = omega arith in
        let bottom : l ≡ b % 16 = omega arith in
        record {
          byte = omega arith;
          is_high = ap (slice_index lower_digits) (sym top) ∙ dh.is_char;
          is_low = ap (slice_index lower_digits) (sym bottom) ∙ dl.is_char;
          value = (h, l, eh, el, is);
        }

pub pair_again : (b : ℕ) → b < 256 → pair_value (slice_index lower_digits (b / 16)) (slice_index lower_digits (b % 16)) ≡ Some b
pair_again b lt =
    let high : b / 16 < 16 = omega arith in
    let low : b % 16 < 16 = omega arith in
    let whole : b / 16 * 16 + b % 16 ≡ b = omega arith in
    rw (digit_again (b / 16) high, digit_again (b % 16) low) (ap Some whole)

-- ---- the table

-- what the table says of a byte
abbrev table_agrees : ℕ → Bool
table_agrees c = slice_index VALUES c == value_or c

all_agree : all_below table_agrees 256 ≡ true
unfolding digit_value
all_agree = refl

pub table_is : (c : ℕ) → c < 256 → slice_index VALUES c ≡ value_or c
table_is c lt = eqb-true _ _ (all_below-at table_agrees 256 c all_agree lt)

pub value_most : (c : ℕ) → value_or c ≤ 256
value_most c = cases (digit_value c) refl
  where
    cases : (o : Option ℕ) → digit_value c ≡ o → unwrap_or o 256 ≤ 256
    cases None e = omega arith
    cases (Some d) e = let small = (digit_read c d e).small in omega (arith, small)

-- two that are below 256 together are digits
pub pair_small : (high low : ℕ) → value_or high * 16 + value_or low < 256 → Some (value_or high * 16 + value_or low) ≡ pair_value high low
pair_small high low lt = cases (digit_value high) (digit_value low) lt
  where
    cases : (h l : Option ℕ) → unwrap_or h 256 * 16 + unwrap_or l 256 < 256 → Some (unwrap_or h 256 * 16 + unwrap_or l 256) ≡ joined h l
    cases None l lt = absurd (omega arith)
    cases (Some h) None lt = absurd (omega arith)
    cases (Some h) (Some l) lt = refl

pub pair_large : (high low : ℕ) → 256 ≤ value_or high * 16 + value_or low → None ≡ pair_value high low
pair_large high low le = cases (digit_value high) (digit_value low) refl refl le
  where
    cases : (h l : Option ℕ) → digit_value high ≡ h → digit_value low ≡ l → 256 ≤ unwrap_or h 256 * 16 + unwrap_or l 256 → None ≡ joined h l
    cases None l eh el le = refl
    cases (Some h) None eh el le = refl
    cases (Some h) (Some l) eh el le =
        let hs = (digit_read high h eh).small in
        let ls = (digit_read low l el).small in
        absurd (omega (arith, hs, ls, le))
