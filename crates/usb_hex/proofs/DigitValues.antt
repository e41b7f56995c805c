-- What the table of digits says.
use Rattle.std.proofs.Common.{◌≡◌, ℕ, ◌<◌, ◌≤◌, ◌==◌, ◌&&◌, Bool, true, Option, Some, None, nat_le, nat_lt, slice_index, refl, ap, arith}
use Rattle.std.proofs.lemmas.Bool.{and_parts, eqb-true, leb-true, ltb-true}
use Rattle.hex.specs.Hex.{hex_digit_value}
use Rattle.usb_hex.specs.HexItems.{is_gap}
use Rattle.usb_hex.specs.declared.hex_digit.TheConstants.{VALUES}
use Rattle.usb_hex.proofs.Sources.{are_same, same}
use Rattle.usb_text.proofs.Printables.{all_below, all_below-at}

abbrev says : ℕ → Option ℕ → Bool
says entry None = nat_le 16 entry
says entry (Some value) = (entry == value) && nat_lt value 16

abbrev agrees : ℕ → Bool
agrees c = says (slice_index VALUES c) (hex_digit_value c)

all_agree : all_below agrees 256 ≡ true
all_agree = refl

said : (c : ℕ) → c < 256 → says (slice_index VALUES c) (hex_digit_value c) ≡ true
said c lt = all_below-at agrees 256 c all_agree lt

pub is_digit : (c : ℕ) → c < 256 → slice_index VALUES c < 16 → Some (slice_index VALUES c) ≡ hex_digit_value c
is_digit c lt below = by (hex_digit_value c) (said c lt)
  where
    by : (v : Option ℕ) → says (slice_index VALUES c) v ≡ true → Some (slice_index VALUES c) ≡ v
    by None e = let above = leb-true 16 (slice_index VALUES c) e in absurd (omega (arith, above, below))
    by (Some value) e =
        ap (λ (v : ℕ). Some v) (eqb-true (slice_index VALUES c) value (and_parts (slice_index VALUES c == value) (nat_lt value 16) e).0)

pub is_no_digit : (c : ℕ) → c < 256 → 16 ≤ slice_index VALUES c → hex_digit_value c ≡ None
is_no_digit c lt above = by (hex_digit_value c) (said c lt)
  where
    by : (v : Option ℕ) → says (slice_index VALUES c) v ≡ true → v ≡ None
    by None e = refl
    by (Some value) e =
        let parts = and_parts (slice_index VALUES c == value) (nat_lt value 16) e in
        let same = eqb-true (slice_index VALUES c) value parts.0 in
        let below = ltb-true value 16 parts.1 in
        absurd (omega (arith, same, below, above))

abbrev agrees_on_gap : ℕ → Bool
agrees_on_gap c = same (slice_index VALUES c == 32) (is_gap c)

all_agree_on_gaps : all_below agrees_on_gap 256 ≡ true
all_agree_on_gaps = refl

pub says_gap : (c : ℕ) → c < 256 → (slice_index VALUES c == 32) ≡ is_gap c
says_gap c lt = are_same (slice_index VALUES c == 32) (is_gap c) (all_below-at agrees_on_gap 256 c all_agree_on_gaps lt)
