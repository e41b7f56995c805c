-- The value of an offset in hexadecimal digits.
use Rattle.std.proofs.Common.{◌≡◌, ℕ, ◌∷◌, List, Some, None, refl, true, nat_lt, ◌<◌, arith}
use Rattle.std.proofs.lemmas.Bool.{lt-ltb}
use Rattle.hex.specs.Hex.{hex_digit_value}
use Rattle.usb_hex.specs.Columns.{grown, offset_value}

small : (c digit : ℕ) → hex_digit_value c ≡ Some digit → digit < 16
small c digit is = grind arith

-- a digit goes on with the value, and another character ends it
pub value_on : (value c digit : ℕ) (rest : List ℕ) → hex_digit_value c ≡ Some digit
    → offset_value 16 value (c ∷ rest) ≡ offset_value 16 (grown 16 value digit) rest
unfolding offset_value
value_on value c digit rest is =
    let below : nat_lt digit 16 ≡ true = lt-ltb digit 16 (small c digit is) in
    rw (is, below) refl

pub value_ends : (value c : ℕ) (rest : List ℕ) → hex_digit_value c ≡ None → offset_value 16 value (c ∷ rest) ≡ value
unfolding offset_value
value_ends value c rest is = rw is refl
