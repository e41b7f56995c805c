-- Bytes of two hexadecimal digits.
use Rattle.std.specs.Prelude.{ℕ, ◌+◌, ◌*◌, Option, Some, None}
use Rattle.hex.specs.Hex.{hex_digit_value}

-- a byte of its high and its low four bits
abbrev pub joined : Option ℕ → Option ℕ → Option ℕ
joined (Some high) (Some low) = Some (high * 16 + low)
joined (Some high) None = None
joined None low = None

-- the byte of two digits of either case
abbrev pub byte_of : ℕ → ℕ → Option ℕ
byte_of high low = joined (hex_digit_value high) (hex_digit_value low)
