-- Texts in parts, and numbers in digits.
use Rattle.std.specs.Prelude.{ℕ, zero, suc, ◌+◌, ◌-◌, ◌*◌, List, [], ◌∷◌, take, drop, Option, Some, None, option_and_then, nat_lt, if◌then◌else◌}
use Rattle.std.specs.List.{position_or_len}
use Rattle.memchr.specs.Find.{is_byte}
use Rattle.usb_capture.specs.Clocks.{within}

infixl 10 ◌>>=◌
abbrev pub ◌>>=◌ : {A B : Type 0} → Option A → (A → Option B) → Option B
o >>= f = option_and_then f o

-- how many bytes come before the first of this value
unfoldable pub place_of : ℕ → List ℕ → ℕ
place_of byte b = position_or_len (is_byte byte) b

-- what follows the first part of a text, and the byte after it
abbrev pub after_part : ℕ → List ℕ → List ℕ
after_part byte b = drop 1 (drop (place_of byte b) b)

-- what follows the first this many parts, between which this byte stands
unfoldable pub after_parts : ℕ → ℕ → List ℕ → List ℕ
after_parts byte zero b = b
after_parts byte (suc n) b = after_part byte (after_parts byte n b)

-- the part after this many
unfoldable pub part : ℕ → ℕ → List ℕ → List ℕ
part byte n b = take (place_of byte (after_parts byte n b)) (after_parts byte n b)

-- a digit: 0 to 9, a to f
unfoldable pub digit : ℕ → Option ℕ
digit c =
    if nat_lt c 48 then None
    else if nat_lt c 58 then Some (c - 48)
    else if nat_lt c 97 then None
    else if nat_lt c 103 then Some (c - 87)
    else None

-- a number with a digit of this base after it, if 64 bits hold it
unfoldable pub number_with : ℕ → ℕ → ℕ → Option ℕ
number_with base number c = digit c >>= λ d. if nat_lt d base then within (number * base + d) else None

unfoldable pub number_after : ℕ → ℕ → List ℕ → Option ℕ
number_after base number [] = Some number
number_after base number (c ∷ b) = number_with base number c >>= λ n. number_after base n b

-- the number of 64 bits that a text is in digits of this base: one digit at least
unfoldable pub number_in : ℕ → List ℕ → Option ℕ
number_in base [] = None
number_in base (c ∷ b) = number_after base 0 (c ∷ b)

-- the same, if it is below a limit
unfoldable pub number_below : ℕ → ℕ → List ℕ → Option ℕ
number_below base limit b = number_in base b >>= λ n. if nat_lt n limit then Some n else None
