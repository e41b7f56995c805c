-- Numbers in words.
use Rattle.std.specs.Prelude.{ℕ, List, [], ◌∷◌, ◌++◌, ◌/◌, ◌%◌, nat_lt, ◌==◌, drop, codes, if◌then◌else◌}
use Rattle.std.specs.Fmt.{decimal}
use Rattle.hex.specs.Hex.{encode_lower}
use Rattle.usb_fields.specs.Bytes.{big_endian}

-- a number and what it counts: `1 byte`, `2 bytes`
unfoldable pub count : ℕ → List ℕ → List ℕ
count n noun = decimal n ++ codes " " ++ noun ++ (if n == 1 then [] else codes "s")

-- a code of one byte: `0x` and two digits
unfoldable pub byte_code : ℕ → List ℕ
byte_code n = codes "0x" ++ encode_lower (n ∷ [])

-- a code of two bytes: `0x` and four digits
unfoldable pub word_code : ℕ → List ℕ
word_code n = codes "0x" ++ encode_lower (big_endian n)

-- two hexadecimal digits without a leading zero
abbrev pub short_byte : ℕ → List ℕ
short_byte n = if nat_lt n 16 then drop 1 (encode_lower (n ∷ [])) else encode_lower (n ∷ [])

-- A release in binary coded decimal, as bcdUSB (USB 2.0, 9.6.1): the high byte without a leading zero, a point, and the
-- two digits of the low byte
unfoldable pub release : ℕ → List ℕ
release n = short_byte (n / 256) ++ codes "." ++ encode_lower (n % 256 ∷ [])

-- what a number means, after it in parentheses
abbrev pub meaning : List ℕ → List ℕ
meaning words = codes " (" ++ words ++ codes ")"
