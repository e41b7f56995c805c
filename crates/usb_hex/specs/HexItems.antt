-- Gaps of hexadecimal texts, and what an item of one is.
use Rattle.std.specs.Prelude.{ℕ, ◌==◌, ◌||◌, Bool, List, Option, Some, None, option_map}
use Rattle.usb_text.specs.HexDigits.{byte_of}

-- tab, line feed, carriage return, space or comma
abbrev pub is_gap : ℕ → Bool
is_gap c = (c == 9) || (c == 10) || (c == 13) || (c == 32) || (c == 44)

-- an item at the start of a text: the byte that it is, if it is one, and what is left
abbrev pub Item : Type 0
Item = Option (Option ℕ × List ℕ)

abbrev pub no_byte : List ℕ → Option ℕ × List ℕ
no_byte rest = (None, rest)

abbrev pub digits : ℕ → ℕ → List ℕ → Item
digits c d rest = option_map (λ byte. (Some byte, rest)) (byte_of c d)
