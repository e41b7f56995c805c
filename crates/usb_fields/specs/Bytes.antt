-- Bytes, and the fields of two bytes (USB 2.0, 8.1).
use Rattle.std.specs.Prelude.{ℕ, ◌+◌, ◌*◌, ◌/◌, ◌%◌, ◌<◌, List, [], ◌∷◌, slice_index}
use Rattle.std.specs.List.{AllByRecursion}

-- a number that one byte holds
abbrev pub IsByte : ℕ → Type 0
IsByte x = x < 256

-- each of these numbers is a byte
abbrev pub AreBytes : List ℕ → Type 0
AreBytes b = AllByRecursion IsByte b

-- the two bytes of a 16-bit number, the low byte first
abbrev pub little_endian : ℕ → List ℕ
little_endian n = n % 256 ∷ n / 256 ∷ []

-- the same two bytes, the high one first
abbrev pub big_endian : ℕ → List ℕ
big_endian n = n / 256 ∷ n % 256 ∷ []

-- the 16-bit number whose low byte stands at this place
abbrev pub little_endian_at : List ℕ → ℕ → ℕ
little_endian_at b at = slice_index b at + 256 * slice_index b (at + 1)
