-- Texts with as many digits in a row as an offset has.
use Rattle.std.specs.Prelude.{ℕ, ◌||◌, ◌&&◌, Bool, false, List, [], ◌∷◌, slice_index}
use Rattle.hex.specs.Hex.{is_hex_digit}

-- four digits are next to each other
unfoldable pub has_run : List ℕ → Bool
has_run [] = false
has_run (c ∷ rest) =
    (is_hex_digit c && is_hex_digit (slice_index rest 0) && is_hex_digit (slice_index rest 1) && is_hex_digit (slice_index rest 2))
    || has_run rest
