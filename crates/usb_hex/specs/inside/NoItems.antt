-- Texts that begin with no item of a text without columns.
use Rattle.std.specs.Prelude.{ℕ, ◌==◌, ◌||◌, Bool, not, true, List, [], ◌∷◌}
use Rattle.hex.specs.Hex.{is_hex_digit}
use Rattle.usb_hex.specs.Columns.{after_all}
use Rattle.usb_hex.specs.HexItems.{is_gap}

-- neither a digit nor a backslash is at the start of a text
abbrev pub begins_nothing : List ℕ → Bool
begins_nothing [] = true
begins_nothing (c ∷ rest) = not (is_hex_digit c || (c == 92))

-- the same after all gaps
abbrev pub begins_no_item : List ℕ → Bool
begins_no_item text = begins_nothing (after_all is_gap text)
