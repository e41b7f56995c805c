-- What is between the first bracket of a text and its partner.
use Rattle.std.specs.Prelude.{ℕ, ◌==◌, ◌||◌, ◌&&◌, Bool, false, not, if◌then◌else◌, List, [], ◌∷◌, slice_index, Option, Some, None}
use Rattle.std.specs.List.{list_any}
use Rattle.hex.specs.Hex.{is_hex_digit}
use Rattle.usb_hex.specs.Columns.{after_all, has_bytes}
use Rattle.usb_hex.specs.Labels.{begins_two_digits}
use Rattle.usb_hex.specs.SourceItems.{begins_word, is_of_word}
use Rattle.usb_hex.specs.declared.bracket.Bracket.{Bracket}
use Rattle.usb_hex.specs.declared.bracket.Bracket.TheVariants.{Curly, Square}
use Rattle.usb_hex.specs.declared.bracket.Side.{Side}
use Rattle.usb_hex.specs.declared.bracket.Side.TheVariants.{Declared, Before, Within, After}

abbrev pub has : ℕ → List ℕ → Bool
has character text = list_any (λ c. c == character) text

-- the brackets of a text are braces where it has one, and else square brackets
abbrev pub bracket_of : List ℕ → Option Bracket
bracket_of text =
    if has 123 text then Some Curly
    else if has 91 text then Some Square
    else None

abbrev pub opening : Bracket → ℕ
opening Curly = 123
opening Square = 91

abbrev pub closing : Bracket → ℕ
closing Curly = 125
closing Square = 93

-- Where a text begins. Square brackets may be of a type, as in `[u8; 18]`, so that they count from an equals sign on.
abbrev pub first_side : Bracket → List ℕ → Side
first_side Curly text = Before
first_side Square text = if has 61 text then Declared else Before

abbrev pub next_side : Bracket → Side → ℕ → Side
next_side bracket Declared c = if c == 61 then Before else Declared
next_side bracket Before c = if c == opening bracket then Within else Before
next_side bracket Within c = if c == closing bracket then After else Within
next_side bracket After c = After

abbrev pub is_between_words : ℕ → Bool
is_between_words c = not (is_of_word c)

-- `0x`, or two digits or more with which a word ends
abbrev pub begins_digits : List ℕ → Bool
begins_digits text =
    ((slice_index text 0 == 48) && (slice_index text 1 == 120))
    || (begins_two_digits text && not (begins_word (after_all is_hex_digit text)))

-- Bytes are after the partner of the first bracket, which may have their count or a name: the next word is one, or two words of
-- the line are.
abbrev pub precedes_bytes : List ℕ → Bool
precedes_bytes text = begins_digits (after_all is_between_words text) || has_bytes text

-- The character is read: what is between the first bracket and its partner; and what begins no byte, so that the text is refused:
-- the partner, where bytes are after it, and a second bracket, as of two arrays.
abbrev pub is_read : Bracket → Side → ℕ → List ℕ → Bool
is_read bracket Declared c rest = false
is_read bracket Before c rest = false
is_read bracket Within c rest = not (c == closing bracket) || precedes_bytes rest
is_read bracket After c rest = c == opening bracket

-- a line feed stays one, and else a space is in place of what isn't read
abbrev pub shown : Bracket → Side → ℕ → List ℕ → ℕ
shown bracket side c rest = if (c == 10) || is_read bracket side c rest then c else 32

-- a text of which so much is read
unfoldable pub within : Bracket → Side → List ℕ → List ℕ
within bracket side [] = []
within bracket side (c ∷ rest) = shown bracket side c rest ∷ within bracket (next_side bracket side c) rest
