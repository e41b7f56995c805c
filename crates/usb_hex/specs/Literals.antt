-- Literals of Python and Rust, as `b'\x12\x01 @'`, in which a printable character is its own byte.
use Rattle.std.specs.Prelude.{ℕ, ◌==◌, ◌||◌, ◌&&◌, Bool, false, not, if◌then◌else◌, List, [], ◌∷◌, slice_index, Option, Some, None, option_map}
use Rattle.usb_hex.specs.Columns.{after_all, after_one, at_start}
use Rattle.usb_hex.specs.HexItems.{Item, digits}
use Rattle.usb_hex.specs.Labels.{ends_declaration}
use Rattle.usb_text.specs.Lines.{is_printable}
use Rattle.usb_hex.specs.SourceItems.{byte_before, closing_item, is_decimal, is_of_word, is_quote}

-- ---- where a literal begins

-- `b'\`
abbrev pub begins_literal : List ℕ → Bool
begins_literal text = (slice_index text 0 == 98) && is_quote (slice_index text 1) && (slice_index text 2 == 92)

-- the text from the quote of its literal on; before that is a declaration, a call or nothing
unfoldable pub literal_in : Bool → List ℕ → Option (List ℕ)
literal_in named [] = None
literal_in named (c ∷ rest) =
    if begins_literal (c ∷ rest) && not named then Some rest
    else if ends_declaration c || is_quote c then None
    else literal_in (is_of_word c) rest

-- the same of a text that begins with no number
abbrev pub literal_of : List ℕ → Option (List ℕ)
literal_of text = if is_decimal (slice_index (at_start text) 0) then None else literal_in false (at_start text)

abbrev pub after_quote : List ℕ → Option (List ℕ) → List ℕ
after_quote text None = text
after_quote text (Some literal) = after_one literal

abbrev pub after_opening : List ℕ → List ℕ
after_opening text = after_quote text (literal_of text)

-- ---- what is in it

-- the byte of an escape of one letter
abbrev pub escaped : ℕ → Option ℕ
escaped c =
    if c == 48 then Some 0
    else if c == 110 then Some 10
    else if c == 114 then Some 13
    else if c == 116 then Some 9
    else if (c == 92) || is_quote c then Some c
    else None

abbrev pub hex_escape : List ℕ → Item
hex_escape [] = None
hex_escape (c ∷ []) = None
hex_escape (c ∷ d ∷ rest) = digits c d rest

-- The byte after a backslash. A zero before a digit is octal in one language and not in the other.
abbrev pub literal_escape : List ℕ → Item
literal_escape [] = None
literal_escape (c ∷ rest) =
    if c == 120 then hex_escape rest
    else if (c == 48) && is_decimal (slice_index rest 0) then None
    else option_map (byte_before rest) (escaped c)

abbrev pub is_space : ℕ → Bool
is_space c = (c == 9) || (c == 10) || (c == 13) || (c == 32)

-- what is left after `b` and this quote
abbrev pub reopened : ℕ → List ℕ → Option (List ℕ)
reopened quote [] = None
reopened quote (b ∷ []) = None
reopened quote (b ∷ c ∷ rest) = if (b == 98) && (c == quote) then Some rest else None

abbrev pub item_after : List ℕ → Option (List ℕ) → Item
item_after rest None = closing_item rest
item_after rest (Some literal) = Some (None, literal)

-- after a literal: one more after white space, or the end of a call
abbrev pub after_literal : ℕ → List ℕ → Item
after_literal quote rest = item_after rest (reopened quote (after_all is_space rest))

unfoldable pub literal_item : ℕ → List ℕ → Item
literal_item quote [] = None
literal_item quote (c ∷ rest) =
    if c == quote then after_literal quote rest
    else if c == 92 then literal_escape rest
    else if is_printable c then Some (Some c, rest)
    else None
