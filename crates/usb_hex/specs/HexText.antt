-- The items of hexadecimal texts, without columns and with them.
--
-- A text is a run of items: white space or a comma, a mark `0x` or `\x`, and two digits, which are a byte. In a text with
-- columns each line has an offset, bytes and maybe their characters (`Columns`). Then only the bytes are read.
use Rattle.std.specs.Prelude.{◌≡◌, ℕ, ◌+◌, ◌%◌, ◌==◌, ◌||◌, ◌&&◌, Bool, false, not, true, if◌then◌else◌, List, [], ◌∷◌, ◌++◌, length, slice_index, Option, Some, None, option_map}
use Rattle.hex.specs.Hex.{is_hex_digit}
use Rattle.usb_hex.specs.Columns.{after_all, after_label, after_one, after_start, at_offset, at_start, begins_zeros, column_form, columns_of, has_columns, has_three_spaces, has_two_spaces, is_blank, is_in_line, is_too_long}
use Rattle.usb_hex.specs.HexItems.{Item, digits, is_gap, no_byte}
use Rattle.usb_hex.specs.Literals.{after_opening, literal_item}
use Rattle.usb_hex.specs.SourceItems.{is_decimal, source_item}
use Rattle.usb_hex.specs.TwoReadings.{has_offset_after, has_two_readings}
use Rattle.usb_hex.specs.declared.hex_text.Form.{Form}
use Rattle.usb_hex.specs.declared.source_item.Style.{Style}
use Rattle.usb_hex.specs.declared.hex_text.Form.TheVariants.{Plain, Words, Colons, Spaces, Rows, Groups, Addresses, Named, Literal, Source}

-- `0x` or `\x`
abbrev pub is_mark : ℕ → ℕ → Bool
is_mark a b = ((a == 48) || (a == 92)) && (b == 120)

-- Two digits are at the start of a text, and no third one: which byte of a longer number is first isn't said.
abbrev pub begins_byte : List ℕ → Bool
begins_byte text = is_hex_digit (slice_index text 0) && is_hex_digit (slice_index text 1) && not (is_hex_digit (slice_index text 2))

-- a digit that is a letter
abbrev pub is_digit_letter : ℕ → Bool
is_digit_letter c = is_hex_digit c && not (is_decimal c)

-- `0x` is at the start of a text
abbrev pub begins_mark : List ℕ → Bool
begins_mark text = (slice_index text 0 == 48) && (slice_index text 1 == 120)

-- letters, blanks and then `0x`, as an assembler has `db 0x12`
abbrev pub begins_directive : List ℕ → Bool
begins_directive text =
    is_digit_letter (slice_index text 0) && begins_mark (after_all is_blank (after_all is_digit_letter text))

-- The form in which a text is read as it is: with columns where it begins with an offset of zeros. None is for one whose
-- columns begin later, nor for an assembler's, whose letters before a mark are no digits.
unfoldable pub form_of : List ℕ → Form
form_of text =
    if begins_zeros text then column_form text
    else if has_columns text || has_two_readings text || begins_directive (at_start text) then Words
    else Plain

-- What is left after the start of a later line, before which are `count` bytes. Without columns none begins with what could be
-- an offset.
abbrev pub at_line : Form → ℕ → List ℕ → Option (List ℕ)
at_line Plain count text = if has_offset_after count text then None else Some text
at_line Words count text = Some text
at_line Colons count text = at_offset count text
at_line Spaces count text = at_offset count text
at_line Rows count text = at_offset count text
at_line Groups count text = at_offset count text
at_line (Addresses base) count text = at_offset (base + count) text
at_line Named count text = Some (after_label text)
at_line (Literal quote) count text = Some text
at_line (Source style) count text = Some text

abbrev pub gap_or : Form → ℕ → ℕ → List ℕ → Item → Item
gap_or form count c rest other =
    if c == 10 then option_map no_byte (at_line form count rest)
    else if is_gap c then Some (None, rest)
    else other

unfoldable pub digits_in : Form → ℕ → ℕ → List ℕ → Item
digits_in form c d rest = if is_too_long form rest then None else digits c d rest

unfoldable pub mark_or_byte : Form → ℕ → List ℕ → Item
mark_or_byte form c [] = None
mark_or_byte form c (d ∷ rest) = if is_mark c d && begins_byte rest then Some (None, rest) else digits_in form c d rest

unfoldable pub plain_item : Form → ℕ → List ℕ → Item
plain_item form count [] = None
plain_item form count (c ∷ rest) = gap_or form count c rest (mark_or_byte form c rest)

abbrev pub is_none : Item → Bool
is_none None = true
is_none (Some item) = false

-- two spaces, after which is nothing that a text without columns has
abbrev pub has_no_item : ℕ → List ℕ → Bool
has_no_item count text = has_two_spaces text && is_none (plain_item Plain count (after_one (after_one text)))

-- The characters of a line's bytes begin here: after two spaces; where those may be between bytes too, after three, at
-- a bar, or where no byte is after the two; after the sixteenth byte of a row.
abbrev pub has_characters : Form → ℕ → List ℕ → Bool
has_characters Plain count text = false
has_characters Words count text = false
has_characters Colons count text = has_two_spaces text
has_characters Spaces count text = (slice_index text 0 == 124) || has_three_spaces text || has_no_item count text
has_characters Rows count text = has_two_spaces text || (is_blank (slice_index text 0) && (count % 16 == 0))
has_characters Groups count text = has_two_spaces text
has_characters (Addresses base) count text = has_two_spaces text
has_characters Named count text = has_three_spaces text
has_characters (Literal quote) count text = false
has_characters (Source style) count text = false

-- the characters of a line are one item, up to its line feed
unfoldable pub line_item : Form → ℕ → List ℕ → Item
line_item form count [] = None
line_item form count (c ∷ rest) =
    if has_characters form count (c ∷ rest) then Some (None, after_all is_in_line rest) else plain_item form count (c ∷ rest)

-- the item of a source, in which no line begins with what could be an offset either
abbrev pub counted_item : Style → ℕ → List ℕ → Item
counted_item style count text =
    if (slice_index text 0 == 10) && has_offset_after count (after_one text) then None else source_item style text

-- the item at the start of a text, after `count` bytes
abbrev pub item : Form → ℕ → List ℕ → Item
item Plain count text = line_item Plain count text
item Colons count text = line_item Colons count text
item Spaces count text = line_item Spaces count text
item Rows count text = line_item Rows count text
item Groups count text = line_item Groups count text
item (Addresses base) count text = line_item (Addresses base) count text
item Named count text = line_item Named count text
item Words count text = None
item (Literal quote) count text = literal_item quote text
item (Source style) count text = counted_item style count text

-- what is left after the start of the first line with bytes
abbrev pub in_line : Form → List ℕ → List ℕ
in_line Plain text = text
in_line Words text = text
in_line Colons text = after_start text (columns_of true text)
in_line Spaces text = after_start text (columns_of true text)
in_line Rows text = after_start text (columns_of true text)
in_line Groups text = after_start text (columns_of true text)
in_line (Addresses base) text = after_start text (columns_of true text)
in_line Named text = after_label text
in_line (Literal quote) text = after_opening text
in_line (Source style) text = text

abbrev pub bytes_of : Option ℕ → List ℕ
bytes_of None = []
bytes_of (Some byte) = byte ∷ []

-- the items at the start of a text after `count` bytes, as many as there are, have these bytes, and this is left
pub data Reads (form : Form) : ℕ → List ℕ → List ℕ → List ℕ → Type 0 where
  ends : {count : ℕ} {text : List ℕ} → item form count text ≡ None → Reads form count text [] text
  goes_on : {count : ℕ} {text rest bytes left : List ℕ} {byte : Option ℕ} → item form count text ≡ Some (byte, rest)
      → Reads form (count + length (bytes_of byte)) rest bytes left → Reads form count text (bytes_of byte ++ bytes) left

-- the column after a text that begins in this one
unfoldable pub column_after : ℕ → List ℕ → ℕ
column_after column [] = column
column_after column (c ∷ rest) = column_after (if c == 10 then 1 else column + 1) rest
