-- The columns of a text that has them: on each line an offset, bytes and maybe their characters.
--
-- An offset is four digits or more. It is zero where the text begins, as `xxd`, `hexdump -C`, `od`, `objdump -s` and
-- Wireshark have it, or an address before a colon, as a debugger has it. Each other one is the count of the bytes before it.
use Rattle.std.specs.Prelude.{ℕ, ◌+◌, ◌*◌, ◌==◌, ◌||◌, ◌&&◌, Bool, false, not, zero, suc, nat_le, nat_lt, true, if◌then◌else◌, List, [], ◌∷◌, length, slice_index, Option, Some, None}
use Rattle.hex.specs.Hex.{hex_digit_value, is_hex_digit}
use Rattle.usb_text.specs.HexDigits.{byte_of}
use Rattle.usb_hex.specs.HexItems.{is_gap}
use Rattle.usb_hex.specs.declared.hex_text.Form.{Form}
use Rattle.usb_hex.specs.declared.hex_text.Form.TheVariants.{Plain, Words, Colons, Spaces, Rows, Groups, Addresses, Named, Literal, Source}

-- three back quotes
abbrev pub is_fence : ℕ → List ℕ → Bool
is_fence c rest = (c == 96) && (slice_index rest 0 == 96) && (slice_index rest 1 == 96)

-- a byte of UTF-8's byte order mark
abbrev pub is_order_mark : ℕ → Bool
is_order_mark c = (c == 239) || (c == 187) || (c == 191)

-- white space in a line, and what may be before a line in a mail
abbrev pub is_before_line : ℕ → Bool
is_before_line c = (c == 9) || (c == 32) || (c == 62) || is_order_mark c

abbrev pub is_zero : ℕ → Bool
is_zero c = c == 48

-- a space or a tab
abbrev pub is_blank : ℕ → Bool
is_blank c = (c == 32) || (c == 9)

abbrev pub is_in_line : ℕ → Bool
is_in_line c = not (c == 10)

abbrev pub is_in_name : ℕ → Bool
is_in_name c = not ((c == 10) || (c == 62))

-- what is left after all leading characters of a kind
unfoldable pub after_all : (ℕ → Bool) → List ℕ → List ℕ
after_all is [] = []
after_all is (c ∷ rest) = if is c then after_all is rest else c ∷ rest

-- what is left after the first character
abbrev pub after_one : List ℕ → List ℕ
after_one [] = []
after_one (c ∷ rest) = rest

-- ---- offsets

-- four characters or more were before what is left of a text
abbrev pub is_offset : List ℕ → List ℕ → Bool
is_offset text rest = nat_le (4 + length rest) (length text)

-- what is left after `0x`, if that is there
abbrev pub after_mark : List ℕ → List ℕ
after_mark text = if (slice_index text 0 == 48) && (slice_index text 1 == 120) then after_one (after_one text) else text

-- what is left after the name of an address, as in ` <name+8>`
abbrev pub after_name : List ℕ → List ℕ
after_name text =
    if (slice_index text 0 == 32) && (slice_index text 1 == 60) then after_one (after_all is_in_name text) else text

abbrev pub has_colon : List ℕ → Bool
has_colon text = slice_index text 0 == 58

-- a colon and a blank
abbrev pub ends_address : List ℕ → Bool
ends_address text = has_colon text && is_blank (slice_index text 1)

abbrev pub after_colon : List ℕ → List ℕ
after_colon text = if has_colon text then after_one text else text

-- what is left after the digits of an offset
abbrev pub after_digits : List ℕ → List ℕ
after_digits text = after_all is_hex_digit (after_mark text)

abbrev pub has_digits : List ℕ → Bool
has_digits text = is_offset (after_mark text) (after_digits text)

-- what is left after the offset of a line, a name, a colon and blanks
abbrev pub after_offset : List ℕ → List ℕ
after_offset text = if has_digits text then after_all is_blank (after_colon (after_name (after_digits text))) else text

-- the value of an offset's digits so far, which grows no more from 2^56 on
abbrev pub grown : ℕ → ℕ → ℕ → ℕ
grown radix value digit = if nat_lt value 0x100_0000_0000_0000 then value * radix + digit else value

abbrev pub with_digit : ℕ → ℕ → (ℕ → ℕ) → Option ℕ → ℕ
with_digit radix value later None = value
with_digit radix value later (Some digit) = if nat_lt digit radix then later (grown radix value digit) else value

-- the value of the digits at the start of a text, after those that have a value already
unfoldable pub offset_value : ℕ → ℕ → List ℕ → ℕ
offset_value radix value [] = value
offset_value radix value (c ∷ rest) = with_digit radix value (λ v. offset_value radix v rest) (hex_digit_value c)

-- seven digits without a colon, as `od` writes offsets, which are octal
abbrev pub is_octal : List ℕ → Bool
is_octal text = (length text == 7 + length (after_digits text)) && not (has_colon (after_digits text))

-- the line begins with the offset of this place
abbrev pub has_offset : ℕ → List ℕ → Bool
has_offset place text =
    has_digits text
    && ((offset_value 16 0 (after_mark text) == place) || (is_octal text && (offset_value 8 0 text == place)))

-- ---- the form of a text with columns

abbrev pub has_two_spaces : List ℕ → Bool
has_two_spaces text = (slice_index text 0 == 32) && (slice_index text 1 == 32)

abbrev pub has_three_spaces : List ℕ → Bool
has_three_spaces text = has_two_spaces text && (slice_index text 2 == 32)

-- four zeros or more, and a colon with a blank or a blank
abbrev pub begins_zeros : List ℕ → Bool
begins_zeros text =
    let rest = after_all is_zero text in
    is_offset text rest && (ends_address rest || is_blank (slice_index rest 0))

-- an address, which has a colon after it
abbrev pub begins_address : List ℕ → Bool
begins_address text = has_digits text && ends_address (after_name (after_digits text))

-- what is at the start of a line, after blanks and marks of quoted mail
abbrev pub at_start : List ℕ → List ℕ
at_start text = after_all is_before_line text

-- what is at the start of the line after this one
abbrev pub next_line : List ℕ → List ℕ
next_line text = at_start (after_one (after_all is_in_line text))

-- the line after this one begins with four zeros too
abbrev pub has_next_offset : List ℕ → Bool
has_next_offset text = is_offset (next_line text) (after_all is_zero (next_line text))

-- The line has characters after two spaces. Those of `od` begin with `>`.
unfoldable pub has_text : List ℕ → Bool
has_text [] = false
has_text (c ∷ rest) =
    if c == 10 then false
    else if has_two_spaces (c ∷ rest) && nat_lt 32 (slice_index rest 1) then not (slice_index rest 1 == 62)
    else has_text rest

-- One blank after an offset of zeros: `objdump` has characters, `od` an offset on the next line. Of others nothing says
-- that it is an offset.
abbrev pub blank_form : List ℕ → Form
blank_form rest = if has_text rest then Groups else if has_next_offset rest then Addresses 0 else Words

-- a character that is that of one byte alone: no space, and no dot
abbrev pub is_visible : ℕ → Bool
is_visible c = nat_lt 32 c && nat_lt c 127 && not (c == 46)

-- whether a character is this byte, if it is visible
abbrev pub tells : Option ℕ → ℕ → Option Bool
tells None c = None
tells (Some byte) c = if is_visible c then Some (c == byte) else None

abbrev pub or_later : Option Bool → Option Bool → Option Bool
or_later None later = later
or_later (Some is) later = Some is

-- a line's bytes end at this character: at its end, or at two spaces
abbrev pub ends_bytes : ℕ → List ℕ → Bool
ends_bytes c rest = (c == 10) || has_two_spaces (c ∷ rest)

-- The first visible character of a line is that of its byte. Its high digit may be the character before the text.
unfoldable pub order_of : Bool → ℕ → List ℕ → List ℕ → Option Bool
order_of begun high [] characters = None
order_of begun high (c ∷ rest) characters =
    if ends_bytes c rest then None
    else if begun then or_later (tells (byte_of high c) (slice_index characters 0)) (order_of false c rest (after_one characters))
    else order_of (is_hex_digit c) c rest characters

-- what is left of a line after its first two spaces; nothing where there are more, after which nothing says whose the first is
unfoldable pub characters_of : List ℕ → List ℕ
characters_of [] = []
characters_of (c ∷ rest) =
    if (c == 10) || has_three_spaces (c ∷ rest) then []
    else if has_two_spaces (c ∷ rest) then after_one rest
    else characters_of rest

abbrev pub line_order : List ℕ → Option Bool
line_order line = order_of false 0 line (characters_of line)

abbrev pub in_order : Option Bool → Bool → Bool
in_order None later = later
in_order (Some is) later = is

-- The first visible character, in the first lines, is that of its byte, as in those of `xxd` and not of `xxd -e`.
unfoldable pub are_in_order : ℕ → List ℕ → Bool
are_in_order zero text = true
are_in_order (suc lines) text = in_order (line_order (after_offset text)) (are_in_order lines (next_line text))

abbrev pub colon_form : List ℕ → Form
colon_form text = if are_in_order 16 text then Colons else Words

-- sixteen zeros and one blank, as PowerShell 7 begins its first row
abbrev pub begins_row : List ℕ → List ℕ → Bool
begins_row text rest = (length text == 16 + length rest) && not (is_blank (slice_index rest 1))

abbrev pub zeros_form : List ℕ → List ℕ → Form
zeros_form text rest =
    if has_colon rest then colon_form text
    else if has_two_spaces rest then Spaces
    else if begins_row text rest then Rows
    else blank_form rest

-- the form of a text that begins with an offset
abbrev pub column_form : List ℕ → Form
column_form text =
    if begins_zeros text then zeros_form text (after_all is_zero text) else Addresses (offset_value 16 0 (after_mark text))

abbrev pub begins_columns : List ℕ → Bool
begins_columns text = begins_zeros text || begins_address text

-- nothing is in the line
abbrev pub is_empty_line : List ℕ → Bool
is_empty_line [] = true
is_empty_line (c ∷ rest) = (c == 10) || (c == 13)

-- `00 01 02`, as the numbers of columns begin
abbrev pub begins_numbers : List ℕ → Bool
begins_numbers text =
    (slice_index text 0 == 48) && (slice_index text 1 == 48) && (slice_index text 2 == 32)
    && (slice_index text 3 == 48) && (slice_index text 4 == 49) && (slice_index text 5 == 32)
    && (slice_index text 6 == 48) && (slice_index text 7 == 50)

-- a gap or the end
abbrev pub begins_gap : List ℕ → Bool
begins_gap [] = true
begins_gap (c ∷ rest) = is_gap c

-- two digits, and a gap or the end after them
abbrev pub begins_pair : List ℕ → Bool
begins_pair text =
    is_hex_digit (slice_index text 0) && is_hex_digit (slice_index text 1) && begins_gap (after_one (after_one text))

-- the same after `0x` or `\x`
abbrev pub begins_marked_pair : List ℕ → Bool
begins_marked_pair text =
    ((slice_index text 0 == 48) || (slice_index text 0 == 92)) && (slice_index text 1 == 120) && begins_pair (after_one (after_one text))

-- a word that is a byte
abbrev pub begins_byte_word : List ℕ → Bool
begins_byte_word text = begins_pair text || begins_marked_pair text

-- what is left of a line from its first word on that is a byte; a word begins after a gap
unfoldable pub byte_word : Bool → List ℕ → Option (List ℕ)
byte_word starts [] = None
byte_word starts (c ∷ rest) =
    if c == 10 then None
    else if starts && begins_byte_word (c ∷ rest) then Some (c ∷ rest)
    else byte_word (is_gap c) rest

abbrev pub is_some : Option (List ℕ) → Bool
is_some None = false
is_some (Some rest) = true

abbrev pub has_another : Option (List ℕ) → Bool
has_another None = false
has_another (Some text) = not (begins_numbers text) && is_some (byte_word false (after_one text))

-- two words of a line or more are bytes, which don't number columns
abbrev pub has_bytes : List ℕ → Bool
has_bytes text = has_another (byte_word true text)

-- The line is empty, or it numbers the columns, or it has no number at its start and no bytes.
abbrev pub is_heading : List ℕ → Bool
is_heading text =
    is_empty_line text || begins_numbers text || not (begins_gap (after_digits text) || has_bytes text)

-- Where the columns of a text begin: at its first line with an offset, where only headings are before it.
unfoldable pub columns_of : Bool → List ℕ → Option (List ℕ)
columns_of starts [] = None
columns_of starts (c ∷ rest) =
    if starts && begins_columns (at_start (c ∷ rest)) then Some (at_start (c ∷ rest))
    else if starts && not (is_heading (at_start (c ∷ rest))) then None
    else columns_of (c == 10) rest

abbrev pub has_columns : List ℕ → Bool
has_columns text = is_some (columns_of true text)

-- ---- the lines of a text with columns

abbrev pub after_start : List ℕ → Option (List ℕ) → List ℕ
after_start text None = text
after_start text (Some line) = after_offset line

-- `Data (HexDump)` begins the line, as UsbTreeView names bytes
abbrev pub is_named : List ℕ → Bool
is_named text =
    (slice_index text 0 == 68) && (slice_index text 1 == 97) && (slice_index text 2 == 116)
    && (slice_index text 3 == 97) && (slice_index text 4 == 32) && (slice_index text 5 == 40)
    && (slice_index text 6 == 72) && (slice_index text 7 == 101) && (slice_index text 8 == 120)

abbrev pub is_in_label : ℕ → Bool
is_in_label c = not ((c == 10) || (c == 58))

-- what is left after the name at the start of a line, its colon and blanks; the line itself where it has none
abbrev pub after_label : List ℕ → List ℕ
after_label text =
    let line = at_start text in
    if is_named line then after_all is_blank (after_one (after_all is_in_label line)) else line

abbrev pub begins_fence : List ℕ → Bool
begins_fence [] = false
begins_fence (c ∷ rest) = is_fence c rest

-- what is left after the offset of a line at this place; none where it has another offset or none
abbrev pub at_offset : ℕ → List ℕ → Option (List ℕ)
at_offset place text =
    let line = at_start text in
    if has_offset place line then Some (after_offset line)
    else if is_empty_line line then Some line
    else if begins_fence line then Some (after_all is_in_line line)
    else None

-- After a byte its group goes on for longer than the form has it: `xxd` has two bytes in one, the others one. Of longer
-- ones nothing says which byte is first; `objdump` writes them in order.
abbrev pub is_too_long : Form → List ℕ → Bool
is_too_long Plain rest = false
is_too_long Words rest = false
is_too_long Colons rest = is_hex_digit (slice_index rest 0) && is_hex_digit (slice_index rest 1) && is_hex_digit (slice_index rest 2)
is_too_long Spaces rest = is_hex_digit (slice_index rest 0)
is_too_long Rows rest = is_hex_digit (slice_index rest 0)
is_too_long Groups rest = false
is_too_long (Addresses base) rest = is_hex_digit (slice_index rest 0)
is_too_long Named rest = is_hex_digit (slice_index rest 0)
is_too_long (Literal quote) rest = false
is_too_long (Source style) rest = false
