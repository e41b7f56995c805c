-- Labels of lines, which are no bytes: `Device: 12 01`, `"Data"=hex:12,01`, `db 12h` and `char d[] = "\x12"`.
use Rattle.std.specs.Prelude.{ℕ, ◌+◌, ◌==◌, ◌||◌, ◌&&◌, Bool, false, not, if◌then◌else◌, List, [], ◌∷◌, slice_index}
use Rattle.hex.specs.Hex.{is_hex_digit}
use Rattle.usb_hex.specs.Columns.{after_all, after_one, is_blank}
use Rattle.usb_hex.specs.SourceItems.{begins_escape, begins_line_end, is_decimal, is_letter, is_quote}
use Rattle.usb_hex.specs.declared.label.Part.{Part}
use Rattle.usb_hex.specs.declared.label.Part.TheVariants.{Start, Label, Directive, Declaration, Bytes}

abbrev pub begins_two_digits : List ℕ → Bool
begins_two_digits text = is_hex_digit (slice_index text 0) && is_hex_digit (slice_index text 1)

-- two digits, a character of a kind, and two digits
abbrev pub are_pairs : (ℕ → Bool) → List ℕ → Bool
are_pairs is text =
    begins_two_digits text && is (slice_index text 2)
    && is_hex_digit (slice_index text 3) && is_hex_digit (slice_index text 4)

abbrev pub is_comma : ℕ → Bool
is_comma c = c == 44

-- a blank, and after all of them two bytes; or at once two bytes with a comma, as the registry of Windows has them
abbrev pub begins_pairs : List ℕ → Bool
begins_pairs text = (is_blank (slice_index text 0) && are_pairs is_blank (after_all is_blank text)) || are_pairs is_comma text

-- a letter that is no digit
abbrev pub is_beyond_digits : ℕ → Bool
is_beyond_digits c = is_letter c && not (is_hex_digit c)

-- A text goes on as a label does: up to a colon and two bytes it has a letter that is no digit, and no decimal digit, as
-- an offset has.
unfoldable pub is_label : Bool → List ℕ → Bool
is_label named [] = false
is_label named (c ∷ rest) =
    if c == 58 then named && begins_pairs rest
    else if (c == 10) || is_decimal c then false
    else is_label (is_beyond_digits c || named) rest

-- ---- directives of assemblers for bytes

-- a letter of either case, or another character
abbrev pub is_either_case : ℕ → ℕ → Bool
is_either_case letter c = (c == letter) || (c + 32 == letter)

-- a text begins with a name, and a blank is after it
abbrev pub begins_name : List ℕ → List ℕ → Bool
begins_name [] text = is_blank (slice_index text 0)
begins_name (letter ∷ name) [] = false
begins_name (letter ∷ name) (c ∷ rest) = is_either_case letter c && begins_name name rest

abbrev pub after_dot : List ℕ → List ℕ
after_dot [] = []
after_dot (c ∷ rest) = if c == 46 then rest else c ∷ rest

-- `db`, `dcb`, `dc.b`, `fcb` or `byte`. Others are of longer numbers.
abbrev pub names_bytes : List ℕ → Bool
names_bytes text =
    begins_name (100 ∷ 98 ∷ []) text || begins_name (100 ∷ 99 ∷ 98 ∷ []) text || begins_name (100 ∷ 99 ∷ 46 ∷ 98 ∷ []) text
    || begins_name (102 ∷ 99 ∷ 98 ∷ []) text || begins_name (98 ∷ 121 ∷ 116 ∷ 101 ∷ []) text

-- a letter of `0x12` or of `12h`
abbrev pub is_radix_letter : ℕ → Bool
is_radix_letter c = is_either_case 120 c || is_either_case 104 c

-- what a number after a directive begins with
abbrev pub is_of_radix : ℕ → Bool
is_of_radix c = is_decimal c || (c == 36)

-- a number with a prefix or a suffix, which say that it isn't decimal
abbrev pub begins_hexadecimal : List ℕ → Bool
begins_hexadecimal text =
    (slice_index text 0 == 36) || (is_decimal (slice_index text 0) && is_radix_letter (slice_index (after_all is_hex_digit text) 0))

abbrev pub is_in_directive : ℕ → Bool
is_in_directive c = is_letter c || is_blank c || (c == 46)

-- a line that begins with a directive for bytes
abbrev pub is_directive : List ℕ → Bool
is_directive text =
    names_bytes (after_dot (after_all is_blank text)) && begins_hexadecimal (after_all is_in_directive text)

-- ---- declarations and calls before a string

-- What is before a string says that it is one: a letter that is no digit and no bracket, or an equals sign, before an
-- escape, or an opening parenthesis before two digits, as of `bytes.fromhex('12')`.
abbrev pub declares : Bool → ℕ → List ℕ → Bool
declares named last text = (((named && not (last == 91)) || (last == 61)) && begins_escape text) || ((last == 40) && begins_two_digits text)

-- what is in no declaration before a string
abbrev pub ends_declaration : ℕ → Bool
ends_declaration c = (c == 92) || (c == 44) || (c == 123)

-- the string begins in the next line
abbrev pub goes_on_below : Bool → ℕ → List ℕ → Bool
goes_on_below named last rest =
    (last == 61) && is_quote (slice_index (after_all is_blank rest) 0) && declares named last (after_one (after_all is_blank rest))

-- A text goes on as a declaration before a string does, whose last character that is no blank was this one.
unfoldable pub is_declaration : Bool → ℕ → List ℕ → Bool
is_declaration named last [] = false
is_declaration named last (c ∷ rest) =
    if is_quote c then declares named last rest
    else if c == 10 then goes_on_below named last rest
    else if ends_declaration c then false
    else is_declaration (is_beyond_digits c || named) (if is_blank c then last else c) rest

-- the line begins with no number
abbrev pub begins_declaration : List ℕ → Bool
begins_declaration text = not (is_decimal (slice_index (after_all is_blank text) 0)) && is_declaration false 32 text

-- ---- texts without labels

abbrev pub part_of_line : List ℕ → Part
part_of_line text =
    if is_label false text then Label
    else if is_directive text then Directive
    else if begins_declaration text then Declaration
    else Bytes

-- what the character at the start of a text is in
abbrev pub part_at : Part → List ℕ → Part
part_at Start text = part_of_line text
part_at Label text = Label
part_at Directive text = if is_of_radix (slice_index text 0) then Bytes else Directive
part_at Declaration text = if is_quote (slice_index text 0) then Bytes else Declaration
part_at Bytes text = Bytes

abbrev pub after_bytes : ℕ → Part
after_bytes c = if c == 10 then Start else Bytes

-- what the character after one of this part is in
abbrev pub next_part : Part → ℕ → Part
next_part Start c = after_bytes c
next_part Label c = if c == 58 then Bytes else Label
next_part Directive c = Directive
next_part Declaration c = Declaration
next_part Bytes c = after_bytes c

-- a line's last character is a backslash, with which it goes on in the next
abbrev pub continues : ℕ → List ℕ → Bool
continues c rest = (c == 92) && begins_line_end rest

abbrev pub shown_byte : ℕ → List ℕ → ℕ
shown_byte c rest = if continues c rest then 32 else c

-- a space in place of a label's character, and of a backslash at the end of a line
abbrev pub shown_part : Part → ℕ → List ℕ → ℕ
shown_part Start c rest = shown_byte c rest
shown_part Label c rest = 32
shown_part Directive c rest = 32
shown_part Declaration c rest = if c == 10 then 10 else 32
shown_part Bytes c rest = shown_byte c rest

-- a text that begins in this part, without labels
unfoldable pub unlabelled : Part → List ℕ → List ℕ
unlabelled part [] = []
unlabelled part (c ∷ rest) =
    let here = part_at part (c ∷ rest) in
    shown_part here c rest ∷ unlabelled (next_part here c) rest
