-- The items of a text that has bytes as the source of a program or another text has them.
use Rattle.std.specs.Prelude.{ℕ, ◌+◌, ◌-◌, ◌*◌, ◌==◌, ◌||◌, ◌&&◌, Bool, false, not, nat_le, nat_lt, if◌then◌else◌, List, [], ◌∷◌, slice_index, Option, Some, None, option_map}
use Rattle.std.specs.List.{list_all}
use Rattle.hex.specs.Hex.{hex_digit_value, is_hex_digit}
use Rattle.usb_hex.specs.Columns.{after_all, is_blank}
use Rattle.usb_text.specs.HexDigits.{byte_of}
use Rattle.usb_hex.specs.HexItems.{Item, digits, is_gap}
use Rattle.usb_hex.specs.declared.source_item.Style.{Style}
use Rattle.usb_hex.specs.declared.source_item.Style.TheVariants.{Escaped, Prefixed, Suffixed, Pairs, Separated, Loose, Decimals, Either}

-- white space, a comma or a semicolon
abbrev pub is_parting : ℕ → Bool
is_parting c = is_gap c || (c == 59)

abbrev pub is_line_end : ℕ → Bool
is_line_end c = (c == 10) || (c == 13)

abbrev pub begins_line_end : List ℕ → Bool
begins_line_end [] = false
begins_line_end (c ∷ rest) = is_line_end c

abbrev pub is_quote : ℕ → Bool
is_quote c = (c == 34) || (c == 39)

abbrev pub is_decimal : ℕ → Bool
is_decimal c = nat_le 48 c && nat_le c 57

abbrev pub is_letter : ℕ → Bool
is_letter c = (nat_le 65 c && nat_le c 90) || (nat_le 97 c && nat_le c 122) || (c == 95)

-- what may be in a number or a name, so that a number isn't ended before it
abbrev pub is_of_word : ℕ → Bool
is_of_word c = is_decimal c || is_letter c

abbrev pub begins_word : List ℕ → Bool
begins_word [] = false
begins_word (c ∷ rest) = is_of_word c

-- Nothing but parentheses, semicolons, commas and white space is in a text, as after the string of a call.
abbrev pub is_closing : ℕ → Bool
is_closing c = (c == 41) || is_parting c

abbrev pub closing_item : List ℕ → Item
closing_item rest = if list_all is_closing rest then Some (None, []) else None

abbrev pub byte_before : List ℕ → ℕ → Option ℕ × List ℕ
byte_before rest byte = (Some byte, rest)

-- Strings, in which a byte is `\x12`. After it is another or a quote, and none is after a gap: a space in a string is a
-- byte itself.

abbrev pub begins_escape : List ℕ → Bool
begins_escape text = (slice_index text 0 == 92) && (slice_index text 1 == 120)

-- a backslash or a quote is at the start of a text
abbrev pub goes_on : List ℕ → Bool
goes_on [] = false
goes_on (c ∷ rest) = (c == 92) || is_quote c

abbrev pub escape : List ℕ → Item
escape [] = None
escape (high ∷ []) = None
escape (high ∷ low ∷ rest) = if goes_on rest then digits high low rest else None

-- after a backslash: x and two digits, or the end of the line
abbrev pub after_backslash : List ℕ → Item
after_backslash [] = None
after_backslash (c ∷ rest) = if c == 120 then escape rest else if is_line_end c then Some (None, c ∷ rest) else None

unfoldable pub escaped_item : List ℕ → Item
escaped_item [] = None
escaped_item (c ∷ rest) =
    if c == 92 then after_backslash rest
    else if c == 41 then closing_item rest
    else if is_quote c || (is_parting c && not (begins_escape rest)) then Some (None, rest)
    else None

-- Numbers with a prefix.

-- what is left after an 8, as of `0x12u8`
abbrev pub after_width : List ℕ → List ℕ
after_width [] = []
after_width (c ∷ rest) = if c == 56 then rest else c ∷ rest

abbrev pub after_suffix : List ℕ → List ℕ
after_suffix [] = []
after_suffix (c ∷ rest) = if (c == 117) || (c == 85) then after_width rest else c ∷ rest

abbrev pub ended_number : List ℕ → Option ℕ → Item
ended_number rest byte = if begins_word rest then None else option_map (byte_before rest) byte

-- one or two digits, and maybe a suffix `u` or `u8`, with which the number ends
abbrev pub number : List ℕ → Item
number [] = None
number (c ∷ []) = option_map (byte_before []) (hex_digit_value c)
number (c ∷ d ∷ rest) =
    if is_hex_digit d then ended_number (after_suffix rest) (byte_of c d)
    else ended_number (after_suffix (d ∷ rest)) (hex_digit_value c)

abbrev pub is_x : ℕ → Bool
is_x c = (c == 120) || (c == 88)

-- what is left after `x`
abbrev pub after_x : List ℕ → Option (List ℕ)
after_x [] = None
after_x (c ∷ rest) = if is_x c then Some rest else None

-- `0x`, `0X` or `$`
abbrev pub begins_prefix : List ℕ → Bool
begins_prefix text = (slice_index text 0 == 36) || ((slice_index text 0 == 48) && is_x (slice_index text 1))

-- what is left after `0x`, `0X` or `$`
abbrev pub after_prefix : ℕ → List ℕ → Option (List ℕ)
after_prefix c rest =
    if c == 36 then Some rest
    else if c == 48 then after_x rest
    else None

-- blanks and a number with a prefix, before which a digit may be the number of its line
abbrev pub precedes_number : List ℕ → Bool
precedes_number text = is_blank (slice_index text 0) && begins_prefix (after_all is_blank text)

-- one decimal digit, which is the same number without a prefix
abbrev pub one_digit : ℕ → List ℕ → Item
one_digit c rest =
    if is_decimal c && not (begins_word rest || precedes_number rest) then Some (Some (c - 48), rest) else None

abbrev pub number_after : ℕ → List ℕ → Option (List ℕ) → Item
number_after c rest None = one_digit c rest
number_after c rest (Some tail) = number tail

unfoldable pub prefixed_item : List ℕ → Item
prefixed_item [] = None
prefixed_item (c ∷ rest) =
    if is_parting c || (c == 34) then Some (None, rest)
    else number_after c rest (after_prefix c rest)

-- Two digits for each byte.

-- a quote, and after it a digit or another one: one that ends no string is between digits of which nothing says how they go on
abbrev pub begins_quoted : List ℕ → Bool
begins_quoted text = is_quote (slice_index text 0) && (is_hex_digit (slice_index text 1) || is_quote (slice_index text 1))

abbrev pub pair : ℕ → ℕ → List ℕ → Item
pair c d rest = if begins_quoted rest then None else digits c d rest

unfoldable pub pair_item : List ℕ → Item
pair_item [] = None
pair_item (c ∷ []) = if is_closing c || is_quote c then Some (None, []) else None
pair_item (c ∷ d ∷ rest) =
    if is_parting c || is_quote c then Some (None, d ∷ rest)
    else if c == 41 then closing_item (d ∷ rest)
    else pair c d rest

-- Two digits and `h` for each byte, and maybe a zero before them.

-- the suffix `h`, with which a number ends
abbrev pub ends_suffix : ℕ → List ℕ → Bool
ends_suffix c rest = ((c == 104) || (c == 72)) && not (begins_word rest)

abbrev pub suffixed : ℕ → ℕ → List ℕ → Item
suffixed c d [] = None
suffixed c d (e ∷ []) = if ends_suffix e [] then digits c d [] else None
suffixed c d (e ∷ h ∷ rest) =
    if ends_suffix e (h ∷ rest) then digits c d (h ∷ rest)
    else if (c == 48) && ends_suffix h rest then Some (None, d ∷ e ∷ h ∷ rest)
    else None

unfoldable pub suffixed_item : List ℕ → Item
suffixed_item [] = None
suffixed_item (c ∷ []) = if is_parting c then Some (None, []) else None
suffixed_item (c ∷ d ∷ rest) = if is_parting c then Some (None, d ∷ rest) else suffixed c d rest

-- what is left after a colon or a hyphen between two bytes, or before the end of a line
abbrev pub after_separator : List ℕ → Option (List ℕ)
after_separator [] = Some []
after_separator (c ∷ rest) =
    if is_line_end c then Some (c ∷ rest)
    else if ((c == 58) || (c == 45)) && is_hex_digit (slice_index rest 0) then Some rest
    else None

abbrev pub separated : ℕ → ℕ → Option (List ℕ) → Item
separated c d None = None
separated c d (Some rest) = digits c d rest

unfoldable pub separated_item : List ℕ → Item
separated_item [] = None
separated_item (c ∷ []) = if is_parting c then Some (None, []) else None
separated_item (c ∷ d ∷ rest) = if is_parting c then Some (None, d ∷ rest) else separated c d (after_separator rest)

-- Numbers in an array, of one or two hexadecimal digits. None has a suffix, with which it would be decimal.

abbrev pub short_number : List ℕ → Item
short_number [] = None
short_number (c ∷ []) = option_map (byte_before []) (hex_digit_value c)
short_number (c ∷ d ∷ rest) =
    if is_hex_digit d then ended_number rest (byte_of c d)
    else ended_number (d ∷ rest) (hex_digit_value c)

unfoldable pub loose_item : List ℕ → Item
loose_item [] = None
loose_item (c ∷ rest) = if is_parting c then Some (None, rest) else short_number (c ∷ rest)

-- Decimal numbers in an array: below 256, and without a leading zero.

abbrev pub decimal_or : Bool → ℕ → ℕ → (ℕ → Item) → Item → Item
decimal_or more value c later other =
    if more then (if (value == 0) || nat_lt 255 (value * 10 + (c - 48)) then None else later (value * 10 + (c - 48)))
    else other

-- the digits go on after those that have a value already
unfoldable pub decimals : ℕ → List ℕ → Item
decimals value [] = Some (Some value, [])
decimals value (c ∷ rest) =
    decimal_or (is_decimal c) value c (λ v. decimals v rest) (if is_letter c then None else Some (Some value, c ∷ rest))

unfoldable pub decimal_item : List ℕ → Item
decimal_item [] = None
decimal_item (c ∷ rest) =
    if is_parting c then Some (None, rest)
    else if is_decimal c then decimals (c - 48) rest
    else None

-- Numbers in an array that may be decimal or hexadecimal: no byte is read of them.

abbrev pub parting_item : List ℕ → Item
parting_item [] = None
parting_item (c ∷ rest) = if is_parting c then Some (None, rest) else None

-- an item at the start of a text of a style
abbrev pub source_item : Style → List ℕ → Item
source_item Escaped text = escaped_item text
source_item Prefixed text = prefixed_item text
source_item Suffixed text = suffixed_item text
source_item Pairs text = pair_item text
source_item Separated text = separated_item text
source_item Loose text = loose_item text
source_item Decimals text = decimal_item text
source_item Either text = parting_item text
