-- Texts that two readings would take differently. None is read of them.
use Rattle.std.specs.Prelude.{ℕ, ◌+◌, ◌/◌, ◌==◌, ◌||◌, ◌&&◌, Bool, nat_lt, if◌then◌else◌, List, [], ◌∷◌, length, slice_index}
use Rattle.hex.specs.Hex.{is_hex_digit}
use Rattle.usb_hex.specs.Columns.{after_all, after_one, at_start, begins_gap, begins_numbers, is_blank, is_offset, next_line, offset_value}
use Rattle.usb_hex.specs.Labels.{are_pairs}

-- `count` digits of a kind are at the start of a text, and no other character but a gap after them
abbrev pub begins_group : ℕ → (ℕ → Bool) → List ℕ → Bool
begins_group count is text =
    let rest = after_all is text in
    (length text == count + length rest) && begins_gap rest

-- a word of which nothing says which byte is first, as `od -An` writes them after a blank
abbrev pub begins_words : List ℕ → Bool
begins_words start = begins_group 4 is_hex_digit start || begins_group 8 is_hex_digit start || begins_group 16 is_hex_digit start

abbrev pub is_binary : ℕ → Bool
is_binary c = (c == 48) || (c == 49)

-- what is left after `0b`, if that is there
abbrev pub after_radix : List ℕ → List ℕ
after_radix text = if (slice_index text 0 == 48) && (slice_index text 1 == 98) then after_one (after_one text) else text

-- eight bits
abbrev pub begins_bits : List ℕ → Bool
begins_bits text = begins_group 8 is_binary (after_radix text)

-- a number of four digits or more before two bytes alone, as an offset is
abbrev pub begins_offset : List ℕ → Bool
begins_offset text =
    let rest = after_all is_hex_digit text in
    is_offset text rest && is_blank (slice_index rest 0) && are_pairs is_blank (after_all is_blank rest)

-- the number at the start of the line is the count of the bytes before it
abbrev pub is_count : ℕ → List ℕ → Bool
is_count count text =
    begins_gap (after_all is_hex_digit text) && ((offset_value 16 0 text == count) || (offset_value 10 0 text == count))

-- Four digits or more, as an offset has, begin a line after `count` bytes of a text without columns: before two bytes alone, or as the
-- count of the bytes before.
abbrev pub has_offset_after : ℕ → List ℕ → Bool
has_offset_after count text =
    let start = at_start text in
    is_offset start (after_all is_hex_digit start) && (begins_offset start || is_count count start)

-- how many digits are in a line
unfoldable pub digits_in_line : List ℕ → ℕ
digits_in_line [] = 0
digits_in_line (c ∷ rest) =
    if c == 10 then 0
    else if is_hex_digit c then 1 + digits_in_line rest
    else digits_in_line rest

-- bytes are after the first number of the line, and the next line begins with it and their count
abbrev pub is_counted : ℕ → List ℕ → Bool
is_counted radix text =
    let rest = after_all is_hex_digit text in
    let count = digits_in_line rest / 2 in
    nat_lt 0 count && (offset_value radix 0 (next_line rest) == offset_value radix 0 text + count)

-- Two zeros or four digits and more, and a blank: with bytes after it that the next line has counted, such a number is an offset.
abbrev pub counts_bytes : List ℕ → Bool
counts_bytes text =
    let rest = after_all is_hex_digit text in
    is_blank (slice_index rest 0)
    && (is_offset text rest || ((slice_index text 0 == 48) && (slice_index text 1 == 48)))
    && (is_counted 16 text || is_counted 10 text)

abbrev pub has_two_readings : List ℕ → Bool
has_two_readings text =
    let start = at_start text in
    (is_blank (slice_index text 0) && begins_words start) || begins_bits start || begins_numbers start || begins_offset start || counts_bytes start
