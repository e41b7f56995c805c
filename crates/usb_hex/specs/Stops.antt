-- The line that says why a text is not read as hexadecimal.
use Rattle.std.specs.Prelude.{ℕ, ◌==◌, ◌||◌, ◌&&◌, Bool, false, true, nat_le, if◌then◌else◌, List, [], ◌∷◌, ◌++◌, slice_index, Option, Some, None, codes}
use Rattle.std.specs.Fmt.{decimal}
use Rattle.usb_hex.specs.Hexadecimal.{is_source, layout_of}
use Rattle.usb_text.specs.Numbers.{byte_code}
use Rattle.usb_hex.specs.TwoReadings.{has_two_readings}
use Rattle.usb_hex.specs.declared.hex_text.Form.{Form}
use Rattle.usb_hex.specs.declared.hex_text.Form.TheVariants.{Words}
use Rattle.usb_hex.specs.declared.hex_text.HexFault.{HexFault}
use Rattle.usb_hex.specs.declared.hex_text.HexFault.TheVariants as faults

-- the byte order mark of UTF-16, with which a redirection of PowerShell begins
abbrev pub is_utf16 : List ℕ → Bool
is_utf16 b = ((slice_index b 0 == 255) && (slice_index b 1 == 254)) || ((slice_index b 0 == 254) && (slice_index b 1 == 255))

-- a text with some character
abbrev pub is_some_source : List ℕ → Bool
is_some_source [] = false
is_some_source (c ∷ rest) = is_source (c ∷ rest)

abbrev pub character_words : ℕ → List ℕ
character_words c = codes " has '" ++ c ∷ [] ++ codes "'"

-- what is at the place: its character, or the code of one that isn't printable ASCII
unfoldable pub found_words : Option ℕ → List ℕ
found_words None = codes " is the end"
found_words (Some c) =
    if c == 10 then codes " is the end of the line"
    else if nat_le 32 c && nat_le c 126 then character_words c
    else codes " has " ++ byte_code c

unfoldable pub refused_words : List ℕ
refused_words = codes "? not hexadecimal text: "

unfoldable pub line_words : ℕ → List ℕ
line_words line = refused_words ++ codes "line " ++ decimal line

unfoldable pub place_words : ℕ → ℕ → List ℕ
place_words line column = line_words line ++ codes " column " ++ decimal column

unfoldable pub place_line : ℕ → ℕ → Option ℕ → List ℕ
place_line line column found = place_words line column ++ found_words found ++ codes "\n"

abbrev pub is_of_words : List ℕ → Option Form → Bool
is_of_words text None = has_two_readings text
is_of_words text (Some Words) = true
is_of_words text (Some form) = false

-- two readings would take the text differently
abbrev pub is_ambiguous : List ℕ → Bool
is_ambiguous text = is_of_words text (layout_of text)

abbrev pub text_line : List ℕ → ℕ → ℕ → Option ℕ → List ℕ
text_line b line column found =
    if is_ambiguous b then refused_words ++ codes "it has two readings\n" else place_line line column found

-- The line that says why the bytes are no hexadecimal text; none where they don't look like text.
abbrev pub stop_line : List ℕ → HexFault → List ℕ
stop_line b faults.Memory = []
stop_line b (faults.Text line column found) =
    if is_utf16 b then refused_words ++ codes "UTF-16\n"
    else if is_some_source b then text_line b line column found
    else []
