-- The units of a string (UTF-16) in a text, and which characters are shown as they are (RFC 3629).
use Rattle.std.specs.Prelude.{ℕ, List, [], ◌∷◌, Bool, not, nat_le, ◌==◌, ◌&&◌, ◌||◌, if◌then◌else◌, ◌%◌, nat_lt, ◌+◌, ◌*◌, ◌++◌}
use Rattle.hex.specs.Hex.{encode_lower}
use Rattle.usb_fields.specs.Bytes.{big_endian}
use Rattle.std.specs.List.{list_any, flat_map}
use Rattle.usb_text.specs.declared.shown.CodeRange.{CodeRange}
use Rattle.std.specs.Char.{encode_utf8}
use Rattle.std.specs.Char.Utf16.{is_high_surrogate, is_low_surrogate, surrogate_pair_char}

-- UTF-16 code units of a string as text (USB 2.0, 9.6.7).

-- a number of two bytes as they are written out
abbrev pub two_bytes : ℕ → List ℕ
two_bytes n = big_endian n

-- whether a unit is written as a character: printable ASCII, but no quote (22h) and no backslash (5ch)
abbrev pub is_plain : ℕ → Bool
is_plain u = nat_le 32 u && nat_le u 126 && not ((u == 34) || (u == 92))

-- a unit as its character, or as a backslash and four hexadecimal digits
unfoldable pub written_unit : ℕ → List ℕ
written_unit u = if is_plain u then u ∷ [] else 92 ∷ encode_lower (two_bytes u)

-- The characters beyond ASCII that are shown as they are: none that steers a text, or leaves no mark in it (Unicode 15.0, the general
-- categories of chapter 4.5, the noncharacters of chapter 23.7, and Default_Ignorable_Code_Point of what is unassigned).

-- the code points from the first to the last
abbrev pub range : ℕ → ℕ → CodeRange
range first last = record { first = first; last = last }

-- whether a code point is of a range
abbrev pub has_code : ℕ → CodeRange → Bool
has_code code codes = nat_le codes.first code && nat_le code codes.last

-- Format characters (Cf), spaces (Zs), ends of lines and paragraphs (Zl, Zp), surrogates (Cs), private use (Co), noncharacters, and
-- code points that are unassigned (Cn) and default ignorable
abbrev pub hidden : List CodeRange
hidden =
    range 0x00AD 0x00AD  -- soft hyphen (Cf)
    ∷ range 0x0600 0x0605  -- signs of Arabic numbers (Cf)
    ∷ range 0x061C 0x061C  -- Arabic letter mark (Cf)
    ∷ range 0x06DD 0x06DD  -- Arabic end of ayah (Cf)
    ∷ range 0x070F 0x070F  -- Syriac abbreviation mark (Cf)
    ∷ range 0x0890 0x0891  -- Arabic marks above (Cf)
    ∷ range 0x08E2 0x08E2  -- Arabic end of ayah, disputed (Cf)
    ∷ range 0x1680 0x1680  -- Ogham space (Zs)
    ∷ range 0x180E 0x180E  -- Mongolian vowel separator (Cf)
    ∷ range 0x2000 0x200F  -- spaces (Zs), and marks of no width and of direction (Cf)
    ∷ range 0x2028 0x202F  -- ends (Zl, Zp), embeddings of direction (Cf), and a space (Zs)
    ∷ range 0x205F 0x206F  -- a space (Zs), invisible operators and isolates of direction (Cf), and 2065 (Cn, default ignorable)
    ∷ range 0x3000 0x3000  -- ideographic space (Zs)
    ∷ range 0xD800 0xDFFF  -- surrogates (Cs)
    ∷ range 0xE000 0xF8FF  -- private use (Co)
    ∷ range 0xFDD0 0xFDEF  -- noncharacters
    ∷ range 0xFEFF 0xFEFF  -- byte order mark (Cf)
    ∷ range 0xFFF0 0xFFFB  -- up to FFF8 unassigned and default ignorable (Cn), and marks of annotations (Cf)
    ∷ range 0x1_10BD 0x1_10BD  -- Kaithi number sign (Cf)
    ∷ range 0x1_10CD 0x1_10CD  -- Kaithi number sign above (Cf)
    ∷ range 0x1_3430 0x1_343F  -- joiners of hieroglyphs (Cf)
    ∷ range 0x1_BCA0 0x1_BCA3  -- marks of shorthand (Cf)
    ∷ range 0x1_D173 0x1_D17A  -- marks of music (Cf)
    ∷ []

-- whether a code point is shown: from the first one after ASCII, controls (Cc) and the no-break space (Zs) up to tags (Cf) and the planes of
-- private use (Co), but for the last two of each plane, which are noncharacters, and those hidden
unfoldable pub is_shown : ℕ → Bool
is_shown code = nat_le 0xA1 code && nat_lt code 0xE_0000 && nat_lt (code % 0x1_0000) 0xFFFE && not (list_any (has_code code) hidden)

-- The units of a string (UTF-16) in a text, and its characters beyond ASCII as UTF-8 (RFC 3629).

-- the units of bytes, each the low byte first
abbrev pub units_in : List ℕ → List ℕ
units_in (low ∷ high ∷ rest) = (low + 256 * high) ∷ units_in rest
units_in rest = []

-- a character as UTF-8 where it is shown, else its units as in a listing
abbrev pub character_words : ℕ → List ℕ → List ℕ
character_words code units = if is_shown code then encode_utf8 code else flat_map written_unit units

-- a unit by itself
unfoldable pub one_words : ℕ → List ℕ
one_words unit = character_words unit (unit ∷ [])

-- the units of a surrogate pair
unfoldable pub pair_words : ℕ → ℕ → List ℕ
pair_words high low = character_words (surrogate_pair_char high low) (high ∷ low ∷ [])

-- the units of a string, a high surrogate and a low one after it as a pair
unfoldable pub shown_words : List ℕ → List ℕ
shown_words [] = []
shown_words (unit ∷ []) = one_words unit
shown_words (unit ∷ next ∷ rest) =
    if is_high_surrogate unit && is_low_surrogate next then pair_words unit next ++ shown_words rest
    else one_words unit ++ shown_words (next ∷ rest)

-- the same with characters beyond ASCII, or each unit as in a listing
abbrev pub units_words : Bool → List ℕ → List ℕ
units_words utf8 units = if utf8 then shown_words units else flat_map written_unit units
