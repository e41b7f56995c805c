-- Which texts are hexadecimal, and which bytes they have.
--
-- A text is read as it is, in its form. One that isn't hexadecimal so is read as the source of a program or another text
-- that has bytes: without comments, and between brackets where it has some. Either way a text has one reading.
use Rattle.std.specs.Prelude.{◌≡◌, ℕ, ◌+◌, ◌-◌, ◌<◌, ◌==◌, ◌||◌, ◌&&◌, ◌⊎◌, Bool, true, false, not, nat_le, if◌then◌else◌, List, [], ◌∷◌, length, take, drop, slice_index, Option, Some, None, count_by}
use Rattle.std.specs.List.{list_all}
use Rattle.usb_hex.specs.Brackets.{bracket_of, first_side, has, within}
use Rattle.usb_hex.specs.Comments.{uncommented}
use Rattle.usb_hex.specs.Columns.{at_start, column_form, columns_of, is_named}
use Rattle.usb_hex.specs.Labels.{unlabelled}
use Rattle.usb_hex.specs.Literals.{literal_of}
use Rattle.usb_hex.specs.HexText.{Reads, column_after, form_of, in_line}
use Rattle.usb_text.specs.Lines.{is_line_feed}
use Rattle.usb_hex.specs.SourceItems.{is_decimal, is_parting}
use Rattle.usb_hex.specs.TwoReadings.{has_two_readings}
use Rattle.usb_hex.specs.declared.bracket.Bracket.{Bracket}
use Rattle.usb_hex.specs.declared.bracket.Bracket.TheVariants.{Curly, Square}
use Rattle.usb_hex.specs.declared.comment.Place.TheVariants as places
use Rattle.usb_hex.specs.declared.label.Part.TheVariants as parts
use Rattle.usb_hex.specs.declared.hex_text.Form.{Form}
use Rattle.usb_hex.specs.declared.hex_text.Form.TheVariants.{Literal, Named, Source, Words}
use Rattle.usb_hex.specs.declared.hex_text.HexFault.{HexFault}
use Rattle.usb_hex.specs.declared.hex_text.HexFault.TheVariants as faults
use Rattle.usb_hex.specs.declared.source_item.Style.{Style}
use Rattle.usb_hex.specs.declared.source_item.Style.TheVariants.{Escaped, Prefixed, Suffixed, Pairs, Separated, Loose, Decimals, Either}

-- ---- a text in one form

-- the items of a whole text in a form have these bytes, and this is left
abbrev pub ReadsText : Form → List ℕ → List ℕ → List ℕ → Type 0
ReadsText form text bytes left = Reads form 0 (in_line form text) bytes left

-- a text is hexadecimal in a form, and has these bytes, one at least
pub record HexIn (form : Form) (text bytes : List ℕ) : Type 0 where
  pub read : ReadsText form text bytes []
  pub some : 0 < length bytes

abbrev pub first_of : List ℕ → Option ℕ
first_of [] = None
first_of (c ∷ rest) = Some c

-- the fault at a place of a text; lines and columns are counted from 1
abbrev pub fault_at : List ℕ → ℕ → HexFault
fault_at text place =
    let before = take place text in
    faults.Text (1 + count_by is_line_feed before) (column_after 1 before) (first_of (drop place text))

-- What is read of a text, which may have spaces in place of what is left out, is not hexadecimal in a form: it goes on where no item
-- begins, or it has no byte. The fault is there in the text, or at its end.
pub record FaultyIn (form : Form) (text shown : List ℕ) (fault : HexFault) : Type 0 where
  pub bytes : List ℕ
  pub left : List ℕ
  pub read : ReadsText form shown bytes left
  pub wrong : (0 < length left) ⊎ (bytes ≡ [])
  pub place : fault ≡ fault_at text (length shown - length left)

-- ---- the source of a program, or another text with bytes

-- a printable character, one beyond ASCII, a tab or the end of a line
abbrev pub is_of_source : ℕ → Bool
is_of_source c = (nat_le 32 c && not (c == 127)) || (c == 9) || (c == 10) || (c == 13)

abbrev pub is_source : List ℕ → Bool
is_source text = list_all is_of_source text

-- what is between the brackets, or all of a text without them
abbrev pub inner_of : Option Bracket → List ℕ → List ℕ
inner_of None code = code
inner_of (Some bracket) code = within bracket (first_side bracket code) code

abbrev pub is_of_decimals : ℕ → Bool
is_of_decimals c = is_decimal c || is_parting c

-- two decimal digits are next to each other
unfoldable pub has_long_number : List ℕ → Bool
has_long_number [] = false
has_long_number (c ∷ rest) = (is_decimal c && is_decimal (slice_index rest 0)) || has_long_number rest

abbrev pub has_suffix : List ℕ → Bool
has_suffix inner = has 104 inner || has 72 inner

-- three decimal digits are next to each other
unfoldable pub has_three_digits : List ℕ → Bool
has_three_digits [] = false
has_three_digits (c ∷ rest) =
    (is_decimal c && is_decimal (slice_index rest 0) && is_decimal (slice_index rest 1)) || has_three_digits rest

-- Numbers without a letter: those of C, in braces, are decimal where one is over 9. In square brackets, as Python and Rust write them,
-- they are decimal where one has three digits, and may be hexadecimal where one has two; of one digit each reading is the same.
abbrev pub number_style : Bracket → List ℕ → Style
number_style Curly inner = if has_long_number inner then Decimals else Pairs
number_style Square inner = if has_three_digits inner || not (has_long_number inner) then Decimals else Either

-- numbers without a prefix in an array
abbrev pub array_style : Bracket → List ℕ → Style
array_style bracket inner =
    if has_suffix inner then Suffixed
    else if not (list_all is_of_decimals inner) then Loose
    else number_style bracket inner

abbrev pub has_prefix : List ℕ → Bool
has_prefix inner = has 120 inner || has 88 inner || has 36 inner

abbrev pub line_style : List ℕ → Style
line_style inner =
    if has 58 inner || has 45 inner then Separated
    else if has_suffix inner then Suffixed
    else Pairs

-- numbers without a prefix
abbrev pub bare_style : Option Bracket → List ℕ → Style
bare_style None inner = line_style inner
bare_style (Some bracket) inner = array_style bracket inner

-- how a text has its bytes, by the characters in it
abbrev pub style_of : Option Bracket → List ℕ → Style
style_of bracket inner =
    if has 92 inner then Escaped
    else if has_prefix inner then Prefixed
    else bare_style bracket inner

-- a text without comments and labels
abbrev pub code_of : List ℕ → List ℕ
code_of text = unlabelled parts.Start (uncommented places.Start text)

-- what is between its brackets
abbrev pub within_code : List ℕ → List ℕ
within_code text = inner_of (bracket_of (code_of text)) (code_of text)

-- the form of a text with columns, a name or a literal, which is read as it is; none has a program's source
abbrev pub named_form : List ℕ → Option (List ℕ) → Option Form
named_form text None = if is_named (at_start text) then Some Named else None
named_form text (Some literal) = Some (Literal (slice_index literal 0))

abbrev pub layout_in : List ℕ → Option (List ℕ) → Option Form
layout_in text None = named_form text (literal_of text)
layout_in text (Some line) = Some (column_form line)

abbrev pub layout_of : List ℕ → Option Form
layout_of text = layout_in text (columns_of true text)

-- what is read of a text, and in which form
abbrev pub source_in : List ℕ → Option Form → List ℕ
source_in text None = within_code text
source_in text (Some form) = text

abbrev pub source_of : List ℕ → List ℕ
source_of text = source_in text (layout_of text)

abbrev pub form_in : List ℕ → Option Form → Form
form_in text None = if has_two_readings text then Words else Source (style_of (bracket_of (code_of text)) (within_code text))
form_in text (Some form) = form

abbrev pub source_form : List ℕ → Form
source_form text = form_in text (layout_of text)

-- ---- any text

-- a text that is hexadecimal as it is has these bytes
abbrev pub HexAsIs : List ℕ → List ℕ → Type 0
HexAsIs text bytes = HexIn (form_of text) text bytes

-- the text isn't hexadecimal as it is, and this is wrong
abbrev pub FaultyAsIs : List ℕ → HexFault → Type 0
FaultyAsIs text fault = FaultyIn (form_of text) text text fault

-- the text is no hexadecimal one as it is, and a source with these bytes
pub record HexSource (text bytes : List ℕ) : Type 0 where
  pub fault : HexFault
  pub first : FaultyAsIs text fault
  pub characters : is_source text ≡ true
  pub is : HexIn (source_form text) (source_of text) bytes

-- the text is hexadecimal, and has these bytes
abbrev pub HexText : List ℕ → List ℕ → Type 0
HexText text bytes = HexAsIs text bytes ⊎ HexSource text bytes

-- the text is hexadecimal neither as it is nor as a source, in which the fault is
pub record FaultySource (text : List ℕ) (fault : HexFault) : Type 0 where
  pub before : HexFault
  pub first : FaultyAsIs text before
  pub characters : is_source text ≡ true
  pub is : FaultyIn (source_form text) text (source_of text) fault

-- the text isn't hexadecimal: it has characters of no source, or is no such source either
abbrev pub HexFaulty : List ℕ → HexFault → Type 0
HexFaulty text fault = ((is_source text ≡ false) × FaultyAsIs text fault) ⊎ FaultySource text fault

-- why a text is not read: so it is, or out of memory
abbrev pub HexRefused : List ℕ → HexFault → Type 0
HexRefused text fault = (fault ≡ faults.Memory) ⊎ HexFaulty text fault

-- ---- what holds of every hexadecimal text

-- its first byte is not 18, and its second one neither 2 nor 7
pub record IsApart (text : List ℕ) : Type 0 where
  pub device : slice_index text 0 ≡ 18 → ⊥
  pub configuration : slice_index text 1 ≡ 2 → ⊥
  pub other_speed : slice_index text 1 ≡ 7 → ⊥

-- so it is of every hexadecimal text
abbrev pub IsNoDescriptor : Type 0
IsNoDescriptor = (text bytes : List ℕ) → HexText text bytes → IsApart text

-- no text has two readings
abbrev pub HasOneReading : Type 0
HasOneReading = (text bytes others : List ℕ) → HexText text bytes → HexText text others → bytes ≡ others

-- a text that is hexadecimal as it is has the bytes that it has so
abbrev pub IsReadAsIs : Type 0
IsReadAsIs = (text bytes : List ℕ) → HexAsIs text bytes → HexText text bytes
