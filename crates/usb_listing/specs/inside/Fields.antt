-- The fields of a line, read.
use Rattle.std.specs.Prelude.{unwrap_or, ℕ, ◌+◌, ◌-◌, ◌*◌, ◌&&◌, nat_le, if◌then◌else◌, Option, Some, None, ◌≡◌, codes, take, drop, Bool, true, false, ◌==◌, ◌||◌, nat_lt, length, List, [], ◌∷◌, ◌++◌, zero, suc}
use Rattle.std.specs.Str.{bytes_eq}
use Rattle.usb_fields.specs.declared.field.Width.{Width}
use Rattle.usb_fields.specs.declared.field.Width.TheVariants.{One, Two}
use Rattle.usb_fields.specs.Fields.{size_of}
use Rattle.usb_text.specs.Characters.{is_plain}
use Rattle.usb_listing.specs.declared.row.Written.{Written}
use Rattle.usb_listing.specs.declared.row.Written.TheVariants as forms
use Rattle.usb_text.specs.HexDigits.{joined}

-- Lower-case hexadecimal digits, read.

-- the value of a lower-case digit
unfoldable pub digit_value : ℕ → Option ℕ
digit_value c =
    if nat_le 48 c && nat_le c 57 then Some (c - 48)
    else if nat_le 97 c && nat_le c 102 then Some (c - 87)
    else None

-- the byte of two digits
abbrev pub pair_value : ℕ → ℕ → Option ℕ
pair_value high low = joined (digit_value high) (digit_value low)

-- the value of a lower-case digit, or 256, which no two digits say
abbrev pub value_or : ℕ → ℕ
value_or c = unwrap_or (digit_value c) 256

-- what stands after a space
abbrev pub behind_space : List ℕ → Option (List ℕ)
behind_space [] = None
behind_space (c ∷ rest) = if c == 32 then Some rest else None

-- the bytes of a field, the low one first, and what stands after it
abbrev pub Cell : Type 0
Cell = Option (List ℕ × List ℕ)

abbrev pub one_with : Option ℕ → List ℕ → Cell
one_with None rest = None
one_with (Some b) rest = Some (b ∷ [], rest)

abbrev pub two_with : Option ℕ → Option ℕ → List ℕ → Cell
two_with (Some high) (Some low) rest = Some (low ∷ high ∷ [], rest)
two_with (Some high) None rest = None
two_with None low rest = None

-- the field of this width whose digits stand first
unfoldable pub cell_first : Width → List ℕ → Cell
cell_first One (a ∷ b ∷ rest) = one_with (pair_value a b) rest
cell_first One (a ∷ []) = None
cell_first One [] = None
cell_first Two (a ∷ b ∷ c ∷ d ∷ rest) = two_with (pair_value a b) (pair_value c d) rest
cell_first Two (a ∷ b ∷ c ∷ []) = None
cell_first Two (a ∷ b ∷ []) = None
cell_first Two (a ∷ []) = None
cell_first Two [] = None

-- the same there, if that is a place
abbrev pub cell_in : Width → Option (List ℕ) → Cell
cell_in width None = None
cell_in width (Some text) = cell_first width text

-- the same after a space
abbrev pub cell_of : Width → List ℕ → Cell
cell_of width text = cell_in width (behind_space text)

-- the bytes after those that are there, where one field more was read or not
abbrev pub cells_then : (List ℕ → List ℕ → Cell) → List ℕ → Cell → Cell
cells_then next done None = None
cells_then next done (Some (cell, rest)) = next (done ++ cell) rest

-- Fields of these widths: their bytes after those that are there, and what stands after the fields.
abbrev pub cells_from : List Width → List ℕ → List ℕ → Cell
cells_from [] done text = Some (done, text)
cells_from (width ∷ widths) done text = cells_then (cells_from widths) done (cell_of width text)

-- a byte before others
abbrev pub before : Option ℕ → Option (List ℕ) → Option (List ℕ)
before (Some b) (Some rest) = Some (b ∷ rest)
before (Some b) None = None
before None rest = None

-- the bytes of pairs of digits
unfoldable pub pairs_of : List ℕ → Option (List ℕ)
pairs_of [] = Some []
pairs_of (high ∷ []) = None
pairs_of (high ∷ low ∷ rest) = before (pair_value high low) (pairs_of rest)

-- the bytes of a tail after its space, `most` at most: a dash stands for none
abbrev pub tail_behind : ℕ → Option (List ℕ) → Option (List ℕ)
tail_behind most None = None
tail_behind most (Some text) =
    if bytes_eq text (codes "-") then Some []
    else if (length text == 0) || nat_lt (2 * most) (length text) then None
    else pairs_of text

-- a tail that ends a line
unfoldable pub tail_of : ℕ → List ℕ → Option (List ℕ)
tail_of most text = tail_behind most (behind_space text)

-- bytes with a tail after them, of 255 at most
abbrev pub with_tail : List ℕ → Option (List ℕ) → Option (List ℕ)
with_tail all None = None
with_tail all (Some tail) = Some (all ++ tail)

-- the bytes of fields with what stands after the fields: a tail, where there may be one, or nothing
abbrev pub ended : Bool → Cell → Option (List ℕ)
ended tail None = None
ended true (Some (all, rest)) = with_tail all (tail_of (255 - length all) rest)
ended false (Some (all, [])) = Some all
ended false (Some (all, x ∷ rest)) = None

-- with their count first, as bLength is
abbrev pub with_length : Option (List ℕ) → Option (List ℕ)
with_length None = None
with_length (Some b) = Some (length b ∷ drop 1 b)

-- The text read as the bytes of a whole descriptor: a place for bLength and what the line leaves out come first.
unfoldable pub bytes_in : List ℕ → List Width → Bool → List ℕ → Option (List ℕ)
bytes_in front widths tail text = with_length (ended tail (cells_from widths front text))

-- the bytes were put at this place of a buffer, after what stood before it, and end there; the buffer keeps its length
pub record Puts (old : List ℕ) (at : ℕ) (bytes new : List ℕ) (end : ℕ) : Type 0 where
  pub front : take end new ≡ take at old ++ bytes
  pub ends : end ≡ at + length bytes
  pub count : length new ≡ length old

-- a field was read into a buffer, and this stands after it
pub record PutsCell (width : Width) (text old : List ℕ) (at : ℕ) (new : List ℕ) (end : ℕ) (rest : List ℕ) : Type 0 where
  pub cell : List ℕ
  pub read : cell_of width text ≡ Some (cell, rest)
  pub size : length cell ≡ size_of (width ∷ [])
  pub puts : Puts old at cell new end

-- fields were
pub record PutsCells (widths : List Width) (text old : List ℕ) (at : ℕ) (new : List ℕ) (end : ℕ) (rest : List ℕ) : Type 0 where
  pub read : cells_from widths (take at old) text ≡ Some (take end new, rest)
  pub ends : end ≡ at + size_of widths
  pub count : length new ≡ length old

-- The units of a string and the language codes of a line, read.

-- a number of its high and its low byte, and what stands after it
abbrev pub number_with : Option ℕ → Option ℕ → List ℕ → Option (ℕ × List ℕ)
number_with (Some high) (Some low) rest = Some (high * 256 + low, rest)
number_with (Some high) None rest = None
number_with None low rest = None

-- the number whose four digits stand first
unfoldable pub number_first : List ℕ → Option (ℕ × List ℕ)
number_first (a ∷ b ∷ c ∷ d ∷ rest) = number_with (pair_value a b) (pair_value c d) rest
number_first (a ∷ b ∷ c ∷ []) = None
number_first (a ∷ b ∷ []) = None
number_first (a ∷ []) = None
number_first [] = None

-- a unit that has to be written as an escape
abbrev pub escaped : Option (ℕ × List ℕ) → Option (ℕ × List ℕ)
escaped None = None
escaped (Some (unit, rest)) = if is_plain unit then None else Some (unit, rest)

-- the unit that stands first
unfoldable pub unit_first : List ℕ → Option (ℕ × List ℕ)
unit_first [] = None
unit_first (c ∷ rest) =
    if c == 92 then escaped (number_first rest)
    else if is_plain c then Some (c, rest)
    else None

-- the number that stands first there, if that is a place
abbrev pub number_in : Option (List ℕ) → Option (ℕ × List ℕ)
number_in None = None
number_in (Some text) = number_first text

-- the value that stands first: a unit, or a number after a space
abbrev pub value_first : Written → List ℕ → Option (ℕ × List ℕ)
value_first forms.Unit text = unit_first text
value_first forms.Field text = number_in (behind_space text)

-- the values after those that are there, where one more was read or not
abbrev pub values_then : (List ℕ → List ℕ → Option (List ℕ)) → List ℕ → Option (ℕ × List ℕ) → Option (List ℕ)
values_then next done None = None
values_then next done (Some (value, rest)) = next (done ++ value ∷ []) rest

-- `most` values at most, to the end of the text, after those that are there
unfoldable pub values_from : Written → ℕ → List ℕ → List ℕ → Option (List ℕ)
values_from form most done [] = Some done
values_from form zero done (x ∷ text) = None
values_from form (suc most) done (x ∷ text) = values_then (values_from form most) done (value_first form (x ∷ text))
