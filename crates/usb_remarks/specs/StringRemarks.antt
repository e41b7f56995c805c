-- What is remarked of string descriptors: a language list with a number that is none of a language, and a string that a unit 0
-- ends, as those of C are (USB 2.0, 9.6.7).
use Rattle.std.specs.Prelude.{ℕ, ◌+◌, ◌-◌, ◌*◌, List, [], ◌∷◌, drop, length, ◌==◌, ◌&&◌, nat_le, Option, Some, None, if◌then◌else◌}
use Rattle.std.specs.Option.{option_map}
use Rattle.usb_fields.specs.Bytes.{little_endian_at}
use Rattle.usb_file_data.specs.Likeness.{is_of_language}
use Rattle.usb_remarks.specs.declared.remark.Remark.{Remark}
use Rattle.usb_remarks.specs.declared.remark.Remark.TheVariants as remarks
use Rattle.usb_remarks.specs.RemarkValues.{remark_if}

-- the first of these units that is no number of a language
abbrev pub no_language : List ℕ → Option ℕ
no_language [] = None
no_language (low ∷ []) = None
no_language (low ∷ high ∷ rest) = if is_of_language high then no_language rest else Some (low + 256 * high)

-- that of a language list
abbrev pub languages_remark : List ℕ → Option Remark
languages_remark d = option_map remarks.NoLanguage (no_language (drop 2 d))

-- a string whose last unit is 0
abbrev pub text_remark : List ℕ → Option Remark
text_remark d = remark_if (nat_le 4 (length d) && (little_endian_at (drop (length d - 2) d) 0 == 0)) remarks.EndedString
