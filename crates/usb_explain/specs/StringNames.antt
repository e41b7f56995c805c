-- Indices of strings, with the strings that they name (USB 2.0, 9.6.7).
use Rattle.std.specs.Prelude.{ℕ, ◌==◌, List, [], ◌∷◌, slice_get, Bool, false, Option, Some, None, option_and_then, if◌then◌else◌}
use Rattle.usb_file_data.specs.declared.file.DescriptorFile.{DescriptorFile}
use Rattle.usb_file_data.specs.declared.file.Strings.{Strings}
use Rattle.usb_file_data.specs.File.{named_indices, units_at}
use Rattle.usb_text.specs.Shown.{Shown, Number, Units}
use Rattle.usb_explain.specs.declared.string_names.Missing.{Missing}
use Rattle.usb_explain.specs.declared.string_names.Missing.TheVariants.{NotInInput}

-- the strings of an input and the indices that name them, why there is no string of another index, and whether characters
-- beyond ASCII are written
pub record StringNames : Type 0 where
  pub strings : Option Strings
  pub named : List ℕ
  pub missing : Missing
  pub utf8 : Bool

-- those of a file
abbrev pub names_of : Bool → DescriptorFile → StringNames
names_of utf8 f = record { strings = f.strings; named = named_indices f; missing = NotInInput; utf8 = utf8 }

-- those of an input that has no strings, or of which they aren't read
abbrev pub no_names : Missing → StringNames
no_names missing = record { strings = None; named = []; missing = missing; utf8 = false }

-- the units of an index in the first language
abbrev pub units_in_first_language : List ℕ → ℕ → Strings → Option (List ℕ)
units_in_first_language named index strings =
    option_and_then (λ language. units_at strings named index language) (slice_get strings.languages 0)

-- the units of an index, if they are there
abbrev pub named_units : StringNames → ℕ → Option (List ℕ)
named_units names index = option_and_then (units_in_first_language names.named index) names.strings

-- the units of a string, if it is there
abbrev pub units_shown : Option (List ℕ) → List Shown
units_shown None = []
units_shown (Some units) = Units units ∷ []

-- the index of a string, and the string; index 0 names none
unfoldable pub index_shown : StringNames → ℕ → List Shown
index_shown names index = Number index ∷ (if index == 0 then [] else units_shown (named_units names index))
