-- What is explained, and what is known of the whole of it.
use Rattle.std.specs.Prelude.{ℕ, zero, ◌/◌, ◌%◌, List, slice_get, Bool, length, Option, Some, None, option_and_then, Result, Ok, Err}
use Rattle.usb_file_data.specs.declared.file.Strings.{Strings}
use Rattle.usb_file_data.specs.declared.file.Input.{Input}
use Rattle.usb_file_data.specs.declared.file.Input.TheVariants as inputs
use Rattle.usb_file_data.specs.declared.fault.InputFault.{InputFault}
use Rattle.usb_walk.specs.declared.string_place.StringPlace.{StringPlace}
use Rattle.usb_explain.specs.declared.string_names.Missing.TheVariants.{NotInInput, NotRead}
use Rattle.usb_explain.specs.StringNames.{StringNames, names_of, no_names}
use Rattle.usb_explain.specs.declared.manner.Manner.{Manner}

-- What is read of bytes.
abbrev pub Reading : Type 0
Reading = Result Input InputFault

-- what is explained: how, and what its indices name
pub record Subject : Type 0 where
  pub manner : Manner
  pub names : StringNames

-- the strings of a file, which other inputs haven't
abbrev pub names_in : Bool → Input → StringNames
names_in utf8 (inputs.File file) = names_of utf8 file
names_in utf8 _ = no_names NotInInput

-- what is explained of bytes that were read; strings of bytes that are no input aren't read
abbrev pub subject_of : Manner → Reading → Subject
subject_of manner (Ok input) = record { manner = manner; names = names_in manner.look.utf8 input }
subject_of manner (Err fault) = record { manner = manner; names = no_names NotRead }

-- a language and an index
abbrev pub place_by : Option ℕ → Option ℕ → Option StringPlace
place_by (Some language) (Some index) = Some (record { index = index; language = language })
place_by _ _ = None

-- the place of the string of this number among strings of n named indices: language by language, and in each one for each
-- index in ascending order
abbrev pub place_among : ℕ → List ℕ → Strings → ℕ → Option StringPlace
place_among zero named strings number = None
place_among n named strings number = place_by (slice_get strings.languages (number / n)) (slice_get named (number % n))

-- the place of a string among those of a file
abbrev pub place_of : Subject → ℕ → Option StringPlace
place_of subject number =
    let named = subject.names.named in
    option_and_then (λ strings. place_among (length named) named strings number) subject.names.strings
