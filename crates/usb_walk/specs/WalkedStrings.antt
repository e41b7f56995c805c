-- The strings of a walk and those of an input, each with its index and its language (USB 2.0, 9.6.7).
use Rattle.std.specs.Prelude.{◌≡◌, ℕ, ◌==◌, List, [], map, filter, take, drop, flat_map, zip, Bool, Option, Some, None}
use Rattle.usb_fields.specs.Units.{units_bytes}
use Rattle.usb_file_data.specs.declared.file.Input.{Input}
use Rattle.usb_file_data.specs.declared.file.Input.TheVariants as inputs
use Rattle.usb_file_data.specs.declared.file.Strings.{Strings}
use Rattle.usb_file_data.specs.File.{named_indices}
use Rattle.usb_file_data.specs.Inputs.{IsInput}
use Rattle.usb_walk.specs.declared.role.Role.TheVariants as roles
use Rattle.usb_walk.specs.declared.string_place.StringPlace.{StringPlace}
use Rattle.usb_walk.specs.declared.walked_descriptor.WalkedDescriptor.{WalkedDescriptor}
use Rattle.usb_walk.specs.RoleNumbers.{role_number}
use Rattle.usb_walk.specs.WalkedDescriptors.{walked}

-- the index and the language of a string, and the bytes of its descriptor
pub record IndexedString : Type 0 where
  pub index : ℕ
  pub language : ℕ
  pub bytes : List ℕ

-- what a walk says of a string
abbrev pub string_walked : List ℕ → WalkedDescriptor → IndexedString
string_walked b d = record { index = d.index; language = d.language; bytes = take d.length (drop d.place b) }

-- whether a descriptor of a walk is a string
abbrev pub is_string : WalkedDescriptor → Bool
is_string d = d.role == role_number roles.Text

-- the strings among descriptors of a walk
abbrev pub strings_among : List ℕ → List WalkedDescriptor → List IndexedString
strings_among b ds = map (string_walked b) (filter is_string ds)

-- the strings of a walk over these bytes
abbrev pub strings_walked : List ℕ → List IndexedString
strings_walked b = strings_among b (walked b)

-- an index in a language
abbrev pub in_language : ℕ → ℕ → StringPlace
in_language language index = record { index = index; language = language }

-- language by language, each of these indices
abbrev pub string_places : List ℕ → List ℕ → List StringPlace
string_places indices languages = flat_map (λ language. map (in_language language) indices) languages

-- the units of a string that has this index and this language
abbrev pub indexed : StringPlace × List ℕ → IndexedString
indexed s = record { index = s.0.index; language = s.0.language; bytes = units_bytes s.1 }

-- strings in the order of the list of languages, and in each language in that of the indices
abbrev pub indexed_strings : List ℕ → Option Strings → List IndexedString
indexed_strings indices None = []
indexed_strings indices (Some s) = map indexed (zip (string_places indices s.languages) s.texts)

-- the strings of an input: those of the indices that a file names, ascending; a set and a dump have none
abbrev pub strings_of : Input → List IndexedString
strings_of (inputs.Set set) = []
strings_of (inputs.File file) = indexed_strings (named_indices file) file.strings
strings_of (inputs.Dump file) = []

-- the strings of a walk over an input are the strings of the input, each with its index, its language and its bytes
abbrev pub WalkHasStrings : Type 0
WalkHasStrings = (input : Input) (b : List ℕ) → IsInput input b → strings_walked b ≡ strings_of input
