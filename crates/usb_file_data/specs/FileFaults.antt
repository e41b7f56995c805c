-- What is wrong with the bytes of a file, and where.
use Rattle.std.specs.Prelude.{◌≡◌, ℕ, ◌+◌, ◌*◌, ◌%◌, ◌<◌, List, [], ◌∷◌, length, take, slice_index, Bool, true, false, not, nat_lt, ◌==◌, ◌||◌, Option, Some, None, is_some, if◌then◌else◌, ◌⊎◌, ◌-◌, get_or, map}
use Rattle.usb_fields.specs.Numbers.{number_in}
use Rattle.usb_fields.specs.Device.{device_fault, qualifier_fault}
use Rattle.usb_set.specs.declared.tree.SetKind.{SetKind}
use Rattle.usb_set.specs.declared.tree.SetKind.TheVariants as kinds
use Rattle.usb_set.specs.declared.tree.Configuration.{Configuration}
use Rattle.usb_set.specs.Faults.{Begins, Faulty, IsOpen}
use Rattle.usb_file_data.specs.declared.file.DescriptorFile.{DescriptorFile}
use Rattle.usb_file_data.specs.declared.file.Other.{Other}
use Rattle.usb_file_data.specs.declared.file.Strings.{Strings}
use Rattle.usb_file_data.specs.declared.fault.FileWhy.{FileWhy}
use Rattle.usb_file_data.specs.contracts.fault.FileWhy.{the_type as file_whys}
use Rattle.usb_file_data.specs.declared.fault.FileWhy.TheVariants as files
use Rattle.usb_file_data.specs.File.{named_indices, file_bytes, has_wrong_count, are_wrong_strings, is_other_kind, File}
use Rattle.usb_file_data.specs.Front.{AllSets, IsPartStart, Splits}
use Rattle.usb_file_data.specs.declared.fault.TheConstants.{FILE_MESSAGES}

-- what comes next after a prefix of a file
pub data NextPart : Type 0 where
  a_set : SetKind → NextPart
  a_qualifier : NextPart
  the_languages : NextPart
  a_string : NextPart
  the_end : NextPart

-- Whether bytes after the sets of the device begin a qualifier: the second one is its type, 6 (table 9-5),
-- or only the first is there.
abbrev pub begins_qualifier : List ℕ → Bool
begins_qualifier [] = false
begins_qualifier (x ∷ []) = true
begins_qualifier (x ∷ kind ∷ rest) = kind == 6

-- a qualifier is next: the prefix ends with all sets of the device, and what is left begins one
pub record QualifierIsNext (f : DescriptorFile) (rest : List ℕ) : Type 0 where
  pub all : length f.sets ≡ f.device.configurations
  pub no_other : f.other ≡ None
  pub no_strings : f.strings ≡ None
  pub begins : begins_qualifier rest ≡ true

-- none is: something else follows the sets of the device, or what is left begins none
abbrev pub NoQualifierIsNext : DescriptorFile → List ℕ → Type 0
NoQualifierIsNext f rest = f.other ≡ None → f.strings ≡ None → begins_qualifier rest ≡ false

-- the language list is next: the prefix ends with all sets, and an index is named
pub record LanguagesAreNext (f : DescriptorFile) (rest : List ℕ) : Type 0 where
  pub all : AllSets f f.other
  pub no_strings : f.strings ≡ None
  pub no_qualifier : NoQualifierIsNext f rest
  pub named : 0 < length (named_indices f)

-- the file must end: the prefix misses no set and no string
pub record EndIsNext (f : DescriptorFile) (rest : List ℕ) : Type 0 where
  pub counts : has_wrong_count f ≡ false
  pub texts : are_wrong_strings (length (named_indices f)) f.strings ≡ false
  pub no_qualifier : NoQualifierIsNext f rest

-- the qualifier is there, and fewer sets than it declares
abbrev pub MissesSet : Option Other → Type 0
MissesSet None = ⊥
MissesSet (Some o) = length o.sets < o.qualifier.configurations

-- the languages are there, and fewer strings than one for each language and each of this many named indices
abbrev pub MissesString : ℕ → Option Strings → Type 0
MissesString count None = ⊥
MissesString count (Some s) = length s.texts < length s.languages * count

-- this part comes next after a prefix of a file, where these bytes are left
abbrev pub IsNext : NextPart → DescriptorFile → List ℕ → Type 0
IsNext (a_set kinds.Configuration) f rest = length f.sets < f.device.configurations
IsNext (a_set kinds.OtherSpeed) f rest = MissesSet f.other
IsNext a_qualifier f rest = QualifierIsNext f rest
IsNext the_languages f rest = LanguagesAreNext f rest
IsNext a_string f rest = MissesString (length (named_indices f)) f.strings
IsNext the_end f rest = EndIsNext f rest

-- Whether two bytes are there, and begin no string descriptor of at least this many bytes: bLength is below
-- that or odd, or bDescriptorType is not 3 (9.6.7).
abbrev pub is_no_string : ℕ → List ℕ → Bool
is_no_string least [] = false
is_no_string least (len ∷ []) = false
is_no_string least (len ∷ kind ∷ rest) = nat_lt len least || (len % 2 == 1) || not (kind == 3)

-- the fault of a string descriptor of at least this many bytes
abbrev pub string_fault : ℕ → List ℕ → Option (ℕ × FileWhy)
string_fault least rest =
    if is_no_string least rest then Some (0, files.Text)
    else if nat_lt (length rest) 2 || nat_lt (length rest) (slice_index rest 0) then Some (length rest, files.Truncated)
    else None

-- the fault of a descriptor of this many bytes, which are wrong or not where they are all there
abbrev pub fixed_fault : ℕ → Bool → FileWhy → List ℕ → Option (ℕ × FileWhy)
fixed_fault long wrong why rest =
    if nat_lt (length rest) long then Some (length rest, files.Truncated)
    else if wrong then Some (0, why)
    else None

-- the fault of a set of this kind: its own, a whole set of the other kind, or bytes that end too early
abbrev pub SetFaulty : SetKind → List ℕ → ℕ → FileWhy → Type 0
SetFaulty kind rest place (files.Set why) = Faulty rest place why
SetFaulty kind rest place files.SetKind = (c : Configuration) × (n : ℕ) × Begins rest c n × (is_other_kind kind c ≡ true) × (place ≡ 1)
SetFaulty kind rest place files.Truncated = IsOpen rest × (place ≡ length rest)
SetFaulty kind rest place why = ⊥

-- The part shows this fault, at this place from its start: a language list has at least one language, and at
-- the end no byte is left.
abbrev pub PartFaulty : NextPart → List ℕ → ℕ → FileWhy → Type 0
PartFaulty (a_set kind) rest place why = SetFaulty kind rest place why
PartFaulty a_qualifier rest place why = fixed_fault 10 (is_some (qualifier_fault (take 10 rest))) files.Qualifier rest ≡ Some (place, why)
PartFaulty the_languages rest place why = string_fault 4 rest ≡ Some (place, why)
PartFaulty a_string rest place why = string_fault 2 rest ≡ Some (place, why)
PartFaulty the_end [] place why = ⊥
PartFaulty the_end (x ∷ rest) place why = (place ≡ 0) × (why ≡ files.Trailing)

-- the first part that is not there whole and right, and its fault
pub record FaultyPart (b : List ℕ) (at : ℕ) (why : FileWhy) : Type 0 where
  pub front : DescriptorFile
  pub rest : List ℕ
  pub splits : Splits b front rest
  pub part : NextPart
  pub next : IsNext part front rest
  pub place : ℕ
  pub fault : PartFaulty part rest place why
  pub at_is : at ≡ length (file_bytes front) + place

-- The bytes show this fault at this place: the device descriptor does (9.6.1), or the first later part that
-- is not there whole and right.
abbrev pub FileFaulty : List ℕ → ℕ → FileWhy → Type 0
FileFaulty b at why =
    (fixed_fault 18 (is_some (device_fault (take 18 b))) files.Device b ≡ Some (at, why)) ⊎ FaultyPart b at why

-- *Out of memory* is reported where a part starts, and else the fault that the bytes show.
abbrev pub ReadRefused : List ℕ → ℕ → FileWhy → Type 0
ReadRefused b at files.Memory = IsPartStart b at
ReadRefused b at why = FileFaulty b at why

-- What bytes are.

-- the bytes are those of a file, or they show a fault
pub data FileOrFault (b : List ℕ) : Type 0 where
  is_file : (f : DescriptorFile) → File f b → FileOrFault b
  is_faulty : (at : ℕ) (why : FileWhy) → FileFaulty b at why → FileOrFault b

-- The numbers of the faults, and their messages.

-- the number of what is wrong with the bytes of a file
abbrev pub why_number : FileWhy → ℕ
why_number why = number_in file_whys why

-- the message, for people: of a fault in a set what comes before the message of that
abbrev pub why_message : FileWhy → List ℕ
why_message why = get_or (map (λ message. message.now) FILE_MESSAGES) (why_number why - 1) []
