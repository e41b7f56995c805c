-- A file so far that grows by a line.
use Rattle.std.specs.Prelude.{ℕ, ◌*◌, ◌==◌, ◌&&◌, List, [], ◌∷◌, ◌++◌, drop, length, nat_lt, not, slice_index, Bool, true, false, Option, Some, None, is_none, is_some}
use Rattle.usb_fields.specs.Device.{device_of_bytes, qualifier_of_bytes}
use Rattle.usb_fields.specs.declared.device.DeviceDescriptor.{DeviceDescriptor}
use Rattle.usb_fields.specs.declared.qualifier.Qualifier.{Qualifier}
use Rattle.usb_set.specs.declared.tree.Configuration.{Configuration}
use Rattle.usb_set.specs.Building.{has_setting}
use Rattle.usb_set.specs.Descriptors.{Descriptor}
use Rattle.usb_set.specs.Layout.{set_length}
use Rattle.usb_set.specs.inside.Reading.{attach, configuration_of, with_last}
use Rattle.usb_file_data.specs.declared.file.DescriptorFile.{DescriptorFile}
use Rattle.usb_file_data.specs.declared.file.Other.{Other}
use Rattle.usb_file_data.specs.declared.file.Strings.{Strings}
use Rattle.usb_file_data.specs.File.{named_indices}
use Rattle.usb_listing.specs.declared.word.Word.{Word}
use Rattle.usb_listing.specs.declared.word.Word.TheVariants as words
use Rattle.usb_listing.specs.Says.{Item, fields, languages, string}

-- ---- descriptors of bytes

-- the device descriptor of its bytes
unfoldable pub device_of : List ℕ → DeviceDescriptor
device_of b = device_of_bytes b

-- the qualifier of its bytes
unfoldable pub qualifier_of : List ℕ → Qualifier
qualifier_of b = qualifier_of_bytes b

-- the descriptor of its bytes
abbrev pub descriptor_of : List ℕ → Descriptor
descriptor_of b = record { kind = slice_index b 1; body = drop 2 b }

-- ---- the current sets

-- the sets of the speed that the last lines are of, and how many are declared
abbrev pub open_sets : DescriptorFile → Option Other → List Configuration
open_sets f None = f.sets
open_sets f (Some o) = o.sets

abbrev pub declared : DescriptorFile → Option Other → ℕ
declared f None = f.device.configurations
declared f (Some o) = o.qualifier.configurations

-- the file with other sets of that speed
abbrev pub with_sets : List Configuration → DescriptorFile → Option Other → DescriptorFile
with_sets cs f None = record f { sets = cs }
with_sets cs f (Some o) = record f { other = Some (record o { sets = cs }) }

-- the last element, if there is one
abbrev pub last_of : {A : Type 0} → List A → Option A
last_of [] = None
last_of (x ∷ []) = Some x
last_of (x ∷ y ∷ ys) = last_of (y ∷ ys)

-- whether the set has an interface, and how many bytes it has: 0 where there is none
abbrev pub has_interface : Option Configuration → Bool
has_interface None = false
has_interface (Some c) = has_setting c

abbrev pub length_of : Option Configuration → ℕ
length_of None = 0
length_of (Some c) = set_length c

-- ---- which word may follow

-- Whether the word may follow where no language list is there. A set comes in its part, up to as many as declared. Others
-- come only in a set, an endpoint only after an interface of it. The qualifier comes after the sets of the device, the
-- languages where all sets are there and a string is named.
abbrev pub may_follow_sets : Word → DescriptorFile → Option Other → Bool
may_follow_sets words.Configuration f o = is_none o && nat_lt (length (open_sets f o)) (declared f o)
may_follow_sets words.OtherSpeed f o = is_some o && nat_lt (length (open_sets f o)) (declared f o)
may_follow_sets words.Endpoint f o = has_interface (last_of (open_sets f o))
may_follow_sets words.Interface f o = not (length (open_sets f o) == 0)
may_follow_sets (words.Extra x) f o = not (length (open_sets f o) == 0)
may_follow_sets words.Qualifier f o = is_none o && (length (open_sets f o) == declared f o)
may_follow_sets words.Languages f o = (length (open_sets f o) == declared f o) && not (length (named_indices f) == 0)
may_follow_sets words.Device f o = false
may_follow_sets words.String f o = false

-- whether it is the word of a string
abbrev pub is_string : Word → Bool
is_string words.String = true
is_string word = false

-- as many strings follow the languages as are named in each of them
abbrev pub may_follow : Word → DescriptorFile → Option Strings → Bool
may_follow word f None = may_follow_sets word f f.other
may_follow word f (Some s) = is_string word && nat_lt (length s.texts) (length s.languages * length (named_indices f))

-- the device descriptor comes first, and only there
abbrev pub may_stand : Option DescriptorFile → Word → Bool
may_stand None words.Device = true
may_stand None word = false
may_stand (Some f) word = may_follow word f f.strings

-- ---- a file with one more descriptor

-- the set with one more descriptor
unfoldable pub set_and : List ℕ → Configuration → Configuration
set_and b c = attach c (descriptor_of b)

-- with one more set, and with one more descriptor in the last
abbrev pub begun : List ℕ → DescriptorFile → DescriptorFile
begun b f = with_sets (open_sets f f.other ++ configuration_of b ∷ []) f f.other

abbrev pub joined_to : List ℕ → DescriptorFile → DescriptorFile
joined_to b f = with_sets (with_last (set_and b) (open_sets f f.other)) f f.other

-- with one more string
abbrev pub with_string : List ℕ → DescriptorFile → Option Strings → DescriptorFile
with_string us f None = f
with_string us f (Some s) = record f { strings = Some (record s { texts = s.texts ++ us ∷ [] }) }

-- the file with one more descriptor
unfoldable pub file_and : Item → DescriptorFile → DescriptorFile
file_and (fields words.Device b) f = f
file_and (fields words.Configuration b) f = begun b f
file_and (fields words.OtherSpeed b) f = begun b f
file_and (fields words.Qualifier b) f = record f { other = Some (record { qualifier = qualifier_of b; sets = [] }) }
file_and (fields word b) f = joined_to b f
file_and (languages us) f = record f { strings = Some (record { languages = us; texts = [] }) }
file_and (string us) f = with_string us f f.strings
