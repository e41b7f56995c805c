-- The bytes of a descriptor file, which files have bytes, and which strings a file names (USB 2.0, 9.4.3 and 9.6).
use Rattle.std.specs.Prelude.{ℕ, List, [], ◌∷◌, ◌++◌, map, filter, Option, Some, None, ◌==◌, ◌≡◌, ◌*◌, length, Bool, false, not, nat_lt, ◌||◌, is_some, if◌then◌else◌, ◌+◌, slice_get, position, option_and_then}
use Rattle.std.specs.List.{flat_map, list_any, range_with_len}
use Rattle.usb_fields.specs.declared.device.DeviceDescriptor.{DeviceDescriptor}
use Rattle.usb_set.specs.declared.tree.Configuration.{Configuration}
use Rattle.usb_set.specs.declared.tree.Setting.{Setting}
use Rattle.usb_set.specs.declared.extra.Association.{Association}
use Rattle.usb_set.specs.Owners.{associations_of}
use Rattle.usb_file_data.specs.declared.file.DescriptorFile.{DescriptorFile}
use Rattle.usb_file_data.specs.declared.file.Other.{Other}
use Rattle.usb_fields.specs.Bytes.{AreBytes}
use Rattle.usb_fields.specs.Device.{device_bytes, qualifier_bytes}
use Rattle.usb_fields.specs.Units.{units_bytes}
use Rattle.usb_set.specs.declared.tree.SetKind.{SetKind}
use Rattle.usb_set.specs.declared.tree.SetKind.TheVariants as kinds
use Rattle.usb_set.specs.Descriptors.{type_number}
use Rattle.usb_set.specs.Layout.{set_bytes, refusal_of, set_length}
use Rattle.usb_file_data.specs.declared.file.Strings.{Strings}
use Rattle.usb_file_data.specs.declared.refusal.WriteFault.{WriteFault}
use Rattle.usb_file_data.specs.declared.refusal.WriteFault.TheVariants as writes
use Rattle.std.specs.Option.{option_map}

-- Which strings a file names (USB 2.0, 9.6.7).

-- iManufacturer, iProduct and iSerialNumber of a device (9.6.1)
abbrev pub device_string_indices : DeviceDescriptor → List ℕ
device_string_indices d = d.maker_text ∷ d.product_text ∷ d.serial_text ∷ []

-- iInterface of an interface setting (9.6.5)
abbrev pub interface_string_index : Setting → ℕ
interface_string_index s = s.text

-- iFunction of an interface association (its ECN, 9.X.Y)
abbrev pub association_string_index : Association → ℕ
association_string_index a = a.text

-- iConfiguration of a set, and iInterface and iFunction of its settings and associations (9.6.3 and 9.6.5)
abbrev pub set_string_indices : Configuration → List ℕ
set_string_indices c =
    c.text ∷ map interface_string_index c.settings ++ map association_string_index (associations_of c)

-- the sets of the other speed, if there is one
abbrev pub other_sets : Option Other → List Configuration
other_sets None = []
other_sets (Some other) = other.sets

-- each number that is in the file where the index of a string belongs
abbrev pub string_indices : DescriptorFile → List ℕ
string_indices f =
    device_string_indices f.device ++ flat_map set_string_indices f.sets ++ flat_map set_string_indices (other_sets f.other)

-- those of 1 to 255 that are in the list, ascending: an index of 0 names no string
unfoldable pub named_among : List ℕ → List ℕ
named_among indices = filter (λ n. list_any (λ index. index == n) indices) (range_with_len 1 255)

-- the indices of the strings that the file names, ascending
abbrev pub named_indices : DescriptorFile → List ℕ
named_indices f = named_among (string_indices f)

-- The bytes of a descriptor file, and which files have bytes (USB 2.0, 9.4.3 and 9.6).

-- a set whose wTotalLength is the count of its bytes (9.6.3)
unfoldable pub whole_set : Configuration → List ℕ
whole_set c = set_bytes c (set_length c)

-- sets one after another
abbrev pub sets_bytes : List Configuration → List ℕ
sets_bytes sets = flat_map whole_set sets

-- the qualifier and the sets of the other speed, if there is one (9.6.2 and 9.6.4)
abbrev pub other_bytes : Option Other → List ℕ
other_bytes None = []
other_bytes (Some o) = qualifier_bytes o.qualifier ++ sets_bytes o.sets

-- strings one after another
abbrev pub each_string_bytes : List (List ℕ) → List ℕ
each_string_bytes strings = flat_map units_bytes strings

-- the language list and the strings, if there are any (9.6.7)
abbrev pub strings_bytes : Option Strings → List ℕ
strings_bytes None = []
strings_bytes (Some s) = units_bytes s.languages ++ each_string_bytes s.texts

-- the device descriptor and the other parts of the file in their order, as far as they are there
abbrev pub file_bytes : DescriptorFile → List ℕ
file_bytes f = device_bytes f.device ++ sets_bytes f.sets ++ other_bytes f.other ++ strings_bytes f.strings

-- whether the sets of the other speed are not as many as the qualifier's bNumConfigurations
abbrev pub is_other_miscounted : Option Other → Bool
is_other_miscounted None = false
is_other_miscounted (Some o) = not (length o.sets == o.qualifier.configurations)

-- whether the sets of a part are not as many as bNumConfigurations there
abbrev pub has_wrong_count : DescriptorFile → Bool
has_wrong_count f = not (length f.sets == f.device.configurations) || is_other_miscounted f.other

-- whether the set is of the other kind
abbrev pub is_other_kind : SetKind → Configuration → Bool
is_other_kind kind c = not (type_number c.kind == type_number kind)

-- whether an other-speed set is among those of the device, or the other way round
abbrev pub has_wrong_kind : DescriptorFile → Bool
has_wrong_kind f = list_any (is_other_kind kinds.Configuration) f.sets || list_any (is_other_kind kinds.OtherSpeed) (other_sets f.other)

-- whether the set has no bytes
abbrev pub has_no_layout : Configuration → Bool
has_no_layout c = is_some (refusal_of c)

-- whether a set of either speed has none
abbrev pub has_wrong_layout : DescriptorFile → Bool
has_wrong_layout f = list_any has_no_layout f.sets || list_any has_no_layout (other_sets f.other)

-- whether the units are more than bLength can say
abbrev pub is_long_string : List ℕ → Bool
is_long_string units = nat_lt 126 (length units)

-- whether the language list or a string has more
abbrev pub has_long_string : Option Strings → Bool
has_long_string None = false
has_long_string (Some s) = is_long_string s.languages || list_any is_long_string s.texts

-- Whether the strings are not those of this many named indices: there are strings exactly where an index is
-- named, with 1 to 126 languages, one string for each language and index, and none over 126 units.
abbrev pub are_wrong_strings : ℕ → Option Strings → Bool
are_wrong_strings count None = not (count == 0)
are_wrong_strings count (Some s) =
    (count == 0) || (length s.languages == 0) || has_long_string (Some s)
    || not (length s.texts == length s.languages * count)

-- the first reason why the file has no bytes
abbrev pub write_refusal : DescriptorFile → Option WriteFault
write_refusal f =
    if has_wrong_count f then Some writes.Count
    else if has_wrong_kind f then Some writes.Kind
    else if has_wrong_layout f then Some writes.Layout
    else if are_wrong_strings (length (named_indices f)) f.strings then Some writes.Texts
    else None

-- The bytes are the file's: its parts one after another and nothing after them, each number within its
-- width, and each count, kind, layout and string as it has to be.
pub record File (f : DescriptorFile) (b : List ℕ) : Type 0 where
  pub bytes : b ≡ file_bytes f
  pub fits : AreBytes b
  pub counts : has_wrong_count f ≡ false
  pub kinds : has_wrong_kind f ≡ false
  pub layouts : has_wrong_layout f ≡ false
  pub texts : are_wrong_strings (length (named_indices f)) f.strings ≡ false

-- *Out of memory* is reported of files that have bytes, and else the first reason.
abbrev pub WriteRefused : DescriptorFile → WriteFault → Type 0
WriteRefused f writes.Memory = write_refusal f ≡ None
WriteRefused f fault = write_refusal f ≡ Some fault

-- The string of an index in a language (USB 2.0, 9.6.7).

-- the place of a string among those of all languages, where these indices are named: language by language, one for each
-- index in ascending order
abbrev pub string_place : Strings → List ℕ → ℕ → ℕ → Option ℕ
string_place s named index language =
    option_and_then (λ row. option_map (λ column. row * length named + column) (position (λ n. n == index) named))
    (position (λ l. l == language) s.languages)

-- the units of a string
abbrev pub units_at : Strings → List ℕ → ℕ → ℕ → Option (List ℕ)
units_at s named index language = option_and_then (slice_get s.texts) (string_place s named index language)

-- the units of a file's string of this index in this language, if the file has it
abbrev pub units_of : DescriptorFile → ℕ → ℕ → Option (List ℕ)
units_of f index language = option_and_then (λ s. units_at s (named_indices f) index language) f.strings
