-- The descriptors that a device hands out (USB 2.0, 9.4.3).
use Rattle.usb_fields.specs.declared.packet.Speed.{Speed}
use Rattle.usb_file_data.specs.declared.file.DescriptorFile.{DescriptorFile}
use Rattle.std.specs.Prelude.{ℕ, ◌==◌, List, slice_get, Option, Some, None, if◌then◌else◌}
use Rattle.std.specs.Option.{option_map}
use Rattle.usb_fields.specs.Device.{device_bytes, qualifier_bytes}
use Rattle.usb_fields.specs.Units.{units_bytes}
use Rattle.usb_set.specs.declared.tree.Configuration.{Configuration}
use Rattle.usb_file_data.specs.declared.file.Other.{Other}
use Rattle.usb_file_data.specs.declared.file.Strings.{Strings}
use Rattle.usb_file_data.specs.File.{whole_set, named_indices, units_at}

-- What callers see of a description.

-- the descriptors of a device, and the speed that it runs at
pub record Described : Type 0 where
  pub file : DescriptorFile
  pub speed : Speed

-- The descriptors that a device hands out (USB 2.0, 9.4.3).

-- the device descriptor, of index 0 (9.6.1)
abbrev pub device_of : DescriptorFile → ℕ → Option (List ℕ)
device_of f index = if index == 0 then Some (device_bytes f.device) else None

-- the set of this index, with all that belongs to it (9.6.3 and 9.6.4)
abbrev pub set_at : List Configuration → ℕ → Option (List ℕ)
set_at sets index = option_map whole_set (slice_get sets index)

-- the qualifier, where the device has a second speed (9.6.2)
abbrev pub qualifier_of : Option Other → ℕ → Option (List ℕ)
qualifier_of None index = None
qualifier_of (Some other) index = if index == 0 then Some (qualifier_bytes other.qualifier) else None

-- the set of this index at the second speed, where there is one
abbrev pub other_set_at : Option Other → ℕ → Option (List ℕ)
other_set_at None index = None
other_set_at (Some other) index = set_at other.sets index

-- string 0 is the language list, and any other index that is named is a string in each language of the list (9.6.7)
abbrev pub string_at : Option Strings → List ℕ → ℕ → ℕ → Option (List ℕ)
string_at None named index language = None
string_at (Some s) named index language =
    if index == 0 then Some (units_bytes s.languages) else option_map units_bytes (units_at s named index language)

-- the descriptor of this type and index, in this language where it is a string (9.4.3)
abbrev pub descriptor : DescriptorFile → ℕ → ℕ → ℕ → Option (List ℕ)
descriptor f kind index language =
    if kind == 1 then device_of f index
    else if kind == 2 then set_at f.sets index
    else if kind == 3 then string_at f.strings (named_indices f) index language
    else if kind == 6 then qualifier_of f.other index
    else if kind == 7 then other_set_at f.other index
    else None
