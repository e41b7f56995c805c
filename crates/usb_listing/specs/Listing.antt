-- The listing of a file: one line for each descriptor, in the order of the file.
use Rattle.std.specs.Prelude.{ℕ, List, [], ◌++◌, map, codes, Option, Some, None, ◌∷◌, drop}
use Rattle.std.specs.List.{flat_map}
use Rattle.usb_file_data.specs.declared.file.Strings.{Strings}
use Rattle.usb_listing.specs.Table.{written_line, Row, row_line, row_of, configuration_row, raw_row, descriptor_line, device_row, qualifier_row}
use Rattle.usb_text.specs.Characters.{two_bytes, written_unit}
use Rattle.usb_set.specs.declared.tree.SetKind.{SetKind}
use Rattle.usb_set.specs.declared.tree.SetKind.TheVariants as kinds
use Rattle.usb_set.specs.declared.extra.Extra.{Extra}
use Rattle.usb_set.specs.declared.extra.Extra.TheVariants as extras
use Rattle.usb_set.specs.declared.tree.Endpoint.{Endpoint}
use Rattle.usb_set.specs.declared.tree.Setting.{Setting}
use Rattle.usb_set.specs.declared.tree.Configuration.{Configuration}
use Rattle.usb_set.specs.Descriptors.{configuration_descriptor, endpoint_descriptor, extra_descriptor, interface_descriptor, type_number}
use Rattle.usb_fields.specs.declared.device.DeviceDescriptor.{DeviceDescriptor}
use Rattle.usb_fields.specs.declared.qualifier.Qualifier.{Qualifier}
use Rattle.usb_file_data.specs.declared.file.DescriptorFile.{DescriptorFile}
use Rattle.usb_file_data.specs.declared.file.Input.{Input}
use Rattle.usb_file_data.specs.declared.file.Input.TheVariants as inputs
use Rattle.usb_file_data.specs.declared.file.Other.{Other}
use Rattle.usb_fields.specs.Device.{device_bytes, qualifier_bytes}

-- The listing of a device's strings (USB 2.0, 9.6.7).

-- `languages`: the language codes
unfoldable pub languages_line : List ℕ → List ℕ
languages_line languages = written_line (codes "languages") (map two_bytes languages)

-- `string`: the UTF-16 code units between quotes
unfoldable pub string_line : List ℕ → List ℕ
string_line units = codes "string \"" ++ flat_map written_unit units ++ codes "\"\n"

-- the languages' line and those of the strings, if there are any
abbrev pub strings_lines : Option Strings → List ℕ
strings_lines None = []
strings_lines (Some s) = languages_line s.languages ++ flat_map string_line s.texts

-- The listing of a set: one line for each descriptor, in the order of its bytes.

-- the row of an extra: a raw one is a `raw` line whatever its type, any other is of its type
abbrev pub row_of_extra : Extra → Row
row_of_extra (extras.Raw r) = raw_row
row_of_extra x = row_of (extra_descriptor x).kind

-- the line of a descriptor that belongs to the typed one before it
unfoldable pub extra_line : Extra → List ℕ
extra_line x = row_line (row_of_extra x) ((extra_descriptor x).kind ∷ (extra_descriptor x).body)

-- `endpoint`: the fields of an endpoint descriptor, and the bytes after them (USB 2.0, 9.6.6)
unfoldable pub endpoint_line : Endpoint → List ℕ
endpoint_line e = descriptor_line (endpoint_descriptor e)

-- an endpoint's line, and those of the extras that follow it
abbrev pub endpoint_lines : Endpoint → List ℕ
endpoint_lines e = endpoint_line e ++ flat_map extra_line e.extras

-- `interface`: the fields of an interface descriptor, and the bytes after them (USB 2.0, 9.6.5)
unfoldable pub interface_line : Setting → List ℕ
interface_line s = descriptor_line (interface_descriptor s)

-- an interface's line, those of the extras that follow it, and those of its endpoints
abbrev pub setting_lines : Setting → List ℕ
setting_lines s = interface_line s ++ flat_map extra_line s.extras ++ flat_map endpoint_lines s.endpoints

-- the word of a set's first descriptor
abbrev pub set_word : SetKind → List ℕ
set_word kinds.Configuration = codes "configuration"
set_word kinds.OtherSpeed = codes "other_speed"

-- The fields of a set's first descriptor, and the bytes after them (USB 2.0, 9.6.3). wTotalLength is
-- left out, since it is the count of the set's bytes.
unfoldable pub configuration_line : Configuration → List ℕ
configuration_line c = row_line (configuration_row (set_word c.kind) (type_number c.kind)) (type_number c.kind ∷ (configuration_descriptor c 0).body)

-- the lines of a whole set
abbrev pub set_lines : Configuration → List ℕ
set_lines c = configuration_line c ++ flat_map extra_line c.extras ++ flat_map setting_lines c.settings

-- `device`: the fields of the device descriptor (USB 2.0, 9.6.1)
unfoldable pub device_line : DeviceDescriptor → List ℕ
device_line d = row_line device_row (drop 1 (device_bytes d))

-- `qualifier`: the fields of the device qualifier (USB 2.0, 9.6.2)
unfoldable pub qualifier_line : Qualifier → List ℕ
qualifier_line q = row_line qualifier_row (drop 1 (qualifier_bytes q))

-- the qualifier's line and those of the other-speed sets, if there is another speed
abbrev pub other_lines : Option Other → List ℕ
other_lines None = []
other_lines (Some other) = qualifier_line other.qualifier ++ flat_map set_lines other.sets

-- the lines of a whole file
abbrev pub file_lines : DescriptorFile → List ℕ
file_lines f = device_line f.device ++ flat_map set_lines f.sets ++ other_lines f.other ++ strings_lines f.strings

-- the lines of an input: a dump has those of its device and its sets
abbrev pub input_lines : Input → List ℕ
input_lines (inputs.Set set) = set_lines set
input_lines (inputs.File file) = file_lines file
input_lines (inputs.Dump file) = file_lines file
