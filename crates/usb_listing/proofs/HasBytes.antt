-- Each line has a byte, its first letter.
use Rattle.std.proofs.Common.{◌<◌, ℕ, List, ◌∷◌, ◌++◌, map, drop, length, codes, lit<}
use Rattle.usb_fields.specs.declared.device.DeviceDescriptor.{DeviceDescriptor}
use Rattle.usb_fields.specs.declared.qualifier.Qualifier.{Qualifier}
use Rattle.usb_set.specs.declared.tree.SetKind.{SetKind}
use Rattle.usb_set.specs.declared.tree.SetKind.TheVariants as kinds
use Rattle.usb_set.specs.declared.extra.Extra.{Extra}
use Rattle.usb_set.specs.declared.extra.Extra.TheVariants as extras
use Rattle.usb_set.specs.declared.tree.Endpoint.{Endpoint}
use Rattle.usb_set.specs.declared.tree.Setting.{Setting}
use Rattle.usb_set.specs.declared.tree.Configuration.{Configuration}
use Rattle.std.specs.List.{flat_map}
use Rattle.usb_fields.specs.Fields.{cells}
use Rattle.usb_fields.specs.Device.{device_bytes, qualifier_bytes}
use Rattle.usb_set.specs.Descriptors.{configuration_descriptor, endpoint_descriptor, extra_descriptor, interface_descriptor, type_number}
use Rattle.usb_text.proofs.Pages.{longer}
use Rattle.usb_listing.specs.Table.{written_field, written_line, Row, configuration_row, device_row, endpoint_row, interface_row, qualifier_row, raw_row, row_line}
use Rattle.usb_text.specs.Characters.{two_bytes, written_unit}
use Rattle.usb_listing.specs.Listing.{device_line, qualifier_line, configuration_line, endpoint_line, extra_line, interface_line, row_of_extra, set_word, languages_line, string_line}

word_has : (kind : SetKind) → 0 < length (set_word kind)
word_has kinds.Configuration = lit< tt
word_has kinds.OtherSpeed = lit< tt

line_has : (word : List ℕ) (fields : List (List ℕ)) → 0 < length word → 0 < length (written_line word fields)
line_has word fields some = longer (word ++ flat_map written_field fields) (codes "\n") (longer word (flat_map written_field fields) some)

-- so has the line of each descriptor
row_has : (row : Row) (bytes : List ℕ) → 0 < length row.word → 0 < length (row_line row bytes)
row_has row bytes some = line_has row.word (cells row.widths row.tail (drop (length row.front) bytes)) some

pub device_has : (d : DeviceDescriptor) → 0 < length (device_line d)
unfolding device_line
device_has d = row_has device_row (drop 1 (device_bytes d)) (lit< tt)

pub qualifier_has : (q : Qualifier) → 0 < length (qualifier_line q)
unfolding qualifier_line
qualifier_has q = row_has qualifier_row (drop 1 (qualifier_bytes q)) (lit< tt)

pub configuration_has : (c : Configuration) → 0 < length (configuration_line c)
unfolding configuration_line
configuration_has c =
    row_has (configuration_row (set_word c.kind) (type_number c.kind)) (type_number c.kind ∷ (configuration_descriptor c 0).body) (word_has c.kind)

pub interface_has : (s : Setting) → 0 < length (interface_line s)
unfolding interface_line
interface_has s = row_has interface_row (4 ∷ (interface_descriptor s).body) (lit< tt)

pub endpoint_has : (e : Endpoint) → 0 < length (endpoint_line e)
unfolding endpoint_line
endpoint_has e = row_has endpoint_row (5 ∷ (endpoint_descriptor e).body) (lit< tt)

pub extra_has : (extra : Extra) → 0 < length (extra_line extra)
unfolding extra_line
extra_has (extras.Raw r) = row_has raw_row (r.kind ∷ r.body) (lit< tt)
extra_has x = row_has (row_of_extra x) ((extra_descriptor x).kind ∷ (extra_descriptor x).body) (lit< tt)

pub languages_has : (languages : List ℕ) → 0 < length (languages_line languages)
unfolding languages_line
languages_has languages = line_has (codes "languages") (map two_bytes languages) (lit< tt)

pub string_has : (units : List ℕ) → 0 < length (string_line units)
unfolding string_line
string_has units =
    longer (codes "string \"" ++ flat_map written_unit units) (codes "\"\n") (longer (codes "string \"") (flat_map written_unit units) (lit< tt))
