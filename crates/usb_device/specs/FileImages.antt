-- The image of a descriptor file.
use Rattle.std.specs.Prelude.{ℕ, zero, suc, ◌+◌, ◌==◌, List, [], ◌∷◌, ◌++◌, length, take, drop, map, Option, None, Some, if◌then◌else◌}
use Rattle.std.specs.List.{flat_map}
use Rattle.usb_fields.specs.Units.{units_bytes}
use Rattle.usb_set.specs.declared.tree.Configuration.{Configuration}
use Rattle.usb_set.specs.declared.tree.Endpoint.{Endpoint}
use Rattle.usb_set.specs.declared.tree.Setting.{Setting}
use Rattle.usb_file_data.specs.declared.file.DescriptorFile.{DescriptorFile}
use Rattle.usb_file_data.specs.declared.file.Other.{Other}
use Rattle.usb_file_data.specs.declared.file.Strings.{Strings}
use Rattle.usb_fields.specs.Device.{device_bytes, qualifier_bytes}
use Rattle.usb_file_data.specs.File.{whole_set, named_indices}
use Rattle.usb_device.specs.Images.{Piece, image_bytes, strings_bytes}

-- a descriptor with its type and index
abbrev pub keyed : ℕ → ℕ → List ℕ → Piece
keyed kind index body = record { kind = kind; index = index; number = 0; body = body }

-- What requests can name.

abbrev pub endpoint_bytes : Endpoint → List ℕ
endpoint_bytes e = e.address ∷ e.attributes ∷ []

abbrev pub setting_piece : Setting → Piece
setting_piece t = record { kind = 4; index = t.number; number = t.alternate; body = flat_map endpoint_bytes t.endpoints }

abbrev pub set_piece : Configuration → Piece
set_piece c = record { kind = 2; index = c.value; number = c.attributes; body = image_bytes (map setting_piece c.settings) }

-- The descriptors.

-- those of a type, by index, from this one on
unfoldable pub indexed : ℕ → ℕ → List (List ℕ) → List Piece
indexed kind first [] = []
indexed kind first (body ∷ rest) = keyed kind first body ∷ indexed kind (suc first) rest

-- those of the second speed, if there is one
abbrev pub other_pieces : Option Other → List Piece
other_pieces None = []
other_pieces (Some o) = keyed 6 0 (qualifier_bytes o.qualifier) ∷ indexed 7 0 (map whole_set o.sets)

-- the places of the strings of these indices, where this many indices are left, from this one on, and the strings from this place
-- on, and where the last one ends
unfoldable pub places : ℕ → ℕ → ℕ → List ℕ → List (List ℕ) → List ℕ
places zero next at named texts = at ∷ []
places (suc n) next at [] texts = at ∷ []
places (suc n) next at (index ∷ named) [] = at ∷ []
places (suc n) next at (index ∷ named) (units ∷ texts) =
    at ∷ (if index == next then places n (next + 1) (at + length (units_bytes units)) named texts else places n (next + 1) at (index ∷ named) (units ∷ texts))

-- the strings of a language: the first of these texts, one for each of the named indices
abbrev pub language_bytes : List ℕ → List (List ℕ) → List ℕ
language_bytes named texts = strings_bytes (places 255 1 0 named texts) (flat_map units_bytes (take (length named) texts))

-- those of each language: the strings are language by language
unfoldable pub language_pieces : List ℕ → List ℕ → List (List ℕ) → List Piece
language_pieces named [] texts = []
language_pieces named (language ∷ languages) texts =
    record { kind = 128; index = 0; number = language; body = language_bytes named texts }
    ∷ language_pieces named languages (drop (length named) texts)

-- the language list and the strings, if there are any
abbrev pub string_pieces : List ℕ → Option Strings → List Piece
string_pieces named None = []
string_pieces named (Some s) = keyed 3 0 (units_bytes s.languages) ∷ language_pieces named s.languages s.texts

-- The image.

-- the head, with version 1 of the format, what requests can name, and the device descriptor
abbrev pub front_pieces : DescriptorFile → List Piece
front_pieces f =
    record { kind = 0; index = 1; number = f.device.packet; body = [] }
    ∷ keyed 129 0 (image_bytes (map set_piece f.sets))
    ∷ keyed 1 0 (device_bytes f.device)
    ∷ []

-- with the sets of both speeds
abbrev pub speed_pieces : DescriptorFile → List Piece
speed_pieces f = front_pieces f ++ (indexed 2 0 (map whole_set f.sets) ++ other_pieces f.other)

-- with the strings
abbrev pub file_pieces : DescriptorFile → List Piece
file_pieces f = speed_pieces f ++ string_pieces (named_indices f) f.strings

unfoldable pub image_of : DescriptorFile → List ℕ
image_of f = image_bytes (file_pieces f)
