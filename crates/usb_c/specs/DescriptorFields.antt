-- The fields of a descriptor as numbers.
use Rattle.std.specs.Prelude.{ℕ, ◌+◌, ◌==◌, ◌&&◌, nat_le, List, [], ◌∷◌, ◌++◌, length, replicate, drop, take, slice_get, slice_index, Option, Some, None, option_and_then, if◌then◌else◌}
use Rattle.std.specs.Int.{from_le_bytes, w64}
use Rattle.std.specs.Option.{option_map}
use Rattle.usb_walk.specs.declared.role.Role.{Role}
use Rattle.usb_walk.specs.declared.walked_descriptor.WalkedDescriptor.{WalkedDescriptor}
use Rattle.usb_walk.specs.RoleNumbers.{role_in}
use Rattle.usb_walk.specs.Surroundings.{codes_of}
use Rattle.usb_explain.specs.Fields.{PlacedField, fields_of}
use Rattle.usb_c.specs.declared.descriptor_field.NzgField.{NzgField}

-- the bytes of a descriptor, where its length and its type stand at its place and all of it is there
abbrev pub bytes_in : List ℕ → WalkedDescriptor → Option (List ℕ)
bytes_in b d =
    let ahead = drop d.place b in
    if nat_le 2 d.length && (nat_le d.length (length ahead) && ((slice_index ahead 0 == d.length) && (slice_index ahead 1 == d.kind)))
    then Some (take d.length ahead) else None

-- a name of at most 62 characters, and zeros after it
abbrev pub name_in_place : List ℕ → List ℕ
name_in_place name = name ++ drop (length name) (replicate 62 0)

-- the number of at most eight bytes, the low one first (USB 2.0, 8.1); that of more is 0
abbrev pub number_of : List ℕ → ℕ
number_of v =
    if nat_le (length v) 8 then
    from_le_bytes w64 (slice_index v 0 ∷ slice_index v 1 ∷ slice_index v 2 ∷ slice_index v 3 ∷ slice_index v 4 ∷ slice_index v 5 ∷ slice_index v 6 ∷ slice_index v 7 ∷ [])
    else 0

-- a field of a descriptor at this place
abbrev pub field_numbers : ℕ → PlacedField → NzgField
field_numbers place f = record {
  place = place + f.place;
  value = number_of f.value;
  width = length f.value;
  name_length = length f.name;
  name = name_in_place f.name;
}

-- the field of this number of a descriptor of this role and these bytes
abbrev pub field_at : WalkedDescriptor → ℕ → Role → List ℕ → Option NzgField
field_at d n role bytes = option_map (field_numbers d.place) (slice_get (fields_of role (codes_of d.position) bytes) n)

-- that of a descriptor that is one of these bytes
abbrev pub field_of : List ℕ → WalkedDescriptor → ℕ → Option NzgField
field_of b d n = option_and_then (λ role. option_and_then (field_at d n role) (bytes_in b d)) (role_in d.role)
