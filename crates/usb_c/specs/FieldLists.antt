-- All fields of a descriptor as numbers, and one by its name.
use Rattle.std.specs.Prelude.{◌≡◌, ℕ, List, [], find, map, take, bytes_eq, slice_get, Option, option_and_then, unwrap_or}
use Rattle.std.specs.Option.{option_map}
use Rattle.usb_walk.specs.declared.role.Role.{Role}
use Rattle.usb_walk.specs.declared.walked_descriptor.WalkedDescriptor.{WalkedDescriptor}
use Rattle.usb_walk.specs.RoleNumbers.{role_in}
use Rattle.usb_walk.specs.Surroundings.{codes_of}
use Rattle.usb_explain.specs.Fields.{fields_of}
use Rattle.usb_c.specs.declared.descriptor_field.NzgField.{NzgField}
use Rattle.usb_c.specs.DescriptorFields.{bytes_in, field_numbers, field_of}

-- the fields of a descriptor of this role and these bytes, in their order
abbrev pub fields_at : WalkedDescriptor → Role → List ℕ → List NzgField
fields_at d role bytes = map (field_numbers d.place) (fields_of role (codes_of d.position) bytes)

-- those of a descriptor that is one of these bytes; any other has none
abbrev pub fields_in : List ℕ → WalkedDescriptor → List NzgField
fields_in b d = unwrap_or (option_and_then (λ role. option_map (fields_at d role) (bytes_in b d)) (role_in d.role)) []

-- by its number each of them is the field that `nzg_field` gives
abbrev pub AllByNumber : Type 0
AllByNumber = (b : List ℕ) (d : WalkedDescriptor) (n : ℕ) → slice_get (fields_in b d) n ≡ field_of b d n

-- the name of a field
abbrev pub name_of : NzgField → List ℕ
name_of f = take f.name_length f.name

-- the first field of this name
abbrev pub first_named : List ℕ → List NzgField → Option NzgField
first_named name fields = find (λ f. bytes_eq (name_of f) name) fields

-- that of a descriptor
abbrev pub field_named : List ℕ → WalkedDescriptor → List ℕ → Option NzgField
field_named b d name = first_named name (fields_in b d)
