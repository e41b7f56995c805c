-- Descriptors of classes and their fields, with names as lists of bytes.
use Rattle.std.specs.Prelude.{ℕ, Bool, List, map, nat_lt, ◌&&◌}
use Rattle.std.specs.Borrow.{Bor}
use Rattle.std.specs.List.{list_all}
use Rattle.usb_names.specs.declared.field.ClassField.{ClassField}
use Rattle.usb_names.specs.declared.row.ClassDescriptor.{ClassDescriptor}
use Rattle.usb_names.specs.Named.{Ref, is_name}

-- a field
abbrev pub Field : Type 0
Field = ClassField (List ℕ)

-- a field of the code
abbrev pub field_of : ClassField (Bor (List ℕ)) → Field
field_of f = record { name = f.name.now; width = f.width; form = f.form }

-- it has a name and bytes
abbrev pub is_field : Field → Bool
is_field field = is_name field.name && nat_lt 0 field.width

-- these have
abbrev pub are_fields : List Field → Bool
are_fields fields = list_all is_field fields

-- a descriptor of a class
abbrev pub Row : Type 0
Row = ClassDescriptor (List ℕ) (List Field)

-- it has a name, and fields
abbrev pub is_row : Row → Bool
is_row row = is_name row.name && (are_fields row.fields && are_fields row.group)

-- a row whose name and fields are these
abbrev pub row_with : {Name Fields : Type 0} → (Name → List ℕ) → (Fields → List Field) → ClassDescriptor Name Fields → Row
row_with name fields r = record {
  subclass = r.subclass;
  protocol = r.protocol;
  descriptor_type = r.descriptor_type;
  first = r.first;
  second = r.second;
  zero_at = r.zero_at;
  name = name r.name;
  fields = fields r.fields;
  group = fields r.group;
}

-- a row of the code
abbrev pub row_of : ClassDescriptor (Bor (List ℕ)) (Bor (List (ClassField (Bor (List ℕ))))) → Row
row_of = row_with (λ name. name.now) (λ fields. map field_of fields.now)

-- a field and a row of its constants
abbrev pub field_of_constant : ClassField (Ref (List ℕ)) → Field
field_of_constant f = record { name = f.name.now; width = f.width; form = f.form }

abbrev pub of_constant : ClassDescriptor (Ref (List ℕ)) (Ref (List (ClassField (Ref (List ℕ))))) → Row
of_constant = row_with (λ name. name.now) (λ fields. map field_of_constant fields.now)
