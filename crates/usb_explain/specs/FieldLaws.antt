-- What holds of the fields of each descriptor: they stand one after another and have all its bytes.
use Rattle.std.specs.Prelude.{◌≡◌, ◌≤◌, ℕ, Bool, true, false, List, drop, flat_map, length, map, Option}
use Rattle.usb_names.specs.declared.codes.ClassCodes.{ClassCodes}
use Rattle.usb_walk.specs.declared.role.Role.{Role}
use Rattle.usb_walk.specs.declared.role.Role.TheVariants.{Raw, Languages, Text}
use Rattle.usb_explain.specs.Fields.{PlacedField, fields_of}
use Rattle.usb_remarks.specs.OutlineLaws.{Follow, Span}

-- descriptors of this role have fields; the heading of a language list and of a string says all
abbrev pub has_fields : Role → Bool
has_fields Languages = false
has_fields Text = false
has_fields role = true

-- where the first field stands: bDescriptorType of a class descriptor, and of the others what follows it
abbrev pub first_place : Role → ℕ
first_place Raw = 1
first_place role = 2

-- the place and the length of a field
abbrev pub span_of_field : PlacedField → Span
span_of_field f = record { start = f.place; count = length f.value }

-- The fields of any bytes have all of them from the place of the first one on, in their order. They stand at their places:
-- each begins where the one before ends, none is empty, and the last one ends where the bytes end.
pub record FieldsHaveAllBytes (role : Role) (interface : Option ClassCodes) (b : List ℕ) : Type 0 where
  pub values : flat_map (λ f. f.value) (fields_of role interface b) ≡ drop (first_place role) b
  pub places : first_place role ≤ length b → Follow (first_place role) (map span_of_field (fields_of role interface b)) (length b)

-- so it is of each descriptor that has fields
abbrev pub AllFieldsHaveAllBytes : Type 0
AllFieldsHaveAllBytes =
    (role : Role) (interface : Option ClassCodes) (b : List ℕ) → has_fields role ≡ true → FieldsHaveAllBytes role interface b
