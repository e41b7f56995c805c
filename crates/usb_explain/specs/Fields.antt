-- The fields of a descriptor: each by its name, its place, the form of its number and its bytes.
use Rattle.std.specs.Prelude.{ℕ, zero, suc, ◌+◌, ◌-◌, ◌*◌, ◌==◌, List, [], ◌∷◌, ◌++◌, take, drop, length, nat_lt, if◌then◌else◌, codes, Option, Some, None}
use Rattle.usb_names.specs.declared.codes.ClassCodes.{ClassCodes}
use Rattle.usb_names.specs.declared.field.Form.{Form}
use Rattle.usb_names.specs.declared.field.Form.TheVariants.{Bytes, Hexadecimal}
use Rattle.usb_names.specs.Shown.{Field, Row}
use Rattle.usb_explain.specs.declared.field.Field as declared
use Rattle.usb_walk.specs.declared.role.Role.{Role}
use Rattle.usb_walk.specs.declared.role.Role.TheVariants.{Device, Qualifier, Configuration, Association, Interface, Endpoint, Raw, Languages, Text}
use Rattle.usb_explain.specs.Headers.{row_layout, row_of_bytes}
use Rattle.usb_explain.specs.Layouts.{Layout, association_layout, configuration_layout, device_layout, endpoint_layout, field_in, group_count, interface_layout, qualifier_layout, width_of}

-- a field at its place in a descriptor, with its bytes
pub record PlacedField : Type 0 where
  pub name : List ℕ
  pub place : ℕ
  pub form : Form
  pub value : List ℕ

-- that of the code
abbrev pub placed_of : declared.Field → PlacedField
placed_of f = record { name = f.name.now; place = f.place; form = f.form; value = f.value.now }

-- Which fields a descriptor has.

-- bytes without a field of their own, as a field of this name; where there are none there is no such field
abbrev pub left_over : List ℕ → ℕ → List Field
left_over name n = if n == 0 then [] else field_in Bytes n name ∷ []

-- a group n times
abbrev pub repeated : ℕ → List Field → List Field
repeated zero group = []
repeated (suc n) group = group ++ repeated n group

-- a group as often as all its bytes are there, and what is left of n bytes
abbrev pub groups_in : List Field → List ℕ → ℕ → List Field
groups_in group rest n =
    let count = group_count (width_of group) n in repeated count group ++ left_over rest (n - count * width_of group)

-- The fields in n bytes: these while all bytes of the next one are there, and where all are there, the group again
-- and again; then what is left.
unfoldable pub fields_in_bytes : List Field → List Field → List ℕ → ℕ → List Field
fields_in_bytes [] group rest n = groups_in group rest n
fields_in_bytes (field ∷ fields) group rest n =
    if nat_lt n field.width then left_over rest n else field ∷ fields_in_bytes fields group rest (n - field.width)

-- Each at its place.

-- fields one after another from a place on, where these bytes begin
unfoldable pub placed : ℕ → List Field → List ℕ → List PlacedField
placed place [] b = []
placed place (field ∷ fields) b =
    record { name = field.name; place = place; form = field.form; value = take field.width b } ∷ placed (place + field.width) fields (drop field.width b)

-- the fields of a descriptor of this layout from a place on
abbrev pub laid : ℕ → Layout → List ℕ → List PlacedField
laid place layout b =
    let body = drop place b in placed place (fields_in_bytes layout.fields layout.group layout.rest (length body)) body

-- bDescriptorType
abbrev pub type_field : Field
type_field = field_in Hexadecimal 1 (codes "bDescriptorType")

-- a class descriptor: bDescriptorType, and then the fields of its row, if it has one
abbrev pub class_layout : Option Row → Layout
class_layout None = record { fields = type_field ∷ []; group = []; rest = codes "bytes" }
class_layout (Some row) = let layout = row_layout row in record layout { fields = type_field ∷ layout.fields }

-- The fields of a descriptor after an interface of these codes. The heading of a language list and of a string says all.
unfoldable pub fields_of : Role → Option ClassCodes → List ℕ → List PlacedField
fields_of Device interface b = laid 2 device_layout b
fields_of Qualifier interface b = laid 2 qualifier_layout b
fields_of Configuration interface b = laid 2 configuration_layout b
fields_of Association interface b = laid 2 association_layout b
fields_of Interface interface b = laid 2 interface_layout b
fields_of Endpoint interface b = laid 2 (endpoint_layout interface (length b)) b
fields_of Raw interface b = laid 1 (class_layout (row_of_bytes interface b)) b
fields_of Languages interface b = []
fields_of Text interface b = []
