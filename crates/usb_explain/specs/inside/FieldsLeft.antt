-- What is left of a descriptor's fields.
use Rattle.std.specs.Prelude.{ℕ, ◌&&◌, Bool, List, [], ◌++◌, map}
use Rattle.usb_names.specs.Named.{is_name}
use Rattle.usb_names.specs.Shown.{Field, are_fields, field_of}
use Rattle.usb_explain.specs.declared.fields.Lists.{Lists}
use Rattle.usb_explain.specs.declared.fields.Piece.{Piece}
use Rattle.usb_explain.specs.Fields.{fields_in_bytes}
use Rattle.usb_explain.specs.Layouts.{Layout}

-- what is left of a layout
abbrev pub layout_left : Lists → Layout
layout_left l = record { fields = map field_of l.current.now ++ map field_of l.following.now; group = map field_of l.group.now; rest = l.rest.now }

-- a layout without fields
abbrev pub no_layout : Layout
no_layout = record { fields = []; group = []; rest = [] }

-- the fields that are left of these lists in n bytes
abbrev pub left_in : Lists → ℕ → List Field
left_in l n = let layout = layout_left l in fields_in_bytes layout.fields layout.group layout.rest n

-- a field as the code has it
abbrev pub piece_of : Piece → Field
piece_of p = record { name = p.name.now; width = p.width; form = p.form }

-- the fields of a layout have names and bytes, and the rest has a name
abbrev pub is_layout : Layout → Bool
is_layout layout = are_fields layout.fields && (are_fields layout.group && is_name layout.rest)

-- the same of what is left of one
abbrev pub is_rest_of_layout : Lists → Bool
is_rest_of_layout l =
    are_fields (map field_of l.current.now) && (are_fields (map field_of l.following.now) && (are_fields (map field_of l.group.now) && is_name l.rest.now))
