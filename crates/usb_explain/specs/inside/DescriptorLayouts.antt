-- A layout of the code.
use Rattle.std.specs.Prelude.{map}
use Rattle.usb_names.specs.Shown.{field_of}
use Rattle.usb_explain.specs.declared.fields.standard_layouts.DescriptorLayout.{DescriptorLayout}
use Rattle.usb_explain.specs.Layouts.{Layout}

-- the fields, the group and the name of the rest that it has
abbrev pub layout_of : DescriptorLayout → Layout
layout_of l = record { fields = map field_of l.fields.now; group = map field_of l.group.now; rest = l.rest.now }
