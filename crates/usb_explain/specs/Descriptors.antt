-- The lines of a descriptor, by what it is.
use Rattle.std.specs.Prelude.{List, [], ◌++◌, length, flat_map, if◌then◌else◌}
use Rattle.usb_text.specs.Shown.{Shown}
use Rattle.usb_walk.specs.declared.role.Role.{Role}
use Rattle.usb_walk.specs.declared.role.Role.TheVariants as roles
use Rattle.usb_explain.specs.Endpoints.{endpoint_shown}
use Rattle.usb_explain.specs.Fields.{PlacedField, fields_of}
use Rattle.usb_explain.specs.FindingLines.{finding_line}
use Rattle.usb_explain.specs.FormatWords.{format_shown}
use Rattle.usb_explain.specs.Forms.{form_shown}
use Rattle.usb_explain.specs.Headers.{raw_shown}
use Rattle.usb_explain.specs.Lines.{field_line, heading_line}
use Rattle.usb_remarks.specs.Outline.{Described}
use Rattle.usb_explain.specs.RemarkLines.{remark_lines}
use Rattle.usb_explain.specs.Sets.{device_shown, version_shown, association_shown, configuration_shown, interface_shown, languages_shown, string_shown}
use Rattle.usb_explain.specs.StringNames.{StringNames}
use Rattle.usb_explain.specs.Subjects.{Subject, place_of}

-- what tells a format of its class from others, where that is asked for
unfoldable pub formats_shown : Subject → Described → List Shown
formats_shown subject d = if subject.manner.look.formats then format_shown (fields_of roles.Raw d.interface d.bytes) else []

-- what its heading shows
unfoldable pub heading_shown : Role → Subject → Described → List Shown
heading_shown roles.Device subject d = device_shown d.bytes
heading_shown roles.Qualifier subject d = version_shown d.bytes
heading_shown roles.Configuration subject d = configuration_shown d.speed d.bytes
heading_shown roles.Association subject d = association_shown d.associations d.bytes
heading_shown roles.Interface subject d = interface_shown d.association d.bytes
heading_shown roles.Endpoint subject d = endpoint_shown d.speed d.bytes
heading_shown roles.Raw subject d = raw_shown d.interface d.bytes ++ formats_shown subject d
heading_shown roles.Languages subject d = languages_shown d.bytes
heading_shown roles.Text subject d = string_shown (place_of subject d.string) d.bytes

-- its heading
unfoldable pub heading : Subject → Described → List Shown
heading subject d = heading_line subject.manner.look d.depth (heading_shown d.role subject d) d.at (length d.bytes)

-- the lines of what is found at it
abbrev pub found_lines : Described → List Shown
found_lines d = flat_map (λ f. finding_line d.depth f.cause) d.findings

-- the line of a field of it
abbrev pub line_of_field : StringNames → Described → PlacedField → List Shown
line_of_field strings d field =
    field_line d.depth field.name (form_shown d.speed strings field.form field.value d.bytes field.place)

-- the lines of its fields
abbrev pub field_lines : StringNames → Described → List Shown
field_lines strings d = flat_map (line_of_field strings d) (fields_of d.role d.interface d.bytes)

-- the same, where they are shown
unfoldable pub fields : Subject → Described → List Shown
fields subject d = if subject.manner.look.brief then [] else field_lines subject.names d

-- its lines: its heading, what it breaks, what is remarked of it, and its fields
unfoldable pub lines_of : Subject → Described → List Shown
lines_of subject d = heading subject d ++ found_lines d ++ remark_lines d ++ fields subject d
