use Rattle.std.proofs.Common.{◌≡◌}
use Rattle.std.specs.List.{flat_map}
use Rattle.usb_text.specs.Shown.{showing_all}
use Rattle.usb_explain.specs.Descriptors.{field_lines, line_of_field}
use Rattle.usb_remarks.specs.Outline.{described}
use Rattle.usb_explain.proofs.field_line.put_all_fields.Given as goal

abbrev pub invariant-loop-field : goal.invariant-loop-field
invariant-loop-field g l =
    showing_all g.P.Page.showing (flat_map (line_of_field l.names (described l.d)) l.field-iterator) (g.P.Page.seen l.page)
    ≡ showing_all g.P.Page.showing (field_lines l.names (described l.d)) (g.P.Page.seen l.fn.page)
