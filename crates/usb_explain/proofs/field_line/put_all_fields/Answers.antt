use Rattle.std.proofs.Common.{◌≡◌, ◌∷◌, ◌∙◌, List, ap, sym}
use Rattle.std.specs.List.{flat_map}
use Rattle.usb_text.specs.Shown.{showing_all}
use Rattle.usb_text.proofs.ShownLines.{showing_joined}
use Rattle.usb_explain.specs.Descriptors.{line_of_field}
use Rattle.usb_explain.specs.Fields.{PlacedField, placed_of}
use Rattle.usb_remarks.specs.Outline.{described}
use Rattle.usb_explain.proofs.field_line.put_all_fields.Goals as goal

pub loop-field-init : goal.loop-field-init
loop-field-init g c =
    ap (λ (fs : List PlacedField). showing_all g.P.Page.showing (flat_map (line_of_field c.args.names.now (described c.args.d.now)) fs) (g.P.Page.seen c.put_type_field.new.page)) c.into_iter-field-iterator.ensures.into_iter_gives
    ∙ c.in_ok-put_type_field.ensures
    ∙ ap (λ (fs : List PlacedField). showing_all g.P.Page.showing (flat_map (line_of_field c.args.names.now (described c.args.d.now)) fs) (g.P.Page.seen c.args.page.now)) c.of_row-fields.ensures

pub loop-field-preserved : goal.loop-field-preserved
loop-field-preserved g c =
    let lines = line_of_field c.args.names.now (described c.args.d.now) in
    let steps : c.loop-field.field-iterator ≡ placed_of c.in-Some.field ∷ c.next.new.self = c.in-Some.ensures.steps in
    let all = λ (fs : List PlacedField). showing_all g.P.Page.showing (flat_map lines fs) (g.P.Page.seen c.loop-field.page) in
    ap (showing_all g.P.Page.showing (flat_map lines c.next.new.self)) c.in_ok-put_field.ensures
    ∙ sym (ap all steps ∙ showing_joined g.P.Page.showing (lines (placed_of c.in-Some.field)) (flat_map lines c.next.new.self) (g.P.Page.seen c.loop-field.page))
    ∙ c.loop-field.invariant
