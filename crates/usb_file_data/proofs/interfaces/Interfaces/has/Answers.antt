use Rattle.std.proofs.Common.{◌≡◌, ◌&&◌, ◌∙◌, [], ap, sym, map, true, arith}
use Rattle.std.specs.Prelude.{slice_index_or}
use Rattle.usb_fields.specs.Marks.{is_marked}
use Rattle.usb_file_data.specs.inside.Interfaces.{kept, place_of}
use Rattle.usb_file_data.proofs.Entering.{row_of, within_list}
use Rattle.usb_file_data.proofs.interfaces.Interfaces.has.Goals as goal

pub returns-then-not-has : goal.returns-then-not-has
unfolding kept
returns-then-not-has c =
    let t = c.self.inside in
    ap (λ there. there && is_marked (slice_index_or (map (λ i. i.alternates) t.list.items) (place_of t.places c.args.number) []) c.args.alternate) (sym c.if-not-has.true ∙ c.has.ensures)
    ∙ ap (λ v. (kept v).alternates c.args.number c.args.alternate) c.self.view_is

pub returns : goal.returns
unfolding kept
returns c =
    let t = c.self.inside in
    let n = c.args.number in
    let rows = map (λ i. i.alternates) t.list.items in
    let there : is_marked t.numbers n ≡ true = sym c.has.ensures ∙ c.if-not-has.false in
    let place : c.from-place.result ≡ place_of t.places n = c.from-place.ensures ∙ ap (place_of t.places) c.from.ensures in
    let small = within_list (record { list = t.list.items; places = t.places; marks = t.numbers }) n c.self.invariant there in
    let row = row_of t.list.items c.from-place.result c.index.result.now (omega (arith, place, small)) c.index.ensures in
    c.has-2.ensures ∙ ap (λ r. is_marked r c.args.alternate) (sym row ∙ ap (λ p. slice_index_or rows p []) place)
    ∙ ap (λ b. b && is_marked (slice_index_or rows (place_of t.places n) []) c.args.alternate) (sym there)
    ∙ ap (λ v. (kept v).alternates n c.args.alternate) c.self.view_is
