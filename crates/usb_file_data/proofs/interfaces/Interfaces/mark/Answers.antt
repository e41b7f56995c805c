use Rattle.std.proofs.Common.{◌≡◌, ◌&&◌, ◌∙◌, [], refl, ap, sym, map, true, arith}
use Rattle.std.specs.Prelude.{slice_index_or}
use Rattle.usb_fields.specs.Marks.{is_marked}
use Rattle.usb_file_data.specs.inside.Interfaces.{kept, with_alternate, place_of}
use Rattle.usb_file_data.proofs.Entering.{found_paired, kept_paired, row_of, within_list}
use Rattle.usb_file_data.proofs.interfaces.Interfaces.mark.Goals as goal

pub index_mut-requires : goal.index_mut-requires
unfolding kept
index_mut-requires c =
    let t = c.self.inside in
    let there : is_marked t.numbers c.args.number ≡ true = ap (λ v. (kept v).numbers c.args.number) c.self.view_is ∙ c.requires in
    let place : c.from-place.result ≡ place_of t.places c.args.number = c.from-place.ensures ∙ ap (place_of t.places) c.from.ensures in
    omega (arith, place, t.list.ok, within_list (record { list = t.list.items; places = t.places; marks = t.numbers }) c.args.number c.self.invariant there)

pub invariant_of-self : goal.invariant_of-self
invariant_of-self c =
    let t = c.self.inside in
    found_paired (record { list = t.list.items; places = t.places; marks = t.numbers }) c.from-place.result c.args.alternate
    (record { number = c.index_mut.result.now.number; first = c.index_mut.result.now.first; alternates = c.add.new.self }) c.index_mut.result.now
    c.self.invariant c.index_mut.ensures.value (refl, refl, c.add.ensures)

pub returns-clause-again : goal.returns-clause-again
unfolding kept
returns-clause-again c =
    let t = c.self.inside in
    let n = c.args.number in
    let rows = map (λ i. i.alternates) t.list.items in
    let there : is_marked t.numbers n ≡ true = ap (λ v. (kept v).numbers n) c.self.view_is ∙ c.requires in
    let place : c.from-place.result ≡ place_of t.places n = c.from-place.ensures ∙ ap (place_of t.places) c.from.ensures in
    let small = within_list (record { list = t.list.items; places = t.places; marks = t.numbers }) n c.self.invariant there in
    let row = row_of t.list.items c.from-place.result c.index_mut.result.now (omega (arith, place, small)) c.index_mut.ensures.value in
    c.has-again.ensures ∙ ap (λ r. is_marked r c.args.alternate) (sym row ∙ ap (λ p. slice_index_or rows p []) place)
    ∙ ap (λ b. b && is_marked (slice_index_or rows (place_of t.places n) []) c.args.alternate) (sym there)
    ∙ ap (λ v. (kept v).alternates n c.args.alternate) c.self.view_is

pub returns-clause-marked : goal.returns-clause-marked
unfolding kept
returns-clause-marked c =
    let t = c.self.inside in
    let n = c.args.number in
    let there : is_marked t.numbers n ≡ true = ap (λ v. (kept v).numbers n) c.self.view_is ∙ c.requires in
    let place : c.from-place.result ≡ place_of t.places n = c.from-place.ensures ∙ ap (place_of t.places) c.from.ensures in
    kept_paired (record { list = t.list.items; places = t.places; marks = t.numbers }) n c.args.alternate c.from-place.result
    (record { number = c.index_mut.result.now.number; first = c.index_mut.result.now.first; alternates = c.add.new.self }) c.index_mut.result.now
    c.self.invariant there place c.index_mut.ensures.value (refl, refl, c.add.ensures)
    ∙ ap (λ v. with_alternate n c.args.alternate (kept v)) c.self.view_is
