use Rattle.std.proofs.Common.{◌≡◌, ◌&&◌, ◌∙◌, [], ap, sym, length, map, get_or, true, arith, inl, inr}
use Rattle.std.proofs.lemmas.Bool.{cases_lt}
use Rattle.usb_fields.specs.Marks.{is_marked}
use Rattle.usb_file_data.specs.inside.Interfaces.{kept, place_of}
use Rattle.usb_file_data.proofs.Entering.{row_of, within_list}
use Rattle.usb_file_data.proofs.interfaces.Interfaces.lacks_default.Goals as goal

pub loop-interface-init : goal.loop-interface-init
loop-interface-init c = λ k below. absurd (omega (arith, below))

pub loop-interface-preserved : goal.loop-interface-preserved
loop-interface-preserved c = λ k below.
    let items = c.deref-interface-items.result.now in
    let i = c.loop-interface.interface-index in
    elim (cases_lt k i) [
      | inl before ↦ c.loop-interface.invariant k before
      | inr after ↦
          let at : k ≡ i = omega (arith, below, after) in
          ap (λ j. is_marked (get_or (map (λ x. x.alternates) items) j []) 0) at
          ∙ ap (λ row. is_marked row 0) (row_of items i c.interface-item.result c.loop-interface-test.true c.interface-item.is)
          ∙ sym c.has.ensures ∙ c.if-not-has.false
    ]

pub returns : goal.returns
unfolding kept
returns c = λ _ n there.
    let t = c.self.inside in
    let items = c.deref-interface-items.result.now in
    let p = place_of t.places n in
    let same = c.deref-interface-items.ensures.value in
    let stands : is_marked t.numbers n ≡ true = ap (λ v. (kept v).numbers n) c.self.view_is ∙ there in
    let small = within_list (record { list = t.list.items; places = t.places; marks = t.numbers }) n c.self.invariant stands in
    let long = ap length same in
    let row = c.loop-interface.invariant p (omega (arith, small, long, c.loop-interface-test.false)) in
    sym (ap (λ v. (kept v).alternates n 0) c.self.view_is)
    ∙ ap (λ b. b && is_marked (get_or (map (λ x. x.alternates) t.list.items) p []) 0) stands
    ∙ ap (λ xs. is_marked (get_or (map (λ x. x.alternates) xs) p []) 0) (sym same) ∙ row
