use Rattle.std.proofs.Common.{◌≡◌, ◌≤◌, ◌<◌, ◌∙◌, ℕ, List, length, get_or, sym, ap, subst, arith, length-append}
use Rattle.usb_set.specs.declared.reader.Step.TheVariants.{Cut}
use Rattle.usb_set.specs.inside.Reading.{first_byte}
use Rattle.usb_set.specs.inside.Stepping.{InWork, Keeps, Steps, current_of, with_current}
use Rattle.usb_set.proofs.Stepping.{work_of, work_there, work_with, current_with, first_is, first_stays_first, on_fine, settled_append, step_cut}
use Rattle.usb_set.proofs.reader.Reader.keeps.Goals as goal

pub returns : goal.returns
returns c =
    let four : 4 ≤ length c.self.inside.current.items = omega (arith, c.len-before.ensures.value, c.if-before-lt4.false) in
    let work : InWork c.self.inside.partial = work_there c.self.inside.partial c.self.inside.current.items c.self.invariant.0 c.self.invariant.1 (omega (arith, four)) in
    let old_work : InWork c.args.self.now = subst InWork c.self.view_is (work_with c.self.inside.partial c.self.inside.current.items work) in
    let some : 0 < length (current_of c.args.self.now) = omega (arith, four, ap length (ap current_of (sym c.self.view_is) ∙ current_with c.self.inside.partial c.self.inside.current.items work)) in
    let len_is : c.from.result ≡ first_byte c.self.inside.current.items = c.from.ensures ∙ ap (λ (z : List ℕ). get_or z 0 0) c.deref.ensures.0 ∙ first_is c.self.inside.current.items 0 (omega (arith, four)) in
    let cut : Steps c.args.self.now c.args.piece.now Cut (with_current c.self.inside.partial c.keep.new.current.items) =
    let P : List ℕ → Type 0 = λ z. Steps c.args.self.now c.args.piece.now Cut (with_current c.self.inside.partial z) in
    subst P (sym c.keep.ensures)
    (step_cut c.args.self.now c.self.inside.partial c.self.inside.current.items c.args.piece.now c.self.view_is old_work
    (settled_append c.self.inside.partial c.self.inside.current.items c.args.piece.now four (on_fine c.self.inside.partial c.self.inside.current.items work c.self.invariant.0))
    (omega (
      arith,
      len_is,
      c.len-before.ensures.value,
      c.if-from-before.false,
      length-append c.self.inside.current.items c.args.piece.now,
      first_stays_first c.self.inside.current.items c.args.piece.now (omega (arith, four)),
    ))) in
    (cut.0, cut.1, some)
