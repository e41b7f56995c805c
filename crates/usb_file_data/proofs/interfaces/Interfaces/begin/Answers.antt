use Rattle.std.proofs.Common.{◌≡◌, ◌∙◌, refl, ap, subst, sym, false, arith}
use Rattle.std.specs.Prelude.{slice_set}
use Rattle.usb_fields.specs.Marks.{is_marked}
use Rattle.usb_file_data.specs.declared.interfaces.Interface.{Interface}
use Rattle.usb_file_data.specs.inside.Interfaces.{AreFound, InterfaceTable, begun, kept}
use Rattle.usb_file_data.proofs.Entering.{fields_are, found_begun, kept_begun, with_new}
use Rattle.usb_file_data.proofs.interfaces.Interfaces.begin.Goals as goal

pub invariant_of-self-2 : goal.invariant_of-self-2
invariant_of-self-2 c =
    let t : InterfaceTable = record { list = c.self.inside.list.items; places = c.self.inside.places; marks = c.self.inside.numbers } in
    let n = c.args.number in
    let i : Interface = record { number = n; first = c.args.setting; alternates = c.new.result } in
    let fields : with_new t n i c.add.new.self ≡ record { list = c.push.new.self.items; places = slice_set t.places c.from.result c.in-Ok.place; marks = c.add.new.self } =
    fields_are t.list c.push.new.self.items t.places n c.from.result c.in-Ok.place i c.add.new.self c.in_ok-push.ensures.items c.from.ensures (omega (arith, c.in-Ok.ensures, c.len.ensures, c.self.inside.list.ok)) in
    subst AreFound fields (found_begun t n c.args.setting i c.add.new.self c.self.invariant (omega (arith, c.ranges.number)) (refl, refl, c.new.ensures) c.add.ensures)

pub returns : goal.returns
unfolding kept
returns c =
    let t : InterfaceTable = record { list = c.self.inside.list.items; places = c.self.inside.places; marks = c.self.inside.numbers } in
    let n = c.args.number in
    let i : Interface = record { number = n; first = c.args.setting; alternates = c.new.result } in
    let none : is_marked t.marks n ≡ false = ap (λ v. (kept v).numbers n) c.self.view_is ∙ c.requires in
    let fields : with_new t n i c.add.new.self ≡ record { list = c.push.new.self.items; places = slice_set t.places c.from.result c.in-Ok.place; marks = c.add.new.self } =
    fields_are t.list c.push.new.self.items t.places n c.from.result c.in-Ok.place i c.add.new.self c.in_ok-push.ensures.items c.from.ensures (omega (arith, c.in-Ok.ensures, c.len.ensures, c.self.inside.list.ok)) in
    ap kept (sym fields) ∙ kept_begun t n c.args.setting i c.add.new.self c.self.invariant (omega (arith, c.ranges.number)) (refl, refl, c.new.ensures) c.add.ensures none
    ∙ ap (λ v. begun n c.args.setting (kept v)) c.self.view_is
