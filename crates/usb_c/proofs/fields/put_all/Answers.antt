use Rattle.std.proofs.Common.{◌≡◌, ◌∙◌, ◌+◌, [], ◌∷◌, ap, length, subst, sym}
use Rattle.std.specs.List.{AllByRecursion}
use Rattle.std.proofs.Math.ListN.{set}
use Rattle.usb_walk.specs.Surroundings.{codes_of}
use Rattle.usb_explain.specs.Fields.{fields_of, placed_of}
use Rattle.usb_c.specs.DescriptorFields.{field_numbers}
use Rattle.usb_c.proofs.FieldLists.{next_put, room_for_next}
use Rattle.usb_c.proofs.Following.{EndsBy, fields_fit}
use Rattle.usb_c.proofs.Placed.{PutSoFar, none_put}
use Rattle.usb_c.proofs.fields.put_all.Goals as goal

pub loop-field-init : goal.loop-field-init
loop-field-init c =
    let codes = codes_of c.args.descriptor.now.position in
    let all : c.into_iter-field-iterator.result ≡ fields_of c.args.role codes c.args.d.now =
    c.into_iter-field-iterator.ensures.into_iter_gives ∙ c.of-field-items.ensures ∙ ap (λ interface. fields_of c.args.role interface c.args.d.now) c.codes.ensures in
    record {
      put = none_put _ _ _ _ all;
      within = subst (AllByRecursion (EndsBy (length c.args.d.now))) (sym all) (fields_fit c.args.role codes c.args.d.now c.requires.least).ends;
    }

pub loop-field-preserved : goal.loop-field-preserved
loop-field-preserved c =
    let number = field_numbers c.args.descriptor.now.place in
    let all = fields_of c.args.role (codes_of c.args.descriptor.now.position) c.args.d.now in
    let steps : c.loop-field.field-iterator ≡ placed_of c.in-Some.field ∷ c.next.new.self = c.in-Some.ensures.steps in
    let put = subst (λ left. PutSoFar (λ f. number f ∷ []) all left c.args.out.now c.loop-field.out c.loop-field.filled) steps c.loop-field.invariant.put in
    let room = room_for_next number all c.args.out.now c.loop-field.out c.loop-field.filled (placed_of c.in-Some.field) c.next.new.self put c.requires.room in
    let next = next_put number all c.args.out.now c.loop-field.out c.loop-field.filled (placed_of c.in-Some.field) c.next.new.self put room in
    record {
      put = subst (λ it. PutSoFar (λ f. number f ∷ []) all c.next.new.self c.args.out.now (set c.loop-field.out c.loop-field.filled it) (c.loop-field.filled + 1)) (sym c.field_numbers.ensures) next;
      within = (subst (AllByRecursion (EndsBy (length c.args.d.now))) steps c.loop-field.invariant.within).1;
    }
