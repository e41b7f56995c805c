use Rattle.std.proofs.Common.{◌≡◌, ◌∙◌, ap, length, map, subst, sym}
use Rattle.std.specs.List.{AllByRecursion}
use Rattle.usb_walk.specs.Surroundings.{codes_of}
use Rattle.usb_explain.specs.Fields.{fields_of}
use Rattle.usb_c.specs.DescriptorFields.{field_numbers}
use Rattle.usb_c.specs.FieldLists.{first_named}
use Rattle.usb_c.proofs.Following.{EndsBy, fields_fit}
use Rattle.usb_c.proofs.fields.first_named.Goals as goal

pub loop-field-init : goal.loop-field-init
loop-field-init c =
    let codes = codes_of c.args.descriptor.now.position in
    let all : c.into_iter-field-iterator.result ≡ fields_of c.args.role codes c.args.d.now =
    c.into_iter-field-iterator.ensures.into_iter_gives ∙ c.of-field-items.ensures ∙ ap (λ interface. fields_of c.args.role interface c.args.d.now) c.codes.ensures in
    record {
      same = ap (λ fields. first_named c.args.name.now (map (field_numbers c.args.descriptor.now.place) fields)) all;
      within = subst (AllByRecursion (EndsBy (length c.args.d.now))) (sym all) (fields_fit c.args.role codes c.args.d.now c.requires.least).ends;
    }
