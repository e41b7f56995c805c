use Rattle.std.proofs.Common.{◌∙◌, ap}
use Rattle.std.specs.List.{slice_get}
use Rattle.usb_explain.specs.Fields.{placed_of}
use Rattle.usb_c.proofs.Following.{answered_within, nth_is}
use Rattle.usb_c.proofs.descriptor_field.nth_field.Goals as goal

pub returns-clause-field : goal.returns-clause-field
returns-clause-field c = nth_is placed_of (λ f. f) c.of.result c.args.number c.nth.result c.nth.new.self c.nth.ensures.ran ∙ ap (λ l. slice_get l c.args.number) c.of.ensures

pub returns-clause-within : goal.returns-clause-within
returns-clause-within c =
    answered_within c.args.role c.args.interface c.args.d.now c.args.number c.nth.result c.requires
    (nth_is placed_of (λ f. f) c.of.result c.args.number c.nth.result c.nth.new.self c.nth.ensures.ran ∙ ap (λ l. slice_get l c.args.number) c.of.ensures)
