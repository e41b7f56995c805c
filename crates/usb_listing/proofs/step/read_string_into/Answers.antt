use Rattle.std.proofs.Common.{ap, inr, sym, ◌∙◌}
use Rattle.usb_listing.specs.Says.{string}
use Rattle.usb_listing.specs.declared.word.Word.TheVariants as words
use Rattle.usb_listing.specs.inside.Walking.{add_item}
use Rattle.usb_listing.proofs.StepLemmas.{is_item, no_string, some_drafted, string_item}
use Rattle.usb_listing.proofs.step.read_string_into.Goals as goal

pub add_string-requires-clause-item : goal.add_string-requires-clause-item
add_string-requires-clause-item c =
    is_item words.String c.args.text.now (string c.in-Ok-Some.units) (string_item c.args.text.now c.in-Ok-Some.units (sym c.in-Ok-Some.ensures ∙ c.in-Ok-Some.field-0-is))

pub returns-in-Ok-clause-ok : goal.returns-in-Ok-clause-ok
returns-in-Ok-clause-ok c =
    some_drafted c.args.draft.now c.in-Some.draft c.add_string.new.draft _ (string c.in-Ok-Some.units) c.in-Some.is
    (string_item c.args.text.now c.in-Ok-Some.units (sym c.in-Ok-Some.ensures ∙ c.in-Ok-Some.field-0-is)) c.in-Ok.ensures

pub returns-in-Ok-None-clause-err : goal.returns-in-Ok-None-clause-err
returns-in-Ok-None-clause-err c = inr (ap (add_item _) (no_string c.args.text.now (sym c.in-Ok-None.ensures ∙ c.in-Ok-None.field-0-is)))
