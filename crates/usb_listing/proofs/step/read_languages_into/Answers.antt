use Rattle.std.proofs.Common.{ap, inr, sym, ◌∙◌}
use Rattle.usb_listing.specs.Says.{languages}
use Rattle.usb_listing.specs.declared.word.Word.TheVariants as words
use Rattle.usb_listing.specs.inside.Walking.{add_item}
use Rattle.usb_listing.proofs.StepLemmas.{is_item, languages_item, no_languages, some_drafted}
use Rattle.usb_listing.proofs.step.read_languages_into.Goals as goal

pub add_languages-requires-clause-item : goal.add_languages-requires-clause-item
add_languages-requires-clause-item c =
    is_item words.Languages c.args.text.now (languages c.in-Ok-Some.languages) (languages_item c.args.text.now c.in-Ok-Some.languages (sym c.in-Ok-Some.ensures ∙ c.in-Ok-Some.field-0-is))

pub returns-in-Ok-Some-clause-ok : goal.returns-in-Ok-Some-clause-ok
returns-in-Ok-Some-clause-ok c =
    some_drafted c.args.draft.now c.in-Some.draft c.add_languages.new.draft _ (languages c.in-Ok-Some.languages) c.in-Some.is
    (languages_item c.args.text.now c.in-Ok-Some.languages (sym c.in-Ok-Some.ensures ∙ c.in-Ok-Some.field-0-is)) c.add_languages.ensures

pub returns-in-Ok-None-clause-err : goal.returns-in-Ok-None-clause-err
returns-in-Ok-None-clause-err c = inr (ap (add_item _) (no_languages c.args.text.now (sym c.in-Ok-None.ensures ∙ c.in-Ok-None.field-0-is)))
