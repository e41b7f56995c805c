use Rattle.std.proofs.Common.{inr, sym, ◌∙◌}
use Rattle.usb_listing.specs.inside.Drafts.{so_far}
use Rattle.usb_listing.proofs.StepLemmas.{are_fields, drafted_same, no_fields, some_fields, stops_same, typed_fields}
use Rattle.usb_listing.proofs.step.read_described.Goals as goal

pub returns-in_default-clause-err : goal.returns-in_default-clause-err
returns-in_default-clause-err c = inr (no_fields (so_far c.args.draft.now) c.args.word c.args.text.now c.requires.word c.in_default.ensures.is)

pub returns-then-is_typed_raw-clause-err : goal.returns-then-is_typed_raw-clause-err
returns-then-is_typed_raw-clause-err c =
    inr (typed_fields (so_far c.args.draft.now) c.args.word c.args.text.now _ c.requires.word c.in-Some.ensures.is (sym c.is_typed_raw.ensures ∙ c.if-is_typed_raw.true))

pub add_next-requires-clause-item : goal.add_next-requires-clause-item
add_next-requires-clause-item c = are_fields c.args.word c.args.text.now _ c.requires.word c.in-Some.ensures.is (sym c.is_typed_raw.ensures ∙ c.if-is_typed_raw.false)

pub returns-clause-ok : goal.returns-clause-ok
returns-clause-ok c =
    drafted_same c.add_next.result _ _ c.add_next.new.draft
    (some_fields (so_far c.args.draft.now) c.args.word c.args.text.now _ c.requires.word c.in-Some.ensures.is (sym c.is_typed_raw.ensures ∙ c.if-is_typed_raw.false)) c.add_next.ensures.ok

pub returns-clause-err : goal.returns-clause-err
returns-clause-err c =
    stops_same c.add_next.result _ _
    (some_fields (so_far c.args.draft.now) c.args.word c.args.text.now _ c.requires.word c.in-Some.ensures.is (sym c.is_typed_raw.ensures ∙ c.if-is_typed_raw.false)) c.add_next.ensures.err
