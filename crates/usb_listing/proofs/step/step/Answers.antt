use Rattle.std.proofs.Common.{inr, refl}
use Rattle.usb_listing.specs.inside.Drafts.{so_far}
use Rattle.usb_listing.proofs.StepLemmas.{drafted_same, judged_misplaced, split_judged, split_misplaced, split_placed, stops_same}
use Rattle.usb_listing.proofs.step.step.Goals as goal

pub returns-in-Ok-clause-ok : goal.returns-in-Ok-clause-ok
returns-in-Ok-clause-ok c =
    drafted_same c.read_behind.result _ _ c.read_behind.new.draft
    (split_placed (so_far c.args.draft.now) c.args.line.now _ c.in-Ok.text.now c.in-Ok.word refl c.in-Ok.ensures.parts c.in-Ok.ensures.word c.in-Ok.ensures.may)
    c.read_behind.ensures.ok

pub returns-in-Ok-clause-err : goal.returns-in-Ok-clause-err
returns-in-Ok-clause-err c =
    stops_same c.read_behind.result _ _
    (split_placed (so_far c.args.draft.now) c.args.line.now _ c.in-Ok.text.now c.in-Ok.word refl c.in-Ok.ensures.parts c.in-Ok.ensures.word c.in-Ok.ensures.may)
    c.read_behind.ensures.err

pub returns-in-Ok-clause-judged : goal.returns-in-Ok-clause-judged
returns-in-Ok-clause-judged c = split_judged c.read_behind.result (so_far c.args.draft.now) c.args.line.now _ c.in-Ok.word refl c.in-Ok.ensures.word c.in-Ok.ensures.may

pub returns-in-Err-clause-err : goal.returns-in-Err-clause-err
returns-in-Err-clause-err c = inr (split_misplaced (so_far c.args.draft.now) c.args.line.now _ c.in-Err.why refl c.in-Err.ensures.err)

pub returns-in-Err-clause-judged : goal.returns-in-Err-clause-judged
returns-in-Err-clause-judged c = judged_misplaced (so_far c.args.draft.now) c.args.line.now _ c.in-Err.why c.in-Err.ensures.err
