use Rattle.std.proofs.Common.{subst, sym}
use Rattle.usb_listing.specs.inside.Drafts.{Reported, so_far}
use Rattle.usb_listing.specs.inside.Walking.{text_read}
use Rattle.usb_listing.proofs.FeedLemmas.{no_feed_faulty, read_reported}
use Rattle.usb_listing.proofs.FormLemmas.{none_before_none, none_before_read}
use Rattle.usb_listing.proofs.ReadingLemmas.{begun_of}
use Rattle.usb_listing.proofs.assembly.read_next.Goals as goal

pub returns-in_default-clause-err : goal.returns-in_default-clause-err
returns-in_default-clause-err c = no_feed_faulty c.args.form c.args.text.now c.requires.some c.in_default.ensures.none

pub returns-in_default-clause-read : goal.returns-in_default-clause-read
returns-in_default-clause-read c = none_before_none c.args.form c.args.text.now c.in_default.ensures.none

pub returns-in-Err-clause-err : goal.returns-in-Err-clause-err
returns-in-Err-clause-err c =
    subst (Reported (so_far c.args.draft.now) (text_read c.args.form c.args.text.now)) (sym c.first_reason.ensures)
    (read_reported c.args.form (so_far c.args.draft.now) c.args.text.now c.in-Some.first.now c.in-Some.more.now c.in-Some-line_read.first.now c.in-Err.why
    (begun_of c.args.draft.now c.requires.holds) c.in-Some.ensures.some c.in-Some-line_read.ensures c.in-Err.ensures.err c.in-Err.ensures.judged)

pub returns-in-Err-clause-read : goal.returns-in-Err-clause-read
returns-in-Err-clause-read c =
    none_before_read c.args.form c.args.text.now c.in-Some.first.now c.in-Some.more.now c.in-Some-line_read.first.now c.in-Some.ensures.some c.in-Some-line_read.ensures
