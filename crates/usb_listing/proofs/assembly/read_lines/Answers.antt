use Rattle.usb_listing.proofs.ReadingLemmas.{passed_on, reading_next, refused_line}
use Rattle.usb_listing.proofs.assembly.read_lines.Goals as goal

pub lines-preserved : goal.lines-preserved
lines-preserved c = record {
  reading = reading_next _ _ _ _ _ _ _ c.lines.invariant.reading c.in_ok-rest.ensures.ok c.in_ok-rest.ensures.shorter;
  room = c.in_ok-rest.ensures.room;
}

pub returns-in_err-rest-clause-err : goal.returns-in_err-rest-clause-err
returns-in_err-rest-clause-err c =
    passed_on c.args.form c.from_residual.result c.args.text.now _ c.from_residual.ensures.1
    (refused_line c.args.form c.args.text.now c.lines.rest.now c.lines.draft c.lines.line _ _ c.lines.invariant.reading c.in_err-rest.ensures.read c.in_err-rest.ensures.place c.in_err-rest.ensures.err)
