use Rattle.std.proofs.Common.{sym, ◌∙◌, arith}
use Rattle.usb_listing.proofs.WordLemmas.{chunk_not_ended, chunk_split, line_short}
use Rattle.usb_listing.proofs.word.behind.Goals as goal

pub returns-in_err-first : goal.returns-in_err-first
returns-in_err-first g c =
    rw c.from_residual.ensures (line_short c.args.line.now c.args.word.now (let short = c.in_err-first.ensures.cases in let report = c.told-word in omega (arith, short, report)))

pub returns-then-ends_word : goal.returns-then-ends_word
returns-then-ends_word g c =
    chunk_split c.args.line.now c.args.word.now c.in_ok-first.first.now c.in_ok-first.rest.now g.row.N c.told-word c.in_ok-first.ensures.cases.0 c.in_ok-first.ensures.cases.1
    (sym c.ne.ensures ∙ c.if-ne.false) (sym c.ends_word.ensures ∙ c.if-ends_word.true)

pub returns-else-ends_word : goal.returns-else-ends_word
returns-else-ends_word g c =
    chunk_not_ended c.args.line.now c.args.word.now c.in_ok-first.rest.now g.row.N c.told-word c.in_ok-first.ensures.cases.1 (sym c.ends_word.ensures ∙ c.if-ends_word.false)
