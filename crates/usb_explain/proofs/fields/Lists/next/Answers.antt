use Rattle.std.proofs.Common.{arith, sym, ◌∙◌}
use Rattle.usb_explain.proofs.FieldSteps.{first_is_cut, first_is_there, next_of_same}
use Rattle.usb_explain.proofs.fields.Lists.next.Goals as goal

pub returns-then-count-width-clause-first : goal.returns-then-count-width-clause-first
returns-then-count-width-clause-first c =
    next_of_same c.left_over-then-count-width.result _ _ c.args.count
    (sym c.turned-lists.ensures.same ∙ first_is_cut c.turned-lists.result _ c.args.count c.from-width.result c.in-len1-up.len_at_least c.from-width.ensures c.if-count-width.true)
    c.left_over-then-count-width.ensures.first

pub returns-else-count-width-clause-first : goal.returns-else-count-width-clause-first
returns-else-count-width-clause-first c =
    sym c.turned-lists.ensures.same
    ∙ first_is_there c.turned-lists.result _ c.args.count c.from-width.result c.in-len1-up.len_at_least c.from-width.ensures (omega arith)
