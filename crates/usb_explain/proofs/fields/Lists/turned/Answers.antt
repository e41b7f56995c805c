use Rattle.std.proofs.Common.{sym, ◌∙◌}
use Rattle.usb_explain.proofs.FieldSteps.{turned_same, turned_through}
use Rattle.usb_explain.proofs.fields.Lists.turned.Goals as goal

pub returns-then-is_there-clause-same : goal.returns-then-is_there-clause-same
returns-then-is_there-clause-same c =
    turned_same c.args.self c.args.count (sym c.is_empty.ensures ∙ c.if-not-is_empty.false)
    (sym c.is_empty-else-not-is_empty.ensures ∙ c.if-not-is_empty-2.false) (sym c.is_there.ensures ∙ c.if-is_there.true)

pub returns-else-is_there-clause-through : goal.returns-else-is_there-clause-through
returns-else-is_there-clause-through c = λ _.
    turned_through c.args.self c.args.count (sym c.is_empty.ensures ∙ c.if-not-is_empty.false)
    (sym c.is_empty-else-not-is_empty.ensures ∙ c.if-not-is_empty-2.false) (sym c.is_there.ensures ∙ c.if-is_there.false)
