use Rattle.std.proofs.Common.{sym, ◌∙◌, arith}
use Rattle.usb_find.proofs.search.set_length.Goals as goal

pub leads-requires-clause-end : goal.leads-requires-clause-end
leads-requires-clause-end g c =
    let t = c.in-Some.ensures.some in
    (omega (arith, t.least), t.within, omega (arith, t.most))

pub returns-then-leads-clause-value : goal.returns-then-leads-clause-value
returns-then-leads-clause-value g c = sym (c.in-Some.ensures.some.whole (sym c.leads.ensures.value ∙ c.if-leads.true))

pub returns-else-leads-clause-value : goal.returns-else-leads-clause-value
returns-else-leads-clause-value g c = sym (c.in-Some.ensures.some.broken (sym c.leads.ensures.value ∙ c.if-leads.false))
