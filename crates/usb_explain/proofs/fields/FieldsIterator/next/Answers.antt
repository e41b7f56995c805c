use Rattle.std.proofs.Common.{◌∙◌, ap, length, rules, sym, List}
use Rattle.usb_explain.specs.Fields.{PlacedField}
use Rattle.usb_explain.proofs.FieldSteps.{placed_next, placed_none}
use Rattle.usb_explain.proofs.fields.FieldsIterator.next.Goals as goal

pub returns-in_err-piece-clause-steps : goal.returns-in_err-piece-clause-steps
returns-in_err-piece-clause-steps c =
    let none = sym c.self.view_is ∙ placed_none c.self.inside.place _ c.self.inside.ahead.now c.in_err-piece.ensures.first in
    rw c.from_residual.ensures (none, none)

pub returns-clause-steps : goal.returns-clause-steps
returns-clause-steps c =
    sym c.self.view_is
    ∙ placed_next c.self.inside.place _ c.in_ok-piece.piece c.in_ok-piece.lists c.self.inside.ahead.now c.prefix.result.now c.after-self-inside.result.now
    c.in_ok-piece.ensures.first c.prefix.ensures c.after-self-inside.ensures

pub returns-clause-goes : goal.returns-clause-goes
returns-clause-goes c =
    let step =
    sym c.self.view_is
    ∙ placed_next c.self.inside.place _ c.in_ok-piece.piece c.in_ok-piece.lists c.self.inside.ahead.now c.prefix.result.now c.after-self-inside.result.now
    c.in_ok-piece.ensures.first c.prefix.ensures c.after-self-inside.ensures in
    let shorter = ap (λ (l : List PlacedField). length l) step in search rules
