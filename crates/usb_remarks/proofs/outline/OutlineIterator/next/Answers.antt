use Rattle.std.proofs.Common.{◌≡◌, ◌∙◌, ◌∷◌, ◌-◌, drop, ap, ap₂, arith, length, subst, sym, take, rules, List, ℕ}
use Rattle.std.proofs.lemmas.List.{length-take-le}
use Rattle.usb_walk.specs.declared.position.Position.{Position}
use Rattle.usb_walk.specs.declared.role.Role.{Role}
use Rattle.usb_remarks.specs.declared.outline_state.OutlineState.{OutlineState}
use Rattle.usb_remarks.specs.Outline.{Described, after_next}
use Rattle.usb_remarks.specs.OutlineStates.{AreCounted}
use Rattle.usb_walk.specs.Positions.{position_at}
use Rattle.usb_remarks.proofs.Coming.{awaits_end}
use Rattle.usb_remarks.proofs.Outlines.{left_same, outline_next, outline_nil, outline_none, stays_counted, stays_room}
use Rattle.usb_walk.proofs.Positions.{after_left}
use Rattle.usb_remarks.proofs.outline.OutlineIterator.next.Goals as goal

pub returns-in_default-clause-steps : goal.returns-in_default-clause-steps
returns-in_default-clause-steps c = (
  sym c.self.view_is ∙ outline_none c.self.inside.running c.self.inside.state c.self.inside.found.now c.self.inside.ahead.now (sym c.next_role.ensures.next ∙ c.in_default.is),
  outline_nil c.self.inside.running c.self.inside.state c.self.inside.found.now,
)

pub step_over-requires-clause-later : goal.step_over-requires-clause-later
step_over-requires-clause-later c = c.pass.ensures c.self.inside.state.position (sym c.next_role.ensures.next ∙ c.in-Some.is) c.self.invariant.2

pub invariant_of-self : goal.invariant_of-self
invariant_of-self c = (c.self.invariant.0, omega (arith, c.self.invariant.1), awaits_end c.self.inside.later c.self.inside.state.position.left c.self.inside.ahead.now c.self.invariant.2)

pub invariant_of-self-2 : goal.invariant_of-self-2
invariant_of-self-2 c =
    let b = c.self.inside.ahead.now in
    let next : Role × ℕ = (c.in-Some.role, c.in-Some.count) in
    let comes = sym c.next_role.ensures.next ∙ c.in-Some.is in
    let at : c.step_over.new.self.position.at ≡ (after_next c.self.inside.running c.self.inside.state b next).position.at = ap (λ (s : OutlineState). s.position.at) c.step_over.ensures.state in
    let left : length c.split_at.result.1.now ≡ length (drop c.in-Some.count b) = ap length c.split_at.ensures.back in
    let entered : Position = position_at c.in-Some.role b c.self.inside.state.position in
    let taken : length (take c.in-Some.count b) ≡ c.in-Some.count = length-take-le c.in-Some.count b c.in-Some.ensures.most in
    let still : c.step_over.new.self.position.left ≡ entered.left - c.in-Some.count =
    ap (λ (s : OutlineState). s.position.left) c.step_over.ensures.state ∙ after_left c.in-Some.role (take c.in-Some.count b) entered ∙ ap (λ k. entered.left - k) taken in (
      subst (λ (s : OutlineState). AreCounted s) (sym c.step_over.ensures.state) (stays_counted c.self.inside.running c.self.inside.state b next comes c.self.invariant.0),
      omega (arith, at, left, stays_room c.self.inside.running c.self.inside.state b next comes c.self.invariant.1),
      rw (still, c.split_at.ensures.back) (c.pass.ensures c.self.inside.state.position comes c.self.invariant.2),
    )

pub returns-clause-steps : goal.returns-clause-steps
returns-clause-steps c =
    let b = c.self.inside.ahead.now in
    let next : Role × ℕ = (c.in-Some.role, c.in-Some.count) in
    sym c.self.view_is ∙ outline_next c.self.inside.running c.self.inside.state c.self.inside.found.now b next (sym c.next_role.ensures.next ∙ c.in-Some.is)
    ∙ ap₂ ◌∷◌ (sym c.step_over.ensures.here)
    (left_same c.self.inside.running _ _ _ _ _ _ (sym c.step_over.ensures.state) (sym c.step_over.ensures.left) (sym c.split_at.ensures.back))

pub returns-clause-goes : goal.returns-clause-goes
returns-clause-goes c =
    let b = c.self.inside.ahead.now in
    let next : Role × ℕ = (c.in-Some.role, c.in-Some.count) in
    let step = sym c.self.view_is ∙ outline_next c.self.inside.running c.self.inside.state c.self.inside.found.now b next (sym c.next_role.ensures.next ∙ c.in-Some.is)
    ∙ ap₂ ◌∷◌ (sym c.step_over.ensures.here)
    (left_same c.self.inside.running _ _ _ _ _ _ (sym c.step_over.ensures.state) (sym c.step_over.ensures.left) (sym c.split_at.ensures.back)) in
    let shorter = ap (λ (l : List Described). length l) step in search rules
