use Rattle.std.proofs.Common.{◌∙◌, IfSome, refl, sym, ap, subst, arith}
use Rattle.std.specs.Prelude.{IsNone, IsSome}
use Rattle.usb_host.specs.Steps.{chosen_host}
use Rattle.usb_host.proofs.LowerLemmas.{asks_less}
use Rattle.usb_device.specs.Requests.{answer}
use Rattle.usb_bus.specs.declared.enumeration.Run.{Run}
use Rattle.usb_bus.specs.Enumerate.{IsRunFrom, Pair, IsStep, Moves, both, chosen_pair}
use Rattle.usb_bus.specs.inside.Running.{Breaks, Leads, Walks}
use Rattle.usb_bus.proofs.EnumerateLemmas.{most_few}
use Rattle.usb_bus.proofs.LogLemmas.{leads_none, leads_on}
use Rattle.usb_fields.proofs.Exits.{exit_err}
use Rattle.usb_bus.proofs.steps.run_with.Given.{Over}
use Rattle.usb_bus.proofs.steps.run_with.Goals as goal

pub loop-host-init : goal.loop-host-init
loop-host-init g c =
    let new = c.with_choice-host.ensures ∙ ap (λ s. chosen_host c.args.limits s c.args.choice) c.speed.ensures in
    let most_new = asks_less.at_most c.args.limits c.args.d.now.speed c.args.choice in
    record {
      leads = leads_none c.args.d.now.file (chosen_pair c.args.limits c.args.d.now.speed c.args.choice) c.args.fates.now (g.S.Steps.does c.args.d.now.file c.args.fates.now)
          (both c.with_choice-host.result c.of-device.result.device) c.args.w.now
          (rw (new, c.of-device.ensures) refl);
      description = ap (λ v. v.description) c.of-device.ensures;
      few = rw new (omega arith);
    }

pub step-requires : goal.step-requires
step-requires g c =
    let bound = most_few c.args.limits c.known-2.ensures.attempts_to (omega arith) in
    let few = c.loop-host.invariant.few in
    record { few = omega arith }

pub loop-host-preserved : goal.loop-host-preserved
loop-host-preserved g c =
    let before : Pair = both c.loop-host.host c.loop-host.device.device in
    let after : Pair = both c.step.new.host c.step.new.device.device in
    let n = c.loop-host.transactions in
    let now = c.in-Some.now in
    let made =
    subst (λ d. IsStep d.file c.args.fates.now before n after now) c.loop-host.invariant.description
    (subst (λ o. IfSome o (IsStep c.loop-host.device.description.file c.args.fates.now before n after)) c.in-Some.is c.in_ok-now.ensures.made)
    in
    let did =
    subst (λ d. g.S.Steps.does d.file c.args.fates.now before after now c.loop-host.w c.step.new.w) c.loop-host.invariant.description
    (subst (λ o. IfSome o (λ m. g.S.Steps.does c.loop-host.device.description.file c.args.fates.now before after m c.loop-host.w c.step.new.w)) c.in-Some.is c.in_ok-now.ensures.does)
    in
    let fewer = made.fewer in
    let few = c.loop-host.invariant.few in
    record {
      leads = leads_on c.args.d.now.file (chosen_pair c.args.limits c.args.d.now.speed c.args.choice) c.args.fates.now (g.S.Steps.does c.args.d.now.file c.args.fates.now)
          before after n now c.args.w.now c.loop-host.w c.step.new.w c.loop-host.invariant.leads made.moves did;
      description = c.in_ok-now.ensures.description ∙ c.loop-host.invariant.description;
      few = omega arith;
    }

-- there is an outcome where nothing is wanted
pub unreachable-requires : goal.unreachable-requires
unreachable-requires g c =
    let some = (c.in_ok-now.ensures.none (subst (λ o. IsNone o) (sym c.in_default.is) refl)).0.ended in
    absurd (let none = subst (λ o. IsSome o) (sym c.into_outcome.ensures ∙ c.in-None.is) some in cc)

pub returns-in_err-now-clause-breaks : goal.returns-in_err-now-clause-breaks
returns-in_err-now-clause-breaks g c =
    let f = c.args.d.now.file in
    let fates = c.args.fates.now in
    let before : Pair = both c.loop-host.host c.loop-host.device.device in
    let after : Pair = both c.step.new.host c.step.new.device.device in
    let n = c.loop-host.transactions in
    let fault = c.in_err-now.field-0.0 in
    let (now, moves, broken) = c.in_err-now.ensures.breaks in
    exit_err c.from_residual.result fault
    (λ e. Breaks f (chosen_pair c.args.limits c.args.d.now.speed c.args.choice) fates (g.S.Steps.does f fates) (λ x y m from to. g.S.Steps.breaks f fates x y m from to e) c.args.w.now c.step.new.w)
    c.from_residual.ensures.1
    (record {
      before = before;
      transactions = n;
      mid = c.loop-host.w;
      leads = c.loop-host.invariant.leads;
      last = after;
      now = now;
      moves = subst (λ d. Moves d.file fates before n after now) c.loop-host.invariant.description moves;
      broken = subst (λ d. g.S.Steps.breaks d.file fates before after now c.loop-host.w c.step.new.w fault) c.loop-host.invariant.description broken;
    })

-- what came of it
abbrev result : (g : Over) → goal.After-state g → Run
result g c =
    record {
      outcome = c.in-Some-into_outcome.outcome;
      attempts = c.attempts-attempts.result;
      transactions = c.loop-host.transactions;
      state = c.state.result;
    }

walked : (g : Over) (c : goal.After-state g)
    → Walks c.args.d.now.file (chosen_pair c.args.limits c.args.d.now.speed c.args.choice) c.args.fates.now (g.S.Steps.does c.args.d.now.file c.args.fates.now) c.args.w.now c.step.new.w (result g c)
walked g c =
    let (none, kept) = c.in_ok-now.ensures.none (subst (λ o. IsNone o) (sym c.in_default.is) refl) in
    let last : Pair = both c.step.new.host c.step.new.device.device in
    record {
      last = last;
      leads = subst
          (λ w. Leads c.args.d.now.file (chosen_pair c.args.limits c.args.d.now.speed c.args.choice) c.args.fates.now (g.S.Steps.does c.args.d.now.file c.args.fates.now) c.loop-host.transactions last c.args.w.now w)
          (sym kept)
          (subst (λ p. Leads c.args.d.now.file (chosen_pair c.args.limits c.args.d.now.speed c.args.choice) c.args.fates.now (g.S.Steps.does c.args.d.now.file c.args.fates.now) c.loop-host.transactions p c.args.w.now c.loop-host.w)
          (sym none.same) c.loop-host.invariant.leads);
      attempts = sym c.attempts-attempts.ensures;
      outcome = sym c.into_outcome.ensures ∙ c.in-Some-into_outcome.is;
      state = sym c.state.ensures;
    }

pub returns-clause-walks : goal.returns-clause-walks
returns-clause-walks g c = walked g c

made : (g : Over) (c : goal.After-state g)
    → IsRunFrom (chosen_pair c.args.limits c.args.d.now.speed c.args.choice) (answer c.args.d.now.file) c.args.d.now.file.device.packet c.args.fates.now (result g c)
made g c = (let w = walked g c in (w.leads.earlier, w.last, w.leads.runs, w.attempts, w.outcome, w.state))

-- by the law of enumerations that have ended
pub returns-clause-ends_well : goal.returns-clause-ends_well
returns-clause-ends_well g c =
    (c.an_enumeration_ends_well.ensures.any_choice c.args.d.now.file c.args.d.now.speed c.args.limits c.args.choice c.args.fates.now (result g c)
    c.known.ensures.accepted c.known.ensures.fits c.known-2.ensures (made g c)).0

pub returns-clause-run : goal.returns-clause-run
returns-clause-run g c = (
  made g c,
  (c.an_enumeration_ends_well.ensures.any_choice c.args.d.now.file c.args.d.now.speed c.args.limits c.args.choice c.args.fates.now (result g c)
      c.known.ensures.accepted c.known.ensures.fits c.known-2.ensures (made g c)).1,
)
