use Rattle.std.proofs.Common.{◌∙◌, IfSome, refl, ap, subst, arith}
use Rattle.usb_host.specs.Steps.{chosen_host}
use Rattle.usb_host.proofs.LowerLemmas.{asks_less}
use Rattle.usb_bus.specs.Enumerate.{Pair, both, chosen_pair}
use Rattle.usb_bus.specs.inside.Seeing.{LogsStep}
use Rattle.usb_bus.proofs.LogLemmas.{is_brief}
use Rattle.usb_bus.proofs.WireLogLemmas.{leads_none, leads_on}
use Rattle.usb_bus.proofs.wire.log.run_logged.Goals as goal

pub loop-host-init : goal.loop-host-init
loop-host-init g c =
    let new = c.with_choice-host.ensures ∙ ap (λ s. chosen_host c.args.limits s c.args.choice) c.speed.ensures in
    let most_new = asks_less.at_most c.args.limits c.args.d.now.speed c.args.choice in
    let low = c.known-2.ensures.address_to in
    let l = c.args.log.now.logging in
    record {
      leads = leads_none (is_brief g.row.BRIEF) l.packets c.args.d.now.file l.fates.now l.changes.now (chosen_pair c.args.limits c.args.d.now.speed c.args.choice)
          (both c.with_choice-host.result c.of-device.result.device) (g.W.Write.contents c.args.w.now) (rw (new, c.of-device.ensures) refl);
      logging = refl;
      description = ap (λ v. v.description) c.of-device.ensures;
      few = rw new (omega arith);
      within = rw new (record { limits = omega arith; phase = tt });
    }

pub loop-host-preserved : goal.loop-host-preserved
loop-host-preserved g c =
    let before : Pair = both c.loop-host.host c.loop-host.device.device in
    let after : Pair = both c.step.new.host c.step.new.device.device in
    let n = c.loop-host.transactions in
    let now = c.in-Some.now in
    let l = c.args.log.now.logging in
    let from = g.W.Write.contents c.loop-host.w in
    let to = g.W.Write.contents c.step.new.w in
    let brief = is_brief g.row.BRIEF in
    let made =
    subst (λ d. LogsStep brief l.packets d.file l.fates.now l.changes.now before n after from to now) c.loop-host.invariant.description
    (subst (λ k. LogsStep brief k.packets c.loop-host.device.description.file k.fates.now k.changes.now before n after from to now) c.loop-host.invariant.logging
    (subst (λ o. IfSome o (LogsStep brief c.loop-host.log.logging.packets c.loop-host.device.description.file c.loop-host.log.logging.fates.now c.loop-host.log.logging.changes.now before n after from to)) c.in-Some.is c.in_ok-now.ensures.made))
    in
    let fewer = made.fewer in
    let few = c.loop-host.invariant.few in
    record {
      leads = leads_on brief l.packets c.args.d.now.file l.fates.now l.changes.now (chosen_pair c.args.limits c.args.d.now.speed c.args.choice) before n after now (g.W.Write.contents c.args.w.now) from to
          c.loop-host.invariant.leads made;
      logging = c.in_ok-now.ensures.same ∙ c.loop-host.invariant.logging;
      description = c.in_ok-now.ensures.description ∙ c.loop-host.invariant.description;
      few = omega arith;
      within = c.in_ok-now.ensures.within;
    }
