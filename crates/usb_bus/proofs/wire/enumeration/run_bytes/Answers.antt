use Rattle.std.proofs.Common.{◌∙◌, [], ◌∷◌, refl, sym, ap, subst, arith}
use Rattle.usb_device.specs.Accepted.{Accepted}
use Rattle.usb_host.specs.Steps.{chosen_host}
use Rattle.usb_host.proofs.LowerLemmas.{asks_less}
use Rattle.usb_bus.specs.DamagedRuns.{IsDamagedStep}
use Rattle.usb_bus.specs.Enumerate.{Pair, both}
use Rattle.usb_bus.proofs.EnumerateLemmas.{most_few}
use Rattle.usb_bus.proofs.wire.enumeration.run_bytes.Goals as goal

pub loop-now-init : goal.loop-now-init
loop-now-init c =
    let new = c.with_choice-host.ensures ∙ ap (λ s. chosen_host c.args.limits s c.args.choice) c.speed.ensures in
    let most_new = asks_less.at_most c.args.limits c.args.d.now.speed c.args.choice in
    let low = c.known-2.ensures.address_to in
    record {
      runs = ([], (rw (new, c.of-device.ensures) refl, refl));
      description = ap (λ v. v.description) c.of-device.ensures;
      few = rw new (omega arith);
      within = rw new (record { limits = omega arith; phase = tt });
    }

pub step_bytes-requires : goal.step_bytes-requires
step_bytes-requires c =
    let bound = most_few c.args.limits c.known-2.ensures.attempts_to (omega arith) in
    let few = c.loop-now.invariant.few in
    record {
      few = omega arith;
      within = c.loop-now.invariant.within;
      accepted = subst (λ d. Accepted d.file d.speed) (sym c.loop-now.invariant.description) c.known.ensures.accepted;
    }

pub loop-now-preserved : goal.loop-now-preserved
loop-now-preserved c =
    let before : Pair = both c.loop-now.host c.loop-now.device.device in
    let after : Pair = both c.step_bytes.new.host c.step_bytes.new.device.device in
    let n = c.loop-now.transactions in
    let now = c.in-Some.now in
    let made =
    subst (λ d. IsDamagedStep d.file c.args.fates.now c.args.changes.now before n after now) c.loop-now.invariant.description c.in-Some.ensures.made
    in
    let (earlier, runs) = c.loop-now.invariant.runs in
    let fewer = made.fewer in
    let few = c.loop-now.invariant.few in
    record {
      runs = (before ∷ earlier, (n, made.moves, runs));
      description = c.in-Some.ensures.description ∙ c.loop-now.invariant.description;
      few = omega arith;
      within = c.in-Some.ensures.within;
    }
