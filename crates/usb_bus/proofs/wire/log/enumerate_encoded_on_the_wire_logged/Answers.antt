use Rattle.std.proofs.Common.{subst}
use Rattle.std.specs.Prelude.{IfOk}
use Rattle.usb_host.specs.declared.choice.Choice.{Choice}
use Rattle.usb_bus.specs.Asked.{asked_of}
use Rattle.usb_bus.specs.DamagedLaws.{IsSlightFrom}
use Rattle.usb_bus.specs.DamagedRuns.{counts_of}
use Rattle.usb_bus.specs.Enumerate.{chosen_pair, new_pair}
use Rattle.usb_bus.proofs.wire.log.enumerate_encoded_on_the_wire_logged.Goals as goal

pub returns-clause-slight : goal.returns-clause-slight
returns-clause-slight g c = λ slight.
    let d = c.args.d.now in
    let limits = c.args.limits in
    let logging = c.args.logging in
    let r = c.enumerate_on_the_wire_logged_with.result in
    subst (λ f. IfOk r (λ run. IsSlightFrom (new_pair limits d.speed) d.file f limits (counts_of logging.fates.now logging.changes.now run.transactions) run)) c.all_is_asked.ensures
    (subst (λ (choice : Choice). IfOk r (λ run. IsSlightFrom (chosen_pair limits d.speed choice) d.file (asked_of choice d.file) limits (counts_of logging.fates.now logging.changes.now run.transactions) run))
    c.everything.ensures (c.enumerate_on_the_wire_logged_with.ensures.slight slight))
