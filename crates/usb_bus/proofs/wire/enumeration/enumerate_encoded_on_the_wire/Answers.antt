use Rattle.std.proofs.Common.{subst}
use Rattle.usb_host.specs.declared.choice.Choice.{Choice}
use Rattle.usb_bus.specs.Asked.{asked_of}
use Rattle.usb_bus.specs.DamagedLaws.{IsSlightFrom}
use Rattle.usb_bus.specs.DamagedRuns.{counts_of}
use Rattle.usb_bus.specs.Enumerate.{chosen_pair, new_pair}
use Rattle.usb_bus.proofs.wire.enumeration.enumerate_encoded_on_the_wire.Goals as goal

pub returns-clause-slight : goal.returns-clause-slight
returns-clause-slight c = λ slight.
    let d = c.args.d.now in
    let run = c.enumerate_on_the_wire_with.result in
    let n = counts_of c.args.fates.now c.args.changes.now run.transactions in
    subst (λ g. IsSlightFrom (new_pair c.args.limits d.speed) d.file g c.args.limits n run) c.all_is_asked.ensures
    (subst (λ (choice : Choice). IsSlightFrom (chosen_pair c.args.limits d.speed choice) d.file (asked_of choice d.file) c.args.limits n run)
    c.everything.ensures (c.enumerate_on_the_wire_with.ensures.slight slight))
