use Rattle.std.proofs.Common.{subst}
use Rattle.usb_host.specs.declared.choice.Choice.{Choice}
use Rattle.usb_device.specs.Requests.{answer}
use Rattle.usb_bus.specs.Asked.{asked_of}
use Rattle.usb_bus.specs.Enumerate.{EndsWell, IsRunFrom, chosen_pair}
use Rattle.usb_bus.proofs.enumeration.enumerate_encoded.Goals as goal

pub returns-clause-run : goal.returns-clause-run
returns-clause-run c =
    let d = c.args.d.now in
    subst (λ (choice : Choice). IsRunFrom (chosen_pair c.args.limits d.speed choice) (answer d.file) d.file.device.packet c.args.fates.now c.enumerate_with.result)
    c.everything.ensures c.enumerate_with.ensures.run.0

pub returns-clause-ends_well : goal.returns-clause-ends_well
returns-clause-ends_well c =
    subst (λ f. EndsWell f c.args.limits c.args.fates.now c.enumerate_with.result) c.all_is_asked.ensures
    (subst (λ (choice : Choice). EndsWell (asked_of choice c.args.d.now.file) c.args.limits c.args.fates.now c.enumerate_with.result)
    c.everything.ensures c.enumerate_with.ensures.ends_well)
