use Rattle.std.proofs.Common.{subst}
use Rattle.std.specs.Prelude.{IfOk}
use Rattle.usb_host.specs.declared.choice.Choice.{Choice}
use Rattle.usb_bus.specs.Asked.{asked_of}
use Rattle.usb_bus.specs.Enumerate.{EndsWell}
use Rattle.usb_bus.proofs.log.enumerate_encoded_logged.Goals as goal

pub returns-clause-ends_well : goal.returns-clause-ends_well
returns-clause-ends_well g c =
    subst (λ f. IfOk c.enumerate_logged_with.result (EndsWell f c.args.limits c.args.fates.now)) c.all_is_asked.ensures
    (subst (λ (choice : Choice). IfOk c.enumerate_logged_with.result (EndsWell (asked_of choice c.args.d.now.file) c.args.limits c.args.fates.now))
    c.everything.ensures c.enumerate_logged_with.ensures.ends_well)
