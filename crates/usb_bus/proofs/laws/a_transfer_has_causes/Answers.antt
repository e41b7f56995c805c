use Rattle.usb_bus.specs.Attempt.{begins}
use Rattle.usb_bus.specs.Bus.{Ends, run_of, losses, busies, acks_lost}
use Rattle.usb_bus.proofs.Keeps.{stages_end, stays_together}
use Rattle.usb_bus.proofs.laws.a_transfer_has_causes.Goals as goal

pub returns : goal.returns
returns c = λ answer cut naks size q d data_out fates w alike sizes.
    let e : Ends = run_of answer cut data_out fates (record { host = begins d.state.address size naks q; device = d }) in
    let together = stays_together answer cut naks size q d data_out fates w alike sizes in
    stages_end answer cut d.state q size naks data_out (losses fates) (busies fates) (acks_lost fates) e.host.transfer.stage e.device.stage
    e.host.transfer.awaited e.host.got e.host.transfer.kept e.host.transfer.strikes e.device.state together.stand.stages
