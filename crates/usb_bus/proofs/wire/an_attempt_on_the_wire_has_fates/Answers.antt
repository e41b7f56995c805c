use Rattle.usb_bus.proofs.WireRunLemmas.{attempts_fated}
use Rattle.usb_bus.proofs.wire.an_attempt_on_the_wire_has_fates.Goals as goal

pub returns : goal.returns
returns c = λ answer packet plan naks sends events x y run.
    let all = attempts_fated answer packet plan naks sends events x y run in (all.0, all.1, (all.2.replies, all.2.phase, all.2.device))
