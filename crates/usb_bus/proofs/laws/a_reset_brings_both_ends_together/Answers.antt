use Rattle.std.proofs.Common.{Bool, []}
use Rattle.usb_device.specs.Step.{new_device}
use Rattle.usb_bus.specs.Attempt.{is_moved_last}
use Rattle.usb_bus.proofs.SeriesLemmas.{series_stands}
use Rattle.usb_bus.proofs.laws.a_reset_brings_both_ends_together.Goals as goal

-- the law of one attempt and what comes of it, and nothing else of the two ends
pub returns : goal.returns
returns c = λ plan naks limit sends answer cut all last fates answers.
    let moved : Bool = is_moved_last plan [] all in
    series_stands plan naks limit sends answer cut moved all last
    (λ since. c.an_attempt_stays_together_or_falls_silent.ensures plan naks sends answer cut all last new_device since answers)
    (λ since. c.an_attempt_has_causes.ensures plan naks sends answer cut all last new_device since answers) fates
