use Rattle.std.proofs.Common.{false, refl}
use Rattle.usb_device.specs.Step.{new_device}
use Rattle.usb_bus.specs.Series.{attempt_under}
use Rattle.usb_bus.proofs.Attempts.{attempts_sound, sound_ends, sound_stays}
use Rattle.usb_bus.proofs.SeriesLemmas.{series_judged}
use Rattle.usb_bus.proofs.lemmas.attempts_have_causes.Goals as goal

pub returns : goal.returns
returns c = λ plan naks limit sends answer cut all last fates follows.
    series_judged plan naks limit sends answer cut false all last
    (λ used. sound_stays plan naks sends answer cut false all last used (attempt_under plan naks limit sends answer cut used)
    (attempts_sound plan naks sends answer cut false all last new_device used follows))
    (λ used. let x = attempt_under plan naks limit sends answer cut used in
    sound_ends plan naks sends answer cut false all last used x.replies x.phase x.device
    (attempts_sound plan naks sends answer cut false all last new_device used follows)) refl fates
