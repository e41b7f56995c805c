use Rattle.std.proofs.Common.{Bool, [], refl}
use Rattle.usb_bus.specs.Attempt.{Attempt, attempt_run, is_moved_last, proceed}
use Rattle.usb_bus.proofs.Attempts.{answers_follow, attempts_sound, sound_stays}
use Rattle.usb_bus.proofs.laws.an_attempt_stays_together_or_falls_silent.Goals as goal

pub returns : goal.returns
returns c = λ plan naks sends answer cut all last d fates answers.
    let x : Attempt = attempt_run plan naks sends answer cut fates (proceed plan naks [] d) in
    let moved : Bool = is_moved_last plan [] all in
    sound_stays plan naks sends answer cut moved all last fates x
    (attempts_sound plan naks sends answer cut moved all last d fates (answers_follow plan naks sends answer cut moved all last d.state [] all answers refl (λ is. is)))
