use Rattle.std.proofs.Common.{subst, sym}
use Rattle.usb_device.specs.Step.{new_device}
use Rattle.usb_bus.specs.Attempt.{AttemptEnds, attempt_run}
use Rattle.usb_bus.specs.Converse.{ends_with_address, first_place, replies_to, state_after, talk_data, talk_plan, talk_start}
use Rattle.usb_bus.proofs.wire.a_talk_on_the_wire_has_causes.Goals as goal

pub returns : goal.returns
returns c = λ answer packet naks qs events y some table run.
    let plan = talk_plan packet (first_place qs) in
    let sends = talk_data (first_place qs) in
    let start = talk_start packet naks qs in
    let all = c.an_attempt_on_the_wire_has_fates.ensures answer packet plan naks sends events start y run in
    let fates = all.0 in
    let z = attempt_run plan naks sends answer packet fates start in
    let ends = c.a_talk_has_causes.ensures answer packet naks qs fates some table in
    let moved = ends_with_address qs in
    let replies = replies_to answer new_device.state qs in
    let last = state_after answer new_device.state qs in (
      fates,
      all.1,
      subst (λ r. AttemptEnds naks fates moved replies last r y.phase y.device.state) (sym all.2.0)
          (subst (λ p. AttemptEnds naks fates moved replies last z.replies p y.device.state) (sym all.2.1)
          (subst (λ s. AttemptEnds naks fates moved replies last z.replies z.phase s) (sym all.2.2.state) ends)),
    )
