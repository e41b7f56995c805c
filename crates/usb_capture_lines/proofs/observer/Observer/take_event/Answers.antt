use Rattle.std.proofs.Common.{ap, rules, ◌∙◌}
use Rattle.usb_capture_lines.specs.Observations.{one_more}
use Rattle.usb_capture_lines.proofs.ObservationLemmas.{event_observed}
use Rattle.usb_capture_lines.proofs.observer.Observer.take_event.Goals as goal

pub returns : goal.returns
returns c observed has =
    let h = event_observed c.in_ok-transfer.transfer observed c.args.event.now c.args.self.now.controls c.take.new.self c.in_ok-transfer.ensures.ok has.taken in (
      record { taken = h.0; bus = has.bus; made = has.made; decoded = c.one_more-self.ensures ∙ ap one_more has.decoded },
      record { transfer = h.1; found = search rules },
    )
