use Rattle.std.proofs.Common.{◌∙◌, ap}
use Rattle.usb_capture.specs.declared.known_states.KnownStates.{KnownStates}
use Rattle.usb_capture.specs.Conversations.{states_after}
use Rattle.usb_capture.proofs.SaidLemmas.{found_by, known_more}
use Rattle.usb_capture.proofs.conversations.Conversations.take.Goals as goal

pub returns : goal.returns
returns c = record {
  ok = λ earlier knows. (
    c.in_ok-found.ensures ∙ found_by c.args.transfer.now earlier c.args.self.now knows,
    known_more c.args.transfer.now earlier c.args.self.now c.take_answer.new.self c.in_ok-take_answer.ensures.held
        (ap (λ (s : KnownStates). s.held.items) c.in_ok-take_answer.ensures.states
        ∙ c.in_ok-change.ensures.ok
        ∙ ap (λ next. states_after c.args.transfer.now next c.args.self.now.states.held.items) c.next_state-next.ensures)
        knows,
  );
}
