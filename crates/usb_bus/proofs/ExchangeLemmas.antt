-- What a device answers over a bus of bytes, put together.
use Rattle.std.proofs.Common.{◌≡◌, ◌+◌, ℕ, List, Bool, if◌then◌else◌, Option, Some, None, refl, ap, ◌∙◌, subst}
use Rattle.usb_fields.specs.declared.setup.Setup.{Setup}
use Rattle.usb_fields.specs.Packets.{Sent, Reply, NoReply}
use Rattle.usb_wire.specs.Packets.{PacketView}
use Rattle.usb_device.specs.declared.state.State.{State}
use Rattle.usb_device.specs.Requests.{Outcome}
use Rattle.usb_device.specs.Step.{DeviceView, Served, acked, served}
use Rattle.usb_bus.specs.declared.fate.Fate.{Fate}
use Rattle.usb_bus.specs.Damaged.{IsAnswered, IsExchanged, IsTakenOf, fitting, is_ready, reply_number}
use Rattle.usb_bus.specs.Exchanges.{is_lost_ack, is_lost_down, is_lost_up}
use Rattle.usb_bus.specs.Wire.{ack_packet, data_packet, received_reply, received_sent, is_ack, reply_packet, token_packet}

pub answered_so : (table : State → Setup → Outcome) (packet : ℕ) (d : DeviceView) (t : Sent) (number : ℕ) (fate : Fate) (bits : ℕ → List ℕ) (ready up down acks : Bool)
    (answered came : Reply) (p reply q ack : Option PacketView) → ready ≡ is_ready fate → answered ≡ (served table packet d t ready).reply
    → up ≡ is_lost_up fate → p ≡ reply_packet answered → IsTakenOf up (bits number) p reply → came ≡ received_reply reply
    → down ≡ is_lost_ack fate → q ≡ ack_packet came → IsTakenOf down (bits (number + 1)) q ack → acks ≡ is_ack ack
    → IsAnswered table packet d (Some t) number fate bits answered
    (record { reply = came; device = if acks then acked table packet (served table packet d t ready).device else (served table packet d t ready).device })
answered_so table packet d t number fate bits ready up down acks answered came p reply q ack ready_is answered_is up_is p_is taken came_is down_is q_is ack_taken acks_is =
    record {
      reply = reply;
      ack = ack;
      answers = answered_is ∙ ap (λ r. (served table packet d t r).reply) ready_is;
      reply_is = subst (λ u. IsTakenOf u (bits number) (reply_packet answered) reply) up_is (subst (λ x. IsTakenOf up (bits number) x reply) p_is taken);
      ack_is = subst (λ u. IsTakenOf u (bits (number + 1)) (ack_packet (received_reply reply)) ack) down_is
          (subst (λ x. IsTakenOf down (bits (number + 1)) x ack) (q_is ∙ ap ack_packet came_is) ack_taken);
      receives_reply = came_is;
      device = ap (λ c. if c then acked table packet (served table packet d t ready).device else (served table packet d t ready).device) acks_is
          ∙ ap (λ r. if is_ack ack then acked table packet (served table packet d t r).device else (served table packet d t r).device) ready_is;
    }

-- nothing was received
pub unanswered : (table : State → Setup → Outcome) (packet : ℕ) (d : DeviceView) (number : ℕ) (fate : Fate) (bits : ℕ → List ℕ)
    → IsAnswered table packet d None number fate bits NoReply (record { reply = NoReply; device = d })
unanswered table packet d number fate bits = record { reply = None; ack = None; answers = refl; reply_is = refl; ack_is = refl; receives_reply = refl; device = refl }

-- a transaction, from what was received on
pub exchanged_so : (table : State → Setup → Outcome) (packet : ℕ) (d : DeviceView) (sent : Sent) (fate : Fate) (bits : ℕ → List ℕ) (down : Bool) (answered : Reply) (r : Served)
    (tp : PacketView) (token dp after : Option PacketView) (received : Option Sent) (number : ℕ) → down ≡ is_lost_down fate → tp ≡ token_packet sent
    → IsTakenOf down (bits 1) (Some tp) token → dp ≡ data_packet sent.token → IsTakenOf down (bits 2) dp after → received ≡ fitting (received_sent token after)
    → number ≡ reply_number sent.token → IsAnswered table packet d received number fate bits answered r → IsExchanged table packet d sent fate bits answered r
exchanged_so table packet d sent fate bits down answered r tp token dp after received number down_is tp_is token_taken dp_is after_taken received_is number_is rest =
    record {
      token = token;
      after = after;
      token_is = subst (λ l. IsTakenOf l (bits 1) (Some (token_packet sent)) token) down_is (subst (λ p. IsTakenOf down (bits 1) (Some p) token) tp_is token_taken);
      after_is = subst (λ l. IsTakenOf l (bits 2) (data_packet sent.token) after) down_is (subst (λ p. IsTakenOf down (bits 2) p after) dp_is after_taken);
      rest = subst (λ n. IsAnswered table packet d (fitting (received_sent token after)) n fate bits answered r) number_is
          (subst (λ h. IsAnswered table packet d h number fate bits answered r) received_is rest);
    }
