-- In each state that a device takes, some requests since a bus reset have led to it.
use Rattle.std.proofs.Common.{◌≡◌, ◌==◌, ◌-◌, ◌||◌, min, not, ℕ, Bool, true, false, if◌then◌else◌, List, [], ◌∷◌, ◌++◌, length, drop, refl, ◌∙◌, ap}
use Rattle.usb_fields.specs.declared.packet.Toggle.{Toggle}
use Rattle.usb_fields.specs.declared.packet.Toggle.TheVariants.{Data0, Data1}
use Rattle.usb_fields.specs.declared.setup.Setup.{Setup}
use Rattle.usb_fields.specs.Packets.{AckReply, InToken, NoReply, OutToken, Sent, SetupToken, Token, is_same_toggle, packets}
use Rattle.usb_device.specs.declared.state.State.{State}
use Rattle.usb_device.specs.Requests.{Outcome}
use Rattle.usb_device.specs.States as states
use Rattle.usb_device.specs.Step as device
use Rattle.usb_device.specs.Step.{DeviceStage, DeviceView, Sending, Served, StatusIn, acked, acked_stage, acked_state, awaited, carried_out, gathered, is_set_address, next_packet, received, replies, served, served_here, served_in, served_out, stalls, status_out}
use Rattle.usb_bus.specs.declared.fate.Fate.{Fate}
use Rattle.usb_bus.specs.Bus.{acknowledges}
use Rattle.usb_bus.specs.Converse.{AskedView, state_after, without_data}
use Rattle.usb_recorded_runs.proofs.TogetherLemmas.{IsReached, after_answer}

module _ (table : State → Setup → Outcome) (cut : ℕ) where
  state_push : (s : State) (requests : List AskedView) (q : Setup)
      → state_after table s (requests ++ without_data q ∷ []) ≡ carried_out (state_after table s requests) (table (state_after table s requests) q)
  state_push s [] q = refl
  state_push s (a ∷ rest) q = state_push (carried_out s (table s a.setup)) rest q

  -- one request more
  more_reached : (s : State) (q : Setup) → IsReached table s → IsReached table (carried_out s (table s q))
  more_reached s q r = (r.0 ++ without_data q ∷ [], state_push states.zero r.0 q ∙ ap (λ u. carried_out u (table u q)) r.1)

  either_reached : (c : Bool) (s t : State) → IsReached table s → IsReached table t → IsReached table (if c then s else t)
  either_reached true s t p q = p
  either_reached false s t p q = q

  abbrev Leaves : Served → Type 0
  Leaves r = IsReached table r.device.state

  either_leaves : (c : Bool) (x y : Served) → Leaves x → Leaves y → Leaves (if c then x else y)
  either_leaves true x y p q = p
  either_leaves false x y p q = q

  module _ (s : State) (reached : IsReached table s) where
    packet_leaves : (stage : DeviceStage) (k : ℕ) (left : List (List ℕ)) → Leaves (next_packet s stage k left)
    packet_leaves stage k [] = reached
    packet_leaves stage k (p ∷ rest) = reached

    in_leaves : (stage : DeviceStage) → Leaves (served_in table cut s stage)
    in_leaves (Sending q b k) = packet_leaves (Sending q b k) k (drop k (packets b cut q.length))
    in_leaves (StatusIn q carried) = either_reached (carried || is_set_address q) s (carried_out s (table s q)) reached (more_reached s q reached)
    in_leaves stage = reached

    status_leaves : (stage : DeviceStage) (toggle : Toggle) (bytes : List ℕ) → Leaves (status_out s stage toggle bytes)
    status_leaves stage Data0 bytes = reached
    status_leaves stage Data1 [] = reached
    status_leaves stage Data1 (byte ∷ bytes) = reached

    received_leaves : (q : Setup) (outcome : Outcome) (got : List ℕ) (toggle : Toggle) (bytes : List ℕ) → Leaves (received cut s q outcome got toggle bytes)
    received_leaves q outcome got toggle bytes =
        either_leaves (not (is_same_toggle toggle (awaited cut (length got)))) (replies AckReply s (device.Receiving q got) false) _ reached
        (either_leaves (length bytes == min cut (q.length - length got)) (replies AckReply s (gathered q outcome (got ++ bytes)) false) (stalls s)
        reached reached)

    out_leaves : (stage : DeviceStage) (toggle : Toggle) (bytes : List ℕ) → Leaves (served_out table cut s stage toggle bytes)
    out_leaves (Sending q b k) toggle bytes = status_leaves (Sending q b k) toggle bytes
    out_leaves (device.StatusOut q) toggle bytes = status_leaves (device.StatusOut q) toggle bytes
    out_leaves device.Over toggle bytes = status_leaves device.Over toggle bytes
    out_leaves (StatusIn q carried) toggle bytes =
        either_leaves (q.length == 0) (stalls s) (replies AckReply s (StatusIn q carried) false) reached reached
    out_leaves (device.Receiving q got) toggle bytes = received_leaves q (table s q) got toggle bytes
    out_leaves (device.Written q got) toggle bytes =
        either_leaves (is_same_toggle toggle (awaited cut (length got))) (stalls s) (replies AckReply s (device.Written q got) false) reached reached
    out_leaves stage toggle bytes = reached

    acked_reached : (stage : DeviceStage) → IsReached table (acked_state table cut s stage)
    acked_reached (StatusIn q carried) = either_reached (is_set_address q) (carried_out s (table s q)) s (more_reached s q reached) reached
    acked_reached stage = reached

  here_leaves : (d : DeviceView) (token : Token) (ready : Bool) → IsReached table d.state → Leaves (served_here table cut d token ready)
  here_leaves d (SetupToken bytes) ready reached = reached
  here_leaves d InToken false reached = reached
  here_leaves d InToken true reached = in_leaves d.state reached d.stage
  here_leaves d (OutToken toggle bytes) false reached = reached
  here_leaves d (OutToken toggle bytes) true reached = out_leaves d.state reached d.stage toggle bytes

  ack_reached : (d : DeviceView) → IsReached table d.state → IsReached table (acked table cut d).state
  ack_reached d reached = of d.pending
    where
      done : DeviceView
      done = record { state = acked_state table cut d.state d.stage; stage = acked_stage table cut d.stage; pending = false }

      of : (waits : Bool) → IsReached table (if waits then done else d).state
      of true = acked_reached d.state reached d.stage
      of false = reached

  -- after a transaction
  pub answer_reached : (d : DeviceView) (sent : Sent) (ready : Bool) (fate : Fate) → IsReached table d.state
      → IsReached table (after_answer table cut fate (served table cut d sent ready)).state
  answer_reached d sent ready fate reached = of (acknowledges fate (served table cut d sent ready).reply)
    where
      r : Served
      r = served table cut d sent ready

      left : IsReached table r.device.state
      left = either_leaves (sent.address == d.state.address) (served_here table cut d sent.token ready) (replies NoReply d.state d.stage false)
          (here_leaves d sent.token ready reached) reached

      of : (waits : Bool) → IsReached table (if waits then acked table cut r.device else r.device).state
      of true = ack_reached r.device left
      of false = left

-- A bus reset is the beginning.
pub first_reached : (table : State → Setup → Outcome) → IsReached table states.zero
first_reached table = ([], refl)
