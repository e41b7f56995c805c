-- A device and its responder go as one device.
use Rattle.std.proofs.Common.{◌≡◌, ℕ, ◌==◌, ◌||◌, ◌&&◌, ◌-◌, ◌++◌, not, Bool, true, false, if◌then◌else◌, List, [], length, take, refl, ap, sym}
use Rattle.std.specs.Prelude.{None, min, nat_le}
use Rattle.usb_fields.specs.declared.packet.Toggle.{Toggle}
use Rattle.usb_fields.specs.declared.packet.Toggle.TheVariants.{Data1}
use Rattle.usb_fields.specs.declared.setup.Setup.{Setup}
use Rattle.usb_fields.specs.Setup.{setup_of}
use Rattle.usb_fields.specs.Packets.{Token, SetupToken, InToken, OutToken, AckReply, DataReply, NakReply, NoReply, is_same_toggle}
use Rattle.usb_device.specs.declared.state.State.{State}
use Rattle.usb_device.specs.Requests.{Outcome, Bytes, Done, Refused, when}
use Rattle.usb_device.specs.Requests as outcomes
use Rattle.usb_device.specs.Step.{DeviceStage, Idle, Halted, Sending, StatusOut, Over, StatusIn, Receiving, Written, DeviceView, Served, awaited, completed, gathered, replies, begun, carried_out, is_set_address, served_in, served_out, served_here, stalls, acked_stage, acked_state}
use Rattle.usb_device.specs.Beside.{Response, Gives, Does, Takes, Declines, asks_for_bytes, beside, brings_bytes, is_open, judged_from, kept_open, kept_to, otherwise, overflows, refused_in}
use Rattle.usb_bus.specs.Beside.{asked_after, asked_for, asked_to_judge}
use Rattle.usb_bus.specs.Laws.{RespondersAreOneDevice}

-- a responder's answer leaves the device's state
when_state : (s : State) (c : Bool) (a : Outcome) → carried_out s a ≡ s → carried_out s (when c a) ≡ s
when_state s true a e = e
when_state s false a e = refl

open_state : (room : ℕ) (s : State) (q : Setup) (r : Response) → carried_out s (kept_open room s q r) ≡ s
open_state room s q (Gives b) = when_state s (asks_for_bytes q && not (overflows room q b)) (Bytes (take q.length b)) refl
open_state room s q Does = when_state s (q.length == 0) (Done s) refl
open_state room s q (Takes judge) = when_state s (brings_bytes q && nat_le q.length room) (outcomes.Takes judge) refl
open_state room s q Declines = refl

kept_state : (room : ℕ) (s : State) (q : Setup) (r : Response) → carried_out s (kept_to room s q r) ≡ s
kept_state room s q r = when_state s (is_open q) (kept_open room s q r) (open_state room s q r)

module _ (room : ℕ) (table : State → Setup → Outcome) (respond : State → Setup → Response) (packet : ℕ) where
  abbrev both : State → Setup → Outcome
  both s q = beside room table respond s q

  abbrev view : State → DeviceStage → Bool → DeviceView
  view s stage pending = record { state = s; stage = stage; pending = pending }

  otherwise_state : (s : State) (q : Setup) (o : Outcome) → carried_out s (otherwise o (kept_to room s q (respond s q))) ≡ carried_out s o
  otherwise_state s q (Bytes b) = refl
  otherwise_state s q (Done t) = refl
  otherwise_state s q Refused = kept_state room s q (respond s q)
  otherwise_state s q (outcomes.Takes judge) = refl

  both_state : (s : State) (q : Setup) → carried_out s (table s q) ≡ carried_out s (both s q)
  both_state s q = sym (otherwise_state s q (table s q))

  -- at a SETUP
  begun_same : (s : State) (q : Setup) (o : Outcome) →
      asked_for room respond (view s (begun q o) false) (refused_in (begun q o)) ≡ view s (begun q (otherwise o (kept_to room s q (respond s q)))) false
  begun_same s q (Bytes b) = refl
  begun_same s q (Done t) = refl
  begun_same s q Refused = refl
  begun_same s q (outcomes.Takes judge) = refl

  -- at an IN
  status_same : (s : State) (q : Setup) (c : Bool) → (if c then s else carried_out s (table s q)) ≡ (if c then s else carried_out s (both s q))
  status_same s q true = refl
  status_same s q false = both_state s q

  in_same : (s : State) (stage : DeviceStage) → served_in table packet s stage ≡ served_in both packet s stage
  in_same s Idle = refl
  in_same s (Halted refused) = refl
  in_same s (Sending q b k) = refl
  in_same s (StatusOut q) = refl
  in_same s Over = refl
  in_same s (StatusIn q carried) = ap (λ t. replies (DataReply Data1 []) t (StatusIn q true) true) (status_same s q (carried || is_set_address q))
  in_same s (Receiving q got) = refl
  in_same s (Written q got) = refl

  -- at an OUT: of the last packet of a write, the data are judged
  abbrev about : DeviceStage → Served → Served
  about before x = record { reply = x.reply; device = asked_to_judge room respond before x.device }

  judged_same : (s : State) (q : Setup) (o : Outcome) (got : List ℕ) →
      judged_from room s (respond s q) (completed q o got) ≡ completed q (otherwise o (kept_to room s q (respond s q))) got
  judged_same s q (Bytes b) got = refl
  judged_same s q (Done t) got = refl
  judged_same s q Refused got = refl
  judged_same s q (outcomes.Takes judge) got = settled (judge got)
    where
      settled : (good : Bool) → judged_from room s (respond s q) (if good then StatusIn q false else Halted None) ≡ (if good then StatusIn q false else Halted None)
      settled true = refl
      settled false = refl

  gathered_same : (s : State) (q : Setup) (got : List ℕ) (all : Bool) →
      judged_from room s (respond s q) (if all then completed q (table s q) got else Receiving q got) ≡ (if all then completed q (both s q) got else Receiving q got)
  gathered_same s q got true = judged_same s q (table s q) got
  gathered_same s q got false = refl

  received_same : (s : State) (q : Setup) (got bytes : List ℕ) (other right : Bool) →
      about (Receiving q got) (if other then replies AckReply s (Receiving q got) false
      else if right then replies AckReply s (gathered q (table s q) (got ++ bytes)) false else stalls s)
      ≡ (if other then replies AckReply s (Receiving q got) false
      else if right then replies AckReply s (gathered q (both s q) (got ++ bytes)) false else stalls s)
  received_same s q got bytes true right = refl
  received_same s q got bytes false true = ap (λ x. replies AckReply s x false) (gathered_same s q (got ++ bytes) (length (got ++ bytes) == q.length))
  received_same s q got bytes false false = refl

  out_same : (s : State) (stage : DeviceStage) (toggle : Toggle) (bytes : List ℕ) →
      about stage (served_out table packet s stage toggle bytes) ≡ served_out both packet s stage toggle bytes
  out_same s Idle toggle bytes = refl
  out_same s (Halted refused) toggle bytes = refl
  out_same s (Sending q b k) toggle bytes = refl
  out_same s (StatusOut q) toggle bytes = refl
  out_same s Over toggle bytes = refl
  out_same s (StatusIn q carried) toggle bytes = refl
  out_same s (Receiving q got) toggle bytes =
      received_same s q got bytes (not (is_same_toggle toggle (awaited packet (length got)))) (length bytes == min packet (q.length - length got))
  out_same s (Written q got) toggle bytes = refl

  -- at any transaction
  abbrev after : DeviceStage → Token → Served → Served
  after before token x = record { reply = x.reply; device = asked_after room respond before token x.reply x.device }

  waits_same : (s : State) (stage : DeviceStage) → about stage (replies NakReply s stage false) ≡ replies NakReply s stage false
  waits_same s Idle = refl
  waits_same s (Halted refused) = refl
  waits_same s (Sending q b k) = refl
  waits_same s (StatusOut q) = refl
  waits_same s Over = refl
  waits_same s (StatusIn q carried) = refl
  waits_same s (Receiving q got) = refl
  waits_same s (Written q got) = refl

  here_same : (d : DeviceView) (token : Token) (ready : Bool) → after d.stage token (served_here table packet d token ready) ≡ served_here both packet d token ready
  here_same d (SetupToken b) ready = ap (λ x. record { reply = AckReply; device = x }) (begun_same d.state (setup_of b) (table d.state (setup_of b)))
  here_same d InToken false = refl
  here_same d InToken true = in_same d.state d.stage
  here_same d (OutToken toggle bytes) false = waits_same d.state d.stage
  here_same d (OutToken toggle bytes) true = out_same d.state d.stage toggle bytes

  nothing_same : (s : State) (stage : DeviceStage) → about stage (replies NoReply s stage false) ≡ replies NoReply s stage false
  nothing_same s Idle = refl
  nothing_same s (Halted refused) = refl
  nothing_same s (Sending q b k) = refl
  nothing_same s (StatusOut q) = refl
  nothing_same s Over = refl
  nothing_same s (StatusIn q carried) = refl
  nothing_same s (Receiving q got) = refl
  nothing_same s (Written q got) = refl

  silent_same : (d : DeviceView) (token : Token) → after d.stage token (replies NoReply d.state d.stage false) ≡ replies NoReply d.state d.stage false
  silent_same d (SetupToken b) = refl
  silent_same d InToken = refl
  silent_same d (OutToken toggle bytes) = nothing_same d.state d.stage

  serves : (d : DeviceView) (token : Token) (ready c : Bool) →
      after d.stage token (if c then served_here table packet d token ready else replies NoReply d.state d.stage false)
      ≡ (if c then served_here both packet d token ready else replies NoReply d.state d.stage false)
  serves d token ready true = here_same d token ready
  serves d token ready false = silent_same d token

  -- at an ACK
  moved_same : (s : State) (q : Setup) (c : Bool) → (if c then carried_out s (table s q) else s) ≡ (if c then carried_out s (both s q) else s)
  moved_same s q true = both_state s q
  moved_same s q false = refl

  acked_same : (s : State) (stage : DeviceStage) → view (acked_state table packet s stage) (acked_stage table packet stage) false ≡ view (acked_state both packet s stage) (acked_stage both packet stage) false
  acked_same s Idle = refl
  acked_same s (Halted refused) = refl
  acked_same s (Sending q b k) = refl
  acked_same s (StatusOut q) = refl
  acked_same s Over = refl
  acked_same s (StatusIn q carried) = ap (λ t. view t Idle false) (moved_same s q (is_set_address q))
  acked_same s (Receiving q got) = refl
  acked_same s (Written q got) = refl

  acks : (d : DeviceView) (c : Bool) →
      (if c then view (acked_state table packet d.state d.stage) (acked_stage table packet d.stage) false else d)
      ≡ (if c then view (acked_state both packet d.state d.stage) (acked_stage both packet d.stage) false else d)
  acks d true = acked_same d.state d.stage
  acks d false = refl

pub one_device : RespondersAreOneDevice
one_device room table respond packet =
    record {
      serves = λ d sent ready. serves room table respond packet d sent.token ready (sent.address == d.state.address);
      acks = λ d. acks room table respond packet d d.pending;
    }
