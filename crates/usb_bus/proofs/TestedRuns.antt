-- A run with a device under test, each of whose answers is the one that comes next, as a run with a device of the descriptors.
use Rattle.std.proofs.Common.{◌≡◌, ℕ, zero, suc, ◌≤◌, ◌==◌, Bool, true, false, if◌then◌else◌, List, [], ◌∷◌, Some, inl, inr, refl, ap, sym, ◌∙◌, subst, arith}
use Rattle.std.specs.Prelude.{map, slice_get}
use Rattle.usb_fields.specs.declared.packet.Speed.{Speed}
use Rattle.usb_fields.specs.declared.setup.Setup.{Setup}
use Rattle.usb_fields.specs.Packets.{Sent, Token, SetupToken, InToken, OutToken, Reply, NakReply, NoReply}
use Rattle.usb_host.specs.Limits.{LimitView}
use Rattle.usb_host.specs.Transfer.{TransferView}
use Rattle.usb_host.specs.Steps.{Takes, WantsSent, reset, transfer_in, wanted}
use Rattle.usb_device.specs.declared.state.State.{State}
use Rattle.usb_device.specs.Requests.{Outcome}
use Rattle.usb_device.specs.Step.{DeviceStage, DeviceView, Served, acked, replies, served, served_here}
use Rattle.usb_device.specs.Conformance.{IsAllowed, is_ready}
use Rattle.usb_device.specs.declared.open_transfer.OpenTransfer.{OpenTransfer}
use Rattle.usb_bus.specs.declared.fate.Fate.{Fate}
use Rattle.usb_bus.specs.declared.fate.Fate.TheVariants.{Pass, Busy, LostAck, LostDown, LostUp}
use Rattle.usb_bus.specs.Bus.{acknowledged, acknowledges, brought, carried, lost, losses, readiness}
use Rattle.usb_bus.specs.Enumerate.{IsTransactionAt, Pair, new_pair, RunsAt}
use Rattle.usb_bus.specs.Run.{fate_at}
use Rattle.usb_bus.specs.WireLaws.{IsAlike}
use Rattle.usb_bus.specs.UnderTest.{Compares, IsTested, RunsTested, Tested, bus_fate, fate_by, known_fate, known_fates}

-- no more is lost
fewer_lost : (fate : Fate) (came : Reply) → lost (fate_by fate came) ≤ lost fate
fewer_lost LostDown came = omega arith
fewer_lost LostUp NakReply = omega arith
fewer_lost LostUp came = omega arith
fewer_lost LostAck NakReply = omega arith
fewer_lost LostAck came = omega arith
fewer_lost Pass NakReply = omega arith
fewer_lost Pass came = omega arith
fewer_lost Busy NakReply = omega arith
fewer_lost Busy came = omega arith

-- the fate of transaction m
known_at : (tested : List Tested) (m : ℕ) (t : Tested) → slice_get tested m ≡ Some t → fate_at (known_fates tested) m ≡ known_fate t
known_at [] m t e = absurd (cc)
known_at (u ∷ tested) zero t e = ap known_fate (let same : u ≡ t = cc in same)
known_at (u ∷ tested) (suc m) t e = known_at tested m t e

pub same_alike : (d e : DeviceView) → d ≡ e → IsAlike d e
same_alike d e is = record { state = ap (λ x. x.state) is; stage = ap (λ x. x.stage) is }

module _ (table : State → Setup → Outcome) (packet : ℕ) where
  abbrev view : State → DeviceStage → Bool → DeviceView
  view s stage pending = record { state = s; stage = stage; pending = pending }

  -- the ACK that is waited for does not count in a transaction
  here_alike : (s : State) (stage : DeviceStage) (p q ready : Bool) (token : Token) → served_here table packet (view s stage p) token ready ≡ served_here table packet (view s stage q) token ready
  here_alike s stage p q ready (SetupToken b) = refl
  here_alike s stage p q true InToken = refl
  here_alike s stage p q false InToken = refl
  here_alike s stage p q true (OutToken t b) = refl
  here_alike s stage p q false (OutToken t b) = refl

  pub served_alike : (d e : DeviceView) (sent : Sent) (ready : Bool) → IsAlike d e → served table packet d sent ready ≡ served table packet e sent ready
  served_alike d e sent ready alike =
      ap (λ x. if sent.address == d.state.address then x else replies NoReply d.state d.stage false) (here_alike d.state d.stage d.pending e.pending ready sent.token)
      ∙ ap (λ s. served table packet (view s d.stage e.pending) sent ready) alike.state
      ∙ ap (λ g. served table packet (view e.state g e.pending) sent ready) alike.stage

  -- a device that answers NAK stays as it was
  nak_alike : (d : DeviceView) (sent : Sent) → (served table packet d sent false).reply ≡ NakReply → IsAlike (served table packet d sent false).device d
  nak_alike d sent e = by_address (sent.address == d.state.address) e
    where
      here : (token : Token) → (served_here table packet d token false).reply ≡ NakReply → IsAlike (served_here table packet d token false).device d
      here (SetupToken b) e = absurd (cc)
      here InToken e = record { state = refl; stage = refl }
      here (OutToken t b) e = record { state = refl; stage = refl }

      by_address : (at : Bool) → (if at then served_here table packet d sent.token false else replies NoReply d.state d.stage false).reply ≡ NakReply →
          IsAlike (if at then served_here table packet d sent.token false else replies NoReply d.state d.stage false).device d
      by_address true e = here sent.token e
      by_address false e = absurd (cc)

  -- what both ends have of an answer
  abbrev acked_by : Fate → Reply → Served → DeviceView
  acked_by fate came r = if acknowledges fate came then acked table packet r.device else r.device

  known_answer : (fate : Fate) (r : Served) (came : Reply) → came ≡ r.reply →
      (brought fate (acknowledged table packet fate r).reply ≡ brought fate came) × ((acknowledged table packet fate r).device ≡ acked_by fate came r)
  known_answer fate r came e = subst (λ z. (brought fate r.reply ≡ brought fate z) × ((acknowledged table packet fate r).device ≡ acked_by fate z r)) (sym e) (refl, refl)

  abbrev Carries : Fate → Reply → DeviceView → Sent → Type 0
  Carries fate came d sent =
      let c = carried table packet d sent (fate_by fate came) in
      (c.reply ≡ brought fate came) × IsAlike c.device (acked_by fate came (served table packet d sent (is_ready came)))

  alike_at : (fate : Fate) (r : Served) (came : Reply) (reply : Reply) → brought fate came ≡ reply → came ≡ r.reply →
      (let c = acknowledged table packet fate r in (brought fate c.reply ≡ reply) × IsAlike c.device (acked_by fate came r))
  alike_at fate r came reply same e = (let k = known_answer fate r came e in (k.0 ∙ same, same_alike _ _ k.1))

  -- a device of the descriptors answers so under its fate
  carries_known : (fate : Fate) (came : Reply) (d : DeviceView) (sent : Sent) (ready : Bool) → readiness fate ≡ Some ready →
      came ≡ (served table packet d sent (is_ready came)).reply → Carries fate came d sent
  carries_known LostDown came d sent ready receives_reply e = absurd (cc)
  carries_known LostUp NakReply d sent ready receives_reply e = (refl, (let a = nak_alike d sent (sym e) in record { state = sym a.state; stage = sym a.stage }))
  carries_known LostUp came d sent ready receives_reply e = alike_at LostUp (served table packet d sent true) came NoReply refl e
  carries_known LostAck NakReply d sent ready receives_reply e = alike_at Busy (served table packet d sent false) NakReply NakReply refl e
  carries_known LostAck came d sent ready receives_reply e = alike_at LostAck (served table packet d sent true) came came refl e
  carries_known Pass NakReply d sent ready receives_reply e = alike_at Busy (served table packet d sent false) NakReply NakReply refl e
  carries_known Pass came d sent ready receives_reply e = alike_at Pass (served table packet d sent true) came came refl e
  carries_known Busy NakReply d sent ready receives_reply e = alike_at Busy (served table packet d sent false) NakReply NakReply refl e
  carries_known Busy came d sent ready receives_reply e = alike_at Pass (served table packet d sent true) came came refl e

  -- what follows of a pair, and of one that is alike
  record Follows (fate : Fate) (x last : Pair) : Type 0 where
    next : Pair
    step : IsTransactionAt table packet fate x next
    host : next.host ≡ last.host
    device : IsAlike next.device last.device

  -- where the outcome of a transfer is open by the state and the stage
  module _ (free : DeviceView → Setup → Bool) (free_alike : (d e : DeviceView) (q : Setup) → IsAlike d e → free d q ≡ free e q) where
    abbrev pub AgreesAt : DeviceView → TransferView → Sent → Type 0
    AgreesAt d transfer sent = (open_transfer : OpenTransfer) (came has : Reply) → IsAllowed (free d transfer.request) transfer.request packet open_transfer sent.token came has → came ≡ has

    module _ (x y last : Pair) (transfer : TransferView) (sent : Sent) (due : wanted y.host.phase ≡ WantsSent sent)
        (host : x.host ≡ y.host) (alike : IsAlike x.device y.device) (agrees : AgreesAt x.device transfer sent) where
      follows_as : (fate : Fate) (reply : Reply) → (carried table packet x.device sent fate).reply ≡ reply → Takes y.host reply last.host →
          IsAlike (carried table packet x.device sent fate).device last.device → Follows fate x last
      follows_as fate reply same takes device =
          record {
            next = record { host = last.host; device = (carried table packet x.device sent fate).device };
            step = record {
              sent = sent;
              due = ap (λ h. wanted h.phase) host ∙ due;
              host = subst (λ h. Takes h (carried table packet x.device sent fate).reply last.host) (sym host)
                  (subst (λ r. Takes y.host r last.host) (sym same) takes);
              device = refl;
            };
            host = refl;
            device = device;
          }

      receives_reply : (fate : Fate) (came : Reply) (ready : Bool) → readiness fate ≡ Some ready → Compares table packet free (record { fate = fate; came = came }) transfer sent y last (Some ready) →
          Follows (fate_by fate came) x last
      receives_reply fate came ready can ((open_transfer, allowed), takes, device) =
          let r = served table packet x.device sent (is_ready came) in
          let same : served table packet y.device sent (is_ready came) ≡ r = sym (served_alike x.device y.device sent (is_ready came) alike) in
          let came_is : came ≡ r.reply = agrees open_transfer came r.reply
          (subst (λ b. IsAllowed b transfer.request packet open_transfer sent.token came r.reply) (sym (free_alike x.device y.device transfer.request alike))
          (subst (λ z. IsAllowed (free y.device transfer.request) transfer.request packet open_transfer sent.token came z.reply) same allowed)) in
          let c = carries_known fate came x.device sent ready can came_is in
          let ends : acked_by fate came r ≡ last.device = ap (λ z. acked_by fate came z) (sym same) ∙ sym device in
          follows_as (fate_by fate came) (brought fate came) c.0 takes (subst (λ d. IsAlike (carried table packet x.device sent (fate_by fate came)).device d) ends c.1)

      one_step : (fate : Fate) (came : Reply) → Compares table packet free (record { fate = fate; came = came }) transfer sent y last (readiness fate) → Follows (fate_by fate came) x last
      one_step LostDown came (takes, device) = follows_as LostDown NoReply refl takes (subst (λ d. IsAlike x.device d) (sym device) alike)
      one_step LostUp came compares = receives_reply LostUp came true refl compares
      one_step LostAck came compares = receives_reply LostAck came true refl compares
      one_step Pass came compares = receives_reply Pass came true refl compares
      one_step Busy came compares = receives_reply Busy came false refl compares

    -- ---- runs

    module _ (tested : List Tested) (limits : LimitView) (speed : Speed) where
      -- in a run of the device of the descriptors, what is allowed is what it answers
      abbrev pub Agrees : Type 0
      Agrees =
          (earlier : List Pair) (n : ℕ) (x : Pair) → RunsAt table packet (known_fates tested) (new_pair limits speed) earlier n x →
          (t : TransferView) → transfer_in x.host.phase ≡ Some t → (sent : Sent) → wanted x.host.phase ≡ WantsSent sent → AgreesAt x.device t sent

      pub record IsKnown (n : ℕ) (last : Pair) : Type 0 where
        pub earlier : List Pair
        pub known : Pair
        pub runs : RunsAt table packet (known_fates tested) (new_pair limits speed) earlier n known
        pub host : known.host ≡ last.host
        pub alike : IsAlike known.device last.device

      more_known : (m : ℕ) (x last : Pair) (t : Tested) → Agrees → slice_get tested m ≡ Some t → IsTested table packet free t x last → IsKnown m x → IsKnown (suc m) last
      more_known m x last t agrees at step k =
          let y = k.known in
          let next = one_step y x last step.transfer step.sent step.due k.host k.alike
          (agrees k.earlier m y k.runs step.transfer (ap (λ h. transfer_in h.phase) k.host ∙ step.is_current) step.sent (ap (λ h. wanted h.phase) k.host ∙ step.due))
          t.fate t.came step.compares in
          record {
            earlier = y ∷ k.earlier;
            known = next.next;
            runs = inr (m, refl, subst (λ fate. IsTransactionAt table packet fate y next.next) (sym (known_at tested m t at)) next.step, k.runs);
            host = next.host;
            alike = next.device;
          }

      pub runs_known : (earlier : List Pair) (n : ℕ) (last : Pair) → Agrees → RunsTested table packet free tested (new_pair limits speed) earlier n last → IsKnown n last
      runs_known [] n last agrees (e, none) =
          record { earlier = []; known = last; runs = (e, none); host = refl; alike = record { state = refl; stage = refl } }
      runs_known (x ∷ earlier) n last agrees (inl (r, more)) =
          let k = runs_known earlier n x agrees more in
          record {
            earlier = k.known ∷ k.earlier;
            known = last;
            runs = inl (record { due = ap (λ h. wanted h.phase) k.host ∙ r.due; host = r.host ∙ ap reset (sym k.host); device = r.device }, k.runs);
            host = refl;
            alike = record { state = refl; stage = refl };
          }
      runs_known (x ∷ earlier) n last agrees (inr (m, count, (t, at, step), more)) =
          subst (λ z. IsKnown z last) (sym count) (more_known m x last t agrees at step (runs_known earlier m x agrees more))

-- no more is lost in the run of the device of the descriptors than the bus loses
pub fewer_losses : (tested : List Tested) → losses (known_fates tested) ≤ losses (map bus_fate tested)
fewer_losses [] = omega arith
fewer_losses (t ∷ tested) = (let one = fewer_lost t.fate t.came in let more = fewer_losses tested in omega arith)
