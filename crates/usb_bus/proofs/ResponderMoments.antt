-- A transfer reads one answer of a responder that changes, and its data are judged by one.
use Rattle.std.proofs.Common.{◌≡◌, ℕ, suc, ◌+◌, ◌-◌, ◌<◌, ◌≤◌, ◌==◌, not, Bool, true, false, if◌then◌else◌, ◌⊎◌, inl, inr, List, [], ◌∷◌, ◌++◌, length, Option, Some, refl, ap, sym, ◌∙◌, subst, arith, add-zero, add_assoc, zero-add}
use Rattle.std.specs.Prelude.{min, nat_lt}
use Rattle.std.proofs.lemmas.Bool.Decides.{nat_tests}
use Rattle.usb_fields.specs.declared.packet.Toggle.{Toggle}
use Rattle.usb_fields.specs.declared.packet.Toggle.TheVariants.{Data1}
use Rattle.usb_fields.specs.declared.setup.Setup.{Setup as SetupPacket}
use Rattle.usb_fields.specs.Packets.{InToken, OutToken, Sent, Token, AckReply, NoReply, is_same_toggle}
use Rattle.usb_host.specs.Transfer.{due_of, packet_due, token_due, addressed, failed, Goes}
use Rattle.usb_host.specs.Write.{packet_length}
use Rattle.usb_host.specs.Write as write
use Rattle.usb_host.specs.declared.why.Why.TheVariants.{NoAnswer, Unexpected}
use Rattle.usb_host.specs.declared.transfer.TransferStage.{TransferStage}
use Rattle.usb_host.specs.declared.transfer.TransferStage.TheVariants.{Setup, DataIn, DataOut, StatusOut, StatusIn, Completed, Failed}
use Rattle.usb_device.specs.declared.state.State.{State}
use Rattle.usb_device.specs.Requests.{Outcome, Bytes, Done, Refused, Takes}
use Rattle.usb_device.specs.Step.{DeviceStage, DeviceView, Served, awaited, completed, gathered, replies, served, served_here, served_out, stalls, acked}
use Rattle.usb_device.specs.Step as device
use Rattle.usb_device.specs.Beside.{Response, beside}
use Rattle.usb_bus.specs.declared.fate.Fate.{Fate}
use Rattle.usb_bus.specs.declared.fate.Fate.TheVariants.{Pass, Busy, LostDown, LostUp, LostAck}
use Rattle.usb_bus.specs.Bus.{lost, busy, ack_lost, losses, busies, acks_lost, HostEnd, Ends, has_data, is_data, receives_reply, host_after, acknowledged, carried, exchanged, step_of, taken_by}
use Rattle.usb_bus.specs.Beside.{IsTable, Moment, asked_to_judge, fates_of, IsAmong, run_moments}
use Rattle.usb_bus.specs.Attempt.{begins}
use Rattle.usb_bus.specs.Together.{Stages, AreInStages, IsRefused, IsWriting}
use Rattle.usb_bus.proofs.Cutting.{packets_cut}
use Rattle.usb_bus.proofs.TakenLemmas.{packet_data}
use Rattle.usb_bus.proofs.Keeps.{stands, stages_end}
use Rattle.usb_bus.specs.Laws.{TransfersReadOneAnswer}
use Rattle.usb_bus.proofs.ResponderTables.{beside_kept}
use Rattle.usb_bus.proofs.ResponderSteps.{one_device}

abbrev Responds : Type 0
Responds = State → SetupPacket → Response

module _ (room : ℕ) (table : State → SetupPacket → Outcome) (packet : ℕ) where
  abbrev both : Responds → State → SetupPacket → Outcome
  both r s q = beside room table r s q

  acked_alike : (r r' : Responds) (d : DeviceView) → acked (both r') packet d ≡ acked (both r) packet d
  acked_alike r r' d = sym ((one_device room table r' packet).acks d) ∙ (one_device room table r packet).acks d

  acks_alike : (r r' : Responds) (x : Served) → acknowledged (both r') packet Pass x ≡ acknowledged (both r) packet Pass x
  acks_alike r r' x = ap (λ y. record { reply = x.reply; device = if is_data x.reply then y else x.device }) (acked_alike r r' x.device)

  carries_alike : (r r' : Responds) (d : DeviceView) (sent : Sent) → ((ready : Bool) → served (both r') packet d sent ready ≡ served (both r) packet d sent ready) →
      (fate : Fate) → carried (both r') packet d sent fate ≡ carried (both r) packet d sent fate
  carries_alike r r' d sent same Pass = ap (acknowledged (both r') packet Pass) (same true) ∙ acks_alike r r' (served (both r) packet d sent true)
  carries_alike r r' d sent same Busy = ap (acknowledged (both r') packet Pass) (same false) ∙ acks_alike r r' (served (both r) packet d sent false)
  carries_alike r r' d sent same LostDown = refl
  carries_alike r r' d sent same LostUp = ap (λ x. record { reply = NoReply; device = x.device }) (same true)
  carries_alike r r' d sent same LostAck = same true

  in_alike : (r r' : Responds) (address : ℕ) (d : DeviceView) (ready : Bool) →
      served (both r') packet d (record { address = address; token = InToken }) ready ≡ served (both r) packet d (record { address = address; token = InToken }) ready
  in_alike r r' address d ready =
      sym ((one_device room table r' packet).serves d (record { address = address; token = InToken }) ready)
      ∙ (one_device room table r packet).serves d (record { address = address; token = InToken }) ready

  -- only the last packet of a write asks the responder
  abbrev IsElsewhere : DeviceStage → Type 0
  IsElsewhere (device.Receiving q got) = ⊥
  IsElsewhere stage = Unit {0}

  judges_alike : (r r' : Responds) (before : DeviceStage) (d : DeviceView) → IsElsewhere before → asked_to_judge room r' before d ≡ asked_to_judge room r before d
  judges_alike r r' (device.Receiving q got) d else_ = absurd else_
  judges_alike r r' device.Idle d else_ = refl
  judges_alike r r' (device.Halted refused) d else_ = refl
  judges_alike r r' (device.Sending q b k) d else_ = refl
  judges_alike r r' (device.StatusOut q) d else_ = refl
  judges_alike r r' device.Over d else_ = refl
  judges_alike r r' (device.StatusIn q carried) d else_ = refl
  judges_alike r r' (device.Written q got) d else_ = refl

  out_alike : (r r' : Responds) (toggle : Toggle) (bytes : List ℕ) (address : ℕ) (d : DeviceView) → IsElsewhere d.stage → (ready : Bool) →
      served (both r') packet d (record { address = address; token = OutToken toggle bytes }) ready ≡ served (both r) packet d (record { address = address; token = OutToken toggle bytes }) ready
  out_alike r r' toggle bytes address d else_ ready =
      let sent : Sent = record { address = address; token = OutToken toggle bytes } in
      let x = served table packet d sent ready in
      sym ((one_device room table r' packet).serves d sent ready)
      ∙ ap (λ y. record { reply = x.reply; device = y }) (judges_alike r r' d.stage x.device else_)
      ∙ (one_device room table r packet).serves d sent ready

  exchanged_alike : (r r' : Responds) (sends : Bool) (h : HostEnd) (d : DeviceView) (sent : Sent) (fate : Fate) →
      ((ready : Bool) → served (both r') packet d sent ready ≡ served (both r) packet d sent ready) →
      exchanged (both r') packet sends h d (Some sent) fate ≡ exchanged (both r) packet sends h d (Some sent) fate
  exchanged_alike r r' sends h d sent fate same =
      ap (λ x. record { host = receives_reply sends h x.reply; device = x.device }) (carries_alike r r' d sent same fate)

  -- The last packet of a write, where the responder refuses the request by now, is acknowledged and not judged. At any other OUT in
  -- the data stage of a write nothing depends on the responder.
  module _ (r r' : Responds) (s : State) (q : SetupPacket) (came : List ℕ) (refuses : both r' s q ≡ Refused) (toggle : Toggle) (bytes : List ℕ) where
    abbrev IsDue : Type 0
    IsDue = (length bytes == min packet (q.length - length came)) ≡ true

    abbrev IsEither : Served → Served → Type 0
    IsEither x y = (x ≡ y) ⊎ ((x ≡ replies AckReply s (device.Written q (came ++ bytes)) false) × IsDue)

    by_all : IsDue → (all : Bool) →
        IsEither (replies AckReply s (if all then completed q (both r' s q) (came ++ bytes) else device.Receiving q (came ++ bytes)) false)
        (replies AckReply s (if all then completed q (both r s q) (came ++ bytes) else device.Receiving q (came ++ bytes)) false)
    by_all due true = inr (ap (λ o. replies AckReply s (completed q o (came ++ bytes)) false) refuses, due)
    by_all due false = inl refl

    by_right : (other right : Bool) → (length bytes == min packet (q.length - length came)) ≡ right →
        IsEither (if other then replies AckReply s (device.Receiving q came) false
        else if right then replies AckReply s (gathered q (both r' s q) (came ++ bytes)) false else stalls s)
        (if other then replies AckReply s (device.Receiving q came) false
        else if right then replies AckReply s (gathered q (both r s q) (came ++ bytes)) false else stalls s)
    by_right true right is = inl refl
    by_right false true is = by_all is (length (came ++ bytes) == q.length)
    by_right false false is = inl refl

    by_address : (address : ℕ) (pending here : Bool) (token : Token) → token ≡ OutToken toggle bytes →
        (let d : DeviceView = record { state = s; stage = device.Receiving q came; pending = pending } in
        IsEither (if here then served_here (both r') packet d token true else replies NoReply s d.stage false)
        (if here then served_here (both r) packet d token true else replies NoReply s d.stage false))
    by_address address pending true token e =
        subst (λ t. (let d : DeviceView = record { state = s; stage = device.Receiving q came; pending = pending } in
        IsEither (served_here (both r') packet d t true) (served_here (both r) packet d t true))) (sym e)
        (by_right (not (is_same_toggle toggle (awaited packet (length came)))) (length bytes == min packet (q.length - length came)) refl)
    by_address address pending false token e = inl refl

    last_out : (address : ℕ) (pending : Bool) →
        (let d : DeviceView = record { state = s; stage = device.Receiving q came; pending = pending } in
        let sent : Sent = record { address = address; token = OutToken toggle bytes } in
        IsEither (served (both r') packet d sent true) (served (both r) packet d sent true))
    last_out address pending = by_address address pending (address == s.address) (OutToken toggle bytes) refl

  module _ (pos : 0 < packet) (is : IsTable table) (s : State) (q : SetupPacket) (naks : ℕ) (data_out : List ℕ) where
    abbrev Both : Responds → ℕ → ℕ → ℕ → Ends → Type 0
    Both r l b a e = AreInStages (both r) packet s q packet naks data_out l b a e.host e.device

    abbrev StagesOf : Responds → ℕ → ℕ → ℕ → TransferStage → DeviceStage → Ends → Type 0
    StagesOf r l b a st at e = Stages (both r) packet s q packet naks data_out l b a st at e.host.transfer.awaited e.host.got e.host.transfer.kept e.host.transfer.strikes e.device.state

    abbrev next : Responds → Fate → Ends → Ends
    next r fate e = step_of (both r) packet data_out fate e

    kept_on : (r : Responds) (l b a : ℕ) (fate : Fate) (e : Ends) → Both r l b a e → Both r (l + lost fate) (b + busy fate) (a + ack_lost fate) (next r fate e)
    kept_on r l b a fate e c =
        let t = beside_kept room table r is in
        stands (both r) packet s q packet naks data_out (t.answering s q)
        (λ bytes at. packets_cut bytes packet q.length pos (t.fits s q bytes at) ((t.answering s q).bytes bytes at).0) (λ judge at. (pos, refl)) l b a fate e c

    with_stages : (r r' : Responds) (l b a : ℕ) (e : Ends) → Both r l b a e → StagesOf r' l b a e.host.transfer.stage e.device.stage e → Both r' l b a e
    with_stages r r' l b a e c stages =
        record { address = c.address; request = c.request; packet = c.packet; naks_are = c.naks_are; nak_count = c.nak_count; stages = stages }

    -- with a SETUP due both ends are in one transfer whatever is answered
    begins_anew : (r r' : Responds) (l b a : ℕ) (e : Ends) → e.host.transfer.stage ≡ Setup → Both r l b a e → Both r' l b a e
    begins_anew r r' l b a e at c =
        let here = subst (λ st. StagesOf r l b a st e.device.stage e) at c.stages in
        with_stages r r' l b a e c (subst (λ st. StagesOf r' l b a st e.device.stage e) (sym at) here)

    -- else the responder isn't asked, but at an OUT in the data stage of a write
    abbrev Alike : Responds → Responds → Fate → Ends → Option Sent → Type 0
    Alike r r' fate e o = exchanged (both r') packet (has_data data_out) e.host e.device o fate ≡ exchanged (both r) packet (has_data data_out) e.host e.device o fate

    abbrev due_at : Ends → TransferStage → Option Sent
    due_at e x = addressed e.host.transfer.address (token_due e.host.transfer data_out x)

    in_stage : (r r' : Responds) (fate : Fate) (e : Ends) → Alike r r' fate e (Some (record { address = e.host.transfer.address; token = InToken }))
    in_stage r r' fate e = exchanged_alike r r' (has_data data_out) e.host e.device (record { address = e.host.transfer.address; token = InToken }) fate (λ ready. in_alike r r' e.host.transfer.address e.device ready)

    out_stage : (r r' : Responds) (fate : Fate) (e : Ends) (toggle : Toggle) (bytes : List ℕ) → IsElsewhere e.device.stage →
        Alike r r' fate e (Some (record { address = e.host.transfer.address; token = OutToken toggle bytes }))
    out_stage r r' fate e toggle bytes else_ =
        exchanged_alike r r' (has_data data_out) e.host e.device (record { address = e.host.transfer.address; token = OutToken toggle bytes }) fate (λ ready. out_alike r r' toggle bytes e.host.transfer.address e.device else_ ready)

    at_stage : (r r' : Responds) (fate : Fate) (e : Ends) (x : TransferStage) → (x ≡ Setup → ⊥) → (x ≡ DataOut → IsElsewhere e.device.stage) → (x ≡ StatusOut → IsElsewhere e.device.stage) →
        e.host.transfer.stage ≡ x → Alike r r' fate e (due_of e.host.transfer data_out)
    at_stage r r' fate e Setup other out status i = absurd (other refl)
    at_stage r r' fate e DataIn other out status i = subst (λ x. Alike r r' fate e (due_at e x)) (sym i) (in_stage r r' fate e)
    at_stage r r' fate e DataOut other out status i = subst (λ x. Alike r r' fate e (due_at e x)) (sym i) (out_stage r r' fate e e.host.transfer.awaited (packet_due e.host.transfer data_out) (out refl))
    at_stage r r' fate e StatusOut other out status i = subst (λ x. Alike r r' fate e (due_at e x)) (sym i) (out_stage r r' fate e Data1 [] (status refl))
    at_stage r r' fate e StatusIn other out status i = subst (λ x. Alike r r' fate e (due_at e x)) (sym i) (in_stage r r' fate e)
    at_stage r r' fate e Completed other out status i = subst (λ x. Alike r r' fate e (due_at e x)) (sym i) refl
    at_stage r r' fate e (Failed why) other out status i = subst (λ x. Alike r r' fate e (due_at e x)) (sym i) refl

    module _ (r : Responds) (m : Moment) (l b a : ℕ) (e : Ends) (c : Both r l b a e) where
      abbrev After : Type 0
      After =
          (r' : Responds) × ((r' ≡ r) ⊎ (r' ≡ m.respond))
          × Both r' (l + lost m.fate) (b + busy m.fate) (a + ack_lost m.fate) (next m.respond m.fate e)

      stays : (st : TransferStage) → e.host.transfer.stage ≡ st → (st ≡ Setup → ⊥) → (st ≡ DataOut → IsElsewhere e.device.stage) → (st ≡ StatusOut → IsElsewhere e.device.stage) →
          After
      stays st at other out status =
          let same = at_stage r m.respond m.fate e st other out status at in
          (r, inl refl, subst (λ x. Both r (l + lost m.fate) (b + busy m.fate) (a + ack_lost m.fate) x) (sym same) (kept_on r l b a m.fate e c))

      -- The data stage of a write, by what the responder of this moment answers to the request.
      module _ (at : e.host.transfer.stage ≡ DataOut) (asked : SetupPacket) (came : List ℕ) (here : e.device.stage ≡ device.Receiving asked came)
          (w : IsWriting (both r) packet s q packet naks data_out l asked came e.host.transfer.awaited e.host.transfer.kept e.host.transfer.strikes e.device.state) where
        -- he takes the data too: so he judges them
        judges : (judge : List ℕ → Bool) → both m.respond s q ≡ Takes judge → After
        judges judge takes =
            let other : IsWriting (both m.respond) packet s q packet naks data_out l asked came e.host.transfer.awaited e.host.transfer.kept e.host.transfer.strikes e.device.state = record {
              same_state = w.same_state;
              asked_is = w.asked_is;
              judge = judge;
              answered = takes;
              acknowledged = w.acknowledged;
              count_is = w.count_is;
              next_is = w.next_is;
              kept = w.kept;
              counted = w.counted;
              came_is = w.came_is;
              whole = w.whole;
              more = w.more;
              owed = w.owed;
            } in (
              m.respond,
              inr refl,
              kept_on m.respond l b a m.fate e (with_stages r m.respond l b a e c
                  (subst (λ st. StagesOf m.respond l b a st e.device.stage e) (sym at)
                  (subst (λ x. StagesOf m.respond l b a DataOut x e) (sym here) other))),
            )

        module _ (refuses : both m.respond s q ≡ Refused) where
          abbrev sent : Sent
          sent = record { address = e.host.transfer.address; token = OutToken e.host.transfer.awaited (packet_due e.host.transfer data_out) }

          abbrev all : List ℕ
          all = came ++ packet_due e.host.transfer data_out

          abbrev done : DeviceView
          done = record { state = e.device.state; stage = device.Written asked all; pending = false }

          refused : (l' strikes : ℕ) → strikes ≤ l' → IsRefused (both m.respond) packet s q packet naks data_out l' strikes e.device.state
          refused l' strikes owed = record { same_state = w.same_state; answered = inl refuses; owed = owed }

          abbrev Then : ℕ → HostEnd → Type 0
          Then l' h = (b' a' : ℕ) → b ≤ b' → Both m.respond l' b' a' (record { host = h; device = done })

          receives_ack : has_data data_out ≡ true → (l' : ℕ) → Then l' (receives_reply (has_data data_out) e.host AckReply)
          receives_ack sends l' b' a' few =
              subst (λ st. Both m.respond l' b' a' (record { host = host_after e.host.got (taken_by (has_data data_out) e.host.transfer st AckReply); device = done })) (sym at)
              (subst (λ x. Both m.respond l' b' a' (record { host = host_after e.host.got (if x then write.acknowledged e.host.transfer else failed e.host.transfer Unexpected); device = done })) (sym sends)
              (record {
                address = c.address;
                request = c.request;
                packet = c.packet;
                naks_are = c.naks_are;
                nak_count = omega arith;
                stages = by_count (e.host.transfer.kept + packet_length e.host.transfer == e.host.transfer.request.length) _ _;
              }))
            where
              by_count : (last : Bool) (t : Toggle) (n : ℕ) →
                  Stages (both m.respond) packet s q packet naks data_out l' b' a' (if last then StatusIn else DataOut) (device.Written asked all) t e.host.got n 0 e.device.state
              by_count true t n = refused l' 0 (omega arith)
              by_count false t n = (refused l' 0 (omega arith), sends)

          receives_none : has_data data_out ≡ true → (l' : ℕ) → l + 1 ≤ l' → Then l' (receives_reply (has_data data_out) e.host NoReply)
          receives_none sends l' more b' a' few =
              subst (λ st. Both m.respond l' b' a' (record { host = host_after e.host.got (taken_by (has_data data_out) e.host.transfer st NoReply); device = done })) (sym at)
              (by_strikes (nat_lt e.host.transfer.strikes 2) refl)
            where
              by_strikes : (few : Bool) → nat_lt e.host.transfer.strikes 2 ≡ few →
                  Both m.respond l' b' a' (record {
                    host = host_after e.host.got (if few then record { received = Goes; transfer = record e.host.transfer { strikes = suc e.host.transfer.strikes } } else failed e.host.transfer NoAnswer);
                    device = done;
                  })
              by_strikes true i =
                  let owed = w.owed in
                  record {
                    address = c.address;
                    request = c.request;
                    packet = c.packet;
                    naks_are = c.naks_are;
                    nak_count = (let n = c.nak_count in omega arith);
                    stages = subst (λ st. Stages (both m.respond) packet s q packet naks data_out l' b' a' st (device.Written asked all) e.host.transfer.awaited e.host.got e.host.transfer.kept (suc e.host.transfer.strikes) e.device.state) (sym at)
                        (refused l' (suc e.host.transfer.strikes) (omega arith), sends);
                  }
              by_strikes false i =
                  let owed = w.owed in
                  let three : 3 ≤ l' = (let two : 2 ≤ e.host.transfer.strikes = grind (arith, nat_tests) in omega arith) in
                  record {
                    address = c.address;
                    request = c.request;
                    packet = c.packet;
                    naks_are = c.naks_are;
                    nak_count = (let n = c.nak_count in omega arith);
                    stages = three;
                  }

          out_due : due_of e.host.transfer data_out ≡ Some sent
          out_due = ap (λ st. addressed e.host.transfer.address (token_due e.host.transfer data_out st)) at

          abbrev Now : Fate → Type 0
          Now fate =
              (r' : Responds) × ((r' ≡ r) ⊎ (r' ≡ m.respond))
              × Both r' (l + lost fate) (b + busy fate) (a + ack_lost fate) (exchanged (both m.respond) packet (has_data data_out) e.host e.device (Some sent) fate)

          -- nothing depends on him
          same_now : (fate : Fate) → Alike r m.respond fate e (Some sent) → Now fate
          same_now fate same = (
            r,
            inl refl,
            subst (λ x. Both r (l + lost fate) (b + busy fate) (a + ack_lost fate) x) (ap (λ o. exchanged (both r) packet (has_data data_out) e.host e.device o fate) out_due ∙ sym same)
                (kept_on r l b a fate e c),
          )

          not_ready : served (both m.respond) packet e.device sent false ≡ served (both r) packet e.device sent false
          not_ready = refl

          abbrev IsDue_now : Type 0
          IsDue_now = (length (packet_due e.host.transfer data_out) == min packet (asked.length - length came)) ≡ true

          -- the next packet has data
          sends_data : IsDue_now → has_data data_out ≡ true
          sends_data due =
              let right : length (packet_due e.host.transfer data_out) ≡ min packet (asked.length - length came) = grind (arith, nat_tests) in
              let asks = ap (λ x. x.length) w.asked_is in
              let whole = w.whole in
              let more = w.more in
              packet_data e.host.transfer data_out (omega (arith, right, asks, whole, more, pos))

          by_case : (fate : Fate) → (served (both m.respond) packet e.device sent true ≡ served (both r) packet e.device sent true)
              ⊎ ((served (both m.respond) packet e.device sent true ≡ replies AckReply e.device.state (device.Written asked all) false) × IsDue_now) → Now fate
          by_case fate (inl same) = same_now fate (exchanged_alike r m.respond (has_data data_out) e.host e.device sent fate by_ready)
            where
              by_ready : (ready : Bool) → served (both m.respond) packet e.device sent ready ≡ served (both r) packet e.device sent ready
              by_ready true = same
              by_ready false = not_ready
          by_case Pass (inr (last, due)) = (
            m.respond,
            inr refl,
            subst (λ x. Both m.respond (l + 0) (b + 0) (a + 0) (let y = acknowledged (both m.respond) packet Pass x in record { host = receives_reply (has_data data_out) e.host y.reply; device = y.device })) (sym last)
                (receives_ack (sends_data due) (l + 0) (b + 0) (a + 0) (omega arith)),
          )
          by_case LostAck (inr (last, due)) = (
            m.respond,
            inr refl,
            subst (λ x. Both m.respond (l + 1) (b + 0) (a + 1) (record { host = receives_reply (has_data data_out) e.host x.reply; device = x.device })) (sym last)
                (receives_ack (sends_data due) (l + 1) (b + 0) (a + 1) (omega arith)),
          )
          by_case LostUp (inr (last, due)) = (
            m.respond,
            inr refl,
            subst (λ x. Both m.respond (l + 1) (b + 0) (a + 0) (record { host = receives_reply (has_data data_out) e.host NoReply; device = x.device })) (sym last)
                (receives_none (sends_data due) (l + 1) (omega arith) (b + 0) (a + 0) (omega arith)),
          )
          by_case LostDown (inr last) = same_now LostDown refl
          by_case Busy (inr last) =
              same_now Busy (ap (λ x. record { host = receives_reply (has_data data_out) e.host x.reply; device = x.device }) (acks_alike r m.respond (served (both r) packet e.device sent false)))

          declines : After
          declines =
              let request : both m.respond e.device.state asked ≡ Refused = ap (λ x. both m.respond x asked) w.same_state ∙ ap (λ x. both m.respond s x) w.asked_is ∙ refuses in
              let case = last_out r m.respond e.device.state asked came request e.host.transfer.awaited (packet_due e.host.transfer data_out) e.host.transfer.address e.device.pending in
              let now = by_case m.fate (subst (λ x. (let d : DeviceView = record { state = e.device.state; stage = x; pending = e.device.pending } in
              (served (both m.respond) packet d sent true ≡ served (both r) packet d sent true)
              ⊎ ((served (both m.respond) packet d sent true ≡ replies AckReply e.device.state (device.Written asked all) false) × IsDue_now))) (sym here) case) in
              (now.0, now.1, subst (λ o. Both now.0 (l + lost m.fate) (b + busy m.fate) (a + ack_lost m.fate) (exchanged (both m.respond) packet (has_data data_out) e.host e.device o m.fate)) (sym out_due) now.2)

        receiving : (o : Outcome) → both m.respond s q ≡ o → After
        receiving (Takes judge) i = judges judge i
        receiving Refused i = declines i
        receiving (Bytes bytes) i =
            let asks = ((beside_kept room table r is).answering s q).takes w.judge w.answered in
            let gives = ((beside_kept room table m.respond is).answering s q).bytes bytes i in
            absurd (let z = sym gives.1 ∙ asks.1 in cc)
        receiving (Done t) i =
            let asks = ((beside_kept room table r is).answering s q).takes w.judge w.answered in
            let none = ((beside_kept room table m.respond is).answering s q).done t i in
            absurd (let some = asks.0 in omega arith)

      in_data_out : (x : DeviceStage) → e.device.stage ≡ x → e.host.transfer.stage ≡ DataOut → After
      in_data_out (device.Receiving asked came) here at =
          receiving at asked came here
          (subst (λ x. StagesOf r l b a DataOut x e) here (subst (λ st. StagesOf r l b a st e.device.stage e) at c.stages)) (both m.respond s q) refl
      in_data_out x here at = stays DataOut at (λ i. absurd (cc)) (λ i. subst (λ y. IsElsewhere y) (sym here) tt) (λ i. absurd (cc))

      in_status_out : (x : DeviceStage) → e.device.stage ≡ x → e.host.transfer.stage ≡ StatusOut → After
      in_status_out (device.Receiving asked came) here at =
          absurd (subst (λ x. StagesOf r l b a StatusOut x e) here (subst (λ st. StagesOf r l b a st e.device.stage e) at c.stages))
      in_status_out x here at = stays StatusOut at (λ i. absurd (cc)) (λ i. absurd (cc)) (λ i. subst (λ y. IsElsewhere y) (sym here) tt)

      one_more : (st : TransferStage) → e.host.transfer.stage ≡ st → After
      one_more Setup at = (m.respond, inr refl, kept_on m.respond l b a m.fate e (begins_anew r m.respond l b a e at c))
      one_more DataOut at = in_data_out e.device.stage refl at
      one_more StatusOut at = in_status_out e.device.stage refl at
      one_more DataIn at = stays DataIn at (λ i. absurd (cc)) (λ i. absurd (cc)) (λ i. absurd (cc))
      one_more StatusIn at = stays StatusIn at (λ i. absurd (cc)) (λ i. absurd (cc)) (λ i. absurd (cc))
      one_more Completed at = stays Completed at (λ i. absurd (cc)) (λ i. absurd (cc)) (λ i. absurd (cc))
      one_more (Failed why) at = stays (Failed why) at (λ i. absurd (cc)) (λ i. absurd (cc)) (λ i. absurd (cc))

    among : (r r' r'' : Responds) (m : Moment) (ms : List Moment) → (r' ≡ r) ⊎ (r' ≡ m.respond) → (r'' ≡ r') ⊎ IsAmong r'' ms → (r'' ≡ r) ⊎ IsAmong r'' (m ∷ ms)
    among r r' r'' m ms x (inr later) = inr (inr later)
    among r r' r'' m ms (inl e) (inl f) = inl (f ∙ e)
    among r r' r'' m ms (inr e) (inl f) = inr (inl (f ∙ e))

    all_moments : (ms : List Moment) (r : Responds) (l b a : ℕ) (e : Ends) → Both r l b a e →
        (r' : Responds) × ((r' ≡ r) ⊎ IsAmong r' ms)
        × Both r' (l + losses (fates_of ms)) (b + busies (fates_of ms)) (a + acks_lost (fates_of ms)) (run_moments room table packet data_out ms e)
    all_moments [] r l b a e c = (r, inl refl, rw (add-zero l, add-zero b, add-zero a) c)
    all_moments (m ∷ ms) r l b a e c =
        let (r1, which, c1) = one_more r m l b a e c e.host.transfer.stage refl in
        let (r2, whence, c2) = all_moments ms r1 (l + lost m.fate) (b + busy m.fate) (a + ack_lost m.fate) (next m.respond m.fate e) c1 in
        (r2, among r r1 r2 m ms which whence, rw (← add_assoc l (lost m.fate) (losses (fates_of ms)), ← add_assoc b (busy m.fate) (busies (fates_of ms)), ← add_assoc a (ack_lost m.fate) (acks_lost (fates_of ms))) c2)

one_of : (r : Responds) (m : Moment) (ms : List Moment) → (r ≡ m.respond) ⊎ IsAmong r (m ∷ ms) → IsAmong r (m ∷ ms)
one_of r m ms (inl e) = inl e
one_of r m ms (inr e) = e

pub one_answer : TransfersReadOneAnswer
one_answer room table packet naks q d data_out first more pos is =
    let start : Ends = record { host = begins d.state.address packet naks q; device = d } in
    let here : AreInStages (beside room table first.respond) packet d.state q packet naks data_out 0 0 0 start.host start.device =
    record {
      address = refl;
      request = refl;
      packet = refl;
      naks_are = refl;
      nak_count = omega arith;
      stages = (refl, refl, refl, refl, omega arith);
    } in
    let (r, which, c) = all_moments room table packet pos is d.state q naks data_out (first ∷ more) first.respond 0 0 0 start here in
    let e = run_moments room table packet data_out (first ∷ more) start in
    let fates = fates_of (first ∷ more) in (
      r,
      one_of r first more which,
      simp zero-add at (stages_end (beside room table r) packet d.state q packet naks data_out (0 + losses fates) (0 + busies fates) (0 + acks_lost fates)
          e.host.transfer.stage e.device.stage e.host.transfer.awaited e.host.got e.host.transfer.kept e.host.transfer.strikes e.device.state c.stages),
    )
