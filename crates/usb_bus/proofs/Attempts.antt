-- An attempt: each transaction keeps an attempt sound.
use Rattle.std.proofs.Common.{◌≡◌, ◌≢◌, ℕ, suc, ◌+◌, ◌<◌, Bool, true, false, if◌then◌else◌, ◌⊎◌, List, [], ◌∷◌, ◌++◌, refl, ap, sym, ◌∙◌, arith, inl, inr, subst, length, take, zero-add, add-zero, add_assoc, append_assoc}
use Rattle.std.specs.Prelude.{Option, Some, None, not, ◌&&◌, ◌==◌}
use Rattle.std.proofs.lemmas.Bool.Decides.{nat_tests, eqb_tells}
use Rattle.std.proofs.lemmas.List.{append-nil, take_all, take_at}
use Rattle.usb_fields.specs.declared.setup.Setup.{Setup as SetupPacket}
use Rattle.usb_fields.specs.declared.setup.Direction.TheVariants as directions
use Rattle.usb_fields.specs.Setup.{direction_of}
use Rattle.usb_device.specs.Beside.{brings_bytes, is_in}
use Rattle.usb_fields.specs.Packets.{NoReply, Sent, Token}
use Rattle.usb_host.specs.declared.why.Why.TheVariants.{NoAnswer, Busy, Stalled, TooLong, Unexpected, Malformed, Memory}
use Rattle.usb_host.specs.declared.transfer.TransferStage.{TransferStage}
use Rattle.usb_host.specs.declared.transfer.TransferStage.TheVariants.{Setup, Completed, Failed}
use Rattle.usb_device.specs.declared.state.State.{State}
use Rattle.usb_device.specs.Requests.{Outcome, Refused}
use Rattle.usb_device.specs.Step.{DeviceView, carried_out, is_set_address}
use Rattle.usb_host.specs.declared.reply.Reply.{Reply}
use Rattle.usb_host.specs.declared.reply.Reply.TheVariants as replied
use Rattle.usb_bus.specs.declared.fate.Fate.{Fate}
use Rattle.usb_bus.specs.declared.fate.Fate.TheVariants as fates
use Rattle.usb_bus.specs.Bus.{lost, busy, ack_lost, losses, busies, acks_lost, HostEnd, carried, step_of}
use Rattle.usb_bus.specs.Run.{due_in}
use Rattle.usb_bus.specs.Together.{IsSilent, Stages, StaysTogether}
use Rattle.usb_host.specs.Plan.{Plan, Begin}
use Rattle.usb_host.specs.Transfer.{addressed, token_due}
use Rattle.usb_bus.specs.Attempt.{Answers, AreDataOf, IsAccepted, IsDeclined, judged_reply, Phase, Running, Succeeded, Broken, Attempt, reply_from, reply_to, proceed, advance, attempt_step, attempt_run, is_moved_last, is_moving, AttemptEnds}
use Rattle.usb_bus.specs.inside.Sound.{AttemptsAreSound, Follows, HasMoved, Sound, TogetherOn}
use Rattle.usb_bus.proofs.Cutting.{alike_cut}
use Rattle.usb_bus.proofs.Keeps.{keeps}

-- What a transfer of a request brought, where these were its data: wLength bytes, or none.
module _ (q : SetupPacket) (bytes : List ℕ) (data_out : AreDataOf q bytes) where
  -- an owner who judges them, if there are any
  is_judged : (judge : List ℕ → Bool) → 0 < length bytes → judged_reply judge bytes ≡ (if judge bytes then replied.Done else replied.Refused)
  is_judged judge some = by bytes some
    where
      by : (xs : List ℕ) → 0 < length xs → judged_reply judge xs ≡ (if judge xs then replied.Done else replied.Refused)
      by [] some = absurd (omega arith)
      by (x ∷ xs) some = refl

  -- data that are not taken are refused
  is_refused : {o : Outcome} (is : IsDeclined o q bytes) → judged_reply is.judge bytes ≡ replied.Refused
  is_refused is = by bytes data_out is.declines
    where
      by : (xs : List ℕ) → AreDataOf q xs → (length xs ≢ q.length) ⊎ (is.judge (take q.length xs) ≡ false) → judged_reply is.judge xs ≡ replied.Refused
      by [] of declines = refl
      by (x ∷ xs) (inl none) declines = absurd (cc)
      by (x ∷ xs) (inr (brings, all)) (inl other) = absurd (other all)
      by (x ∷ xs) (inr (brings, all)) (inr denied) =
          let whole : take q.length (x ∷ xs) ≡ x ∷ xs = take_all q.length (x ∷ xs) (omega arith) in
          ap (λ k. if k then replied.Done else replied.Refused) (sym (ap is.judge whole) ∙ denied)

  module _ (h : HostEnd) (asked : h.transfer.request ≡ q) where
    -- all data were taken
    sent_all : {o : Outcome} (is : IsAccepted o q bytes) → 0 < q.length → reply_from (length bytes) h ≡ judged_reply is.judge bytes
    sent_all is some =
        elim data_out [
          | inl none ↦ absurd (let few = ap length none in let enough = is.enough in omega arith)
          | inr (brings, all) ↦
              let same : h.transfer.request.length ≡ length bytes = ap (λ x. x.length) asked ∙ sym all in
              let whole : take q.length bytes ≡ bytes = take_all q.length bytes (omega arith) in
              let accepts : is.judge bytes ≡ true = sym (ap is.judge whole) ∙ is.accepts in
              let done : judged_reply is.judge bytes ≡ replied.Done =
              is_judged is.judge (omega arith) ∙ ap (λ k. if k then replied.Done else replied.Refused) accepts in
              let here : reply_from (length bytes) h ≡ replied.Done = grind (arith, nat_tests) in
              here ∙ sym done
        ]

    -- a request that has no data stage is done
    is_done : q.length ≡ 0 → reply_from (length bytes) h ≡ replied.Done
    is_done none =
        let same : h.transfer.request.length ≡ q.length = ap (λ x. x.length) asked in
        let few : length bytes ≡ 0 = elim data_out [ inl e ↦ ap length e | inr (brings, all) ↦ all ∙ none ] in
        grind (arith, nat_tests)

    -- one for bytes from the device brought them
    brings : (0 < q.length) × (direction_of q.request_type ≡ directions.In) → reply_from (length bytes) h ≡ replied.Bytes h.got
    brings (some, goes_in) =
        let same : h.transfer.request.length ≡ q.length = ap (λ x. x.length) asked in
        let few : length bytes ≡ 0 = elim data_out [ inl e ↦ ap length e | inr (goes, all) ↦ absurd (never goes goes_in) ] in
        grind (arith, nat_tests)
      where
        never : brings_bytes q ≡ true → direction_of q.request_type ≡ directions.In → ⊥
        never goes e =
            absurd (let same : brings_bytes q ≡ (not (q.length == 0) && false) = ap (λ x. not (q.length == 0) && not (is_in x)) e in grind arith)

module _ (plan : List Reply → Plan) (naks : ℕ) (sends : List Reply → List ℕ) (answer : State → SetupPacket → Outcome) (cut : ℕ) (loose : Bool) (all : List Reply) (last : State) where
  abbrev pub Holds : ℕ → ℕ → ℕ → Attempt → Type 0
  Holds l b a x = Sound plan naks sends answer cut loose all last l b a x.replies x.phase x.device

  -- the next transfer of the plan begins, both ends at one address
  pub next_begins : (l b a : ℕ) (s : State) (replies todo : List Reply) (d : DeviceView) → d.state ≡ s →
      Follows plan naks sends answer cut loose all last s replies todo → Holds l b a (proceed plan naks replies d)
  next_begins l b a s replies [] d e f = rw f.0 (f.2, inl (e ∙ f.1))
  next_begins l b a s replies (r ∷ todo) d e (packet, (q, (planned, front, ends, follows))) =
      rw planned.begins
      (inl (record {
        s = s;
        r = r;
        todo = todo;
        packet = packet;
        q = q;
        planned = planned;
        front = front;
        ends = ends;
        follows = follows;
        in_one = record {
          stand = record {
            address = refl;
            request = refl;
            packet = refl;
            naks_are = refl;
            nak_count = omega arith;
            stages = (e, refl, refl, refl, omega arith);
          };
          counts = λ none. ((λ i. absurd (cc)), refl);
        };
      }))

  -- the device stayed at its old address d, and the host goes on at the new one
  lost_begins : (l b a : ℕ) (s : State) (replies todo : List Reply) (d : DeviceView) → 0 < a → s.address ≢ d.state.address →
      s ≡ record d.state { address = s.address } → HasMoved plan naks sends answer cut replies d → (todo ≡ [] → loose ≡ true) →
      Follows plan naks sends answer cut loose all last s replies todo → Holds l b a (proceed plan naks replies d)
  lost_begins l b a s replies [] d z ne away moved ok f = rw f.0 (f.2, inr (z, ok refl, subst (λ x. x ≡ record d.state { address = x.address }) f.1 away))
  lost_begins l b a s replies (r ∷ todo) d z ne away moved ok (packet, (q, (planned, front, ends, follows))) =
      rw planned.begins (inr (record { asks = refl; elsewhere = ne; moved = moved; cost = z; todo = r ∷ todo; front = front }))

  -- both ends are together in a transfer of the plan
  module _ (l b a : ℕ) (replies : List Reply) (h : HostEnd) (d : DeviceView) (t : TogetherOn plan naks sends answer cut loose all last l b a replies h d) where
    abbrev brought : Reply
    brought = reply_from (length (sends replies)) h

    abbrev At : TransferStage → Type 0
    At stage = Stages answer cut t.s t.q t.packet naks (sends replies) l b a stage d.stage h.transfer.awaited h.got h.transfer.kept h.transfer.strikes d.state

    -- it has ended with the expected reply
    ended_well : (r : Reply) → r ≡ t.r → d.state ≡ carried_out t.s (answer t.s t.q) → Holds l b a (proceed plan naks (replies ++ r ∷ []) d)
    ended_well r er ed = rw er (next_begins l b a (carried_out t.s (answer t.s t.q)) (replies ++ t.r ∷ []) t.todo d ed t.follows)

    completes : At Completed → Holds l b a (proceed plan naks (replies ++ brought ∷ []) d)
    completes (inl (e, ed)) =
        let rep = brings t.q (sends replies) t.planned.data_out h t.in_one.stand.request (t.planned.answering.bytes h.got e) ∙ sym (ap (reply_to (sends replies)) e) ∙ t.planned.reply in
        let st : d.state ≡ carried_out t.s (answer t.s t.q) = rw e ed in
        ended_well brought rep st
    completes (inr (inr (accepted, ed))) =
        let some = (t.planned.answering.takes accepted.judge accepted.answered).0 in
        let rep = sent_all t.q (sends replies) t.planned.data_out h t.in_one.stand.request accepted some in
        let as_r = sym (ap (reply_to (sends replies)) accepted.answered) ∙ t.planned.reply in
        let st : d.state ≡ carried_out t.s (answer t.s t.q) = ed ∙ sym (ap (carried_out t.s) accepted.answered) in
        ended_well brought (rep ∙ as_r) st
    completes (inr (inl (next, (e, moved)))) =
        let none : t.q.length ≡ 0 = t.planned.answering.done next e in
        let rep : brought ≡ t.r = is_done t.q (sends replies) t.planned.data_out h t.in_one.stand.request none ∙ sym (ap (reply_to (sends replies)) e) ∙ t.planned.reply in
        let after : carried_out t.s (answer t.s t.q) ≡ next = rw e refl in
        elim moved [
          | inl ed ↦ ended_well brought rep (ed ∙ sym after)
          | inr (ed, is, z) ↦
              let away : next ≡ record d.state { address = next.address } = rw ed (t.planned.address next e is) in
              (elim (eqb_tells next.address t.s.address) [
                | inl here ↦
                    let here' : next.address ≡ d.state.address = here.1 ∙ ap (λ x. x.address) (sym ed) in
                    let st : next ≡ d.state = away ∙ ap (λ x. record d.state { address = x }) here' in
                    ended_well brought rep (sym st ∙ sym after)
                | inr there ↦
                    let off : next.address ≢ d.state.address = rw ed there.1 in
                    let moved : HasMoved plan naks sends answer cut (replies ++ t.r ∷ []) d = record {
                      s = t.s;
                      packet = t.packet;
                      q = t.q;
                      earlier = replies;
                      begins = t.planned.begins;
                      is_address = is;
                      done = ap (λ r. replies ++ r ∷ []) (sym t.planned.reply ∙ ap (reply_to (sends replies)) e);
                      stays = ed;
                    } in
                    rw rep (lost_begins l b a (carried_out t.s (answer t.s t.q)) (replies ++ t.r ∷ []) t.todo d z (rw after off) (rw after away) moved (t.ends is) t.follows)
              ])
        ]

    stalls : (answer t.s t.q ≡ Refused) ⊎ IsDeclined (answer t.s t.q) t.q (sends replies) → d.state ≡ t.s → Holds l b a (proceed plan naks (replies ++ replied.Refused ∷ []) d)
    stalls (inl e) ed = ended_well replied.Refused (sym (ap (reply_to (sends replies)) e) ∙ t.planned.reply) (ed ∙ sym (ap (λ o. carried_out t.s o) e))
    stalls (inr is) ed =
        ended_well replied.Refused (sym (ap (reply_to (sends replies)) is.answered ∙ is_refused t.q (sends replies) t.planned.data_out is) ∙ t.planned.reply)
        (ed ∙ sym (ap (λ o. carried_out t.s o) is.answered))

    together_at : (stage : TransferStage) → At stage → Holds l b a (advance plan naks sends replies h stage d)
    together_at Completed st = completes st
    together_at (Failed NoAnswer) st = (inl st, (t.r ∷ t.todo, t.front))
    together_at (Failed Busy) st = (st, (t.r ∷ t.todo, t.front))
    together_at (Failed Stalled) st = stalls st.0 st.1
    together_at (Failed TooLong) st = absurd st
    together_at (Failed Unexpected) st = absurd st
    together_at (Failed Malformed) st = absurd st
    together_at (Failed Memory) st = absurd st
    together_at _ st = inl t

  silent_after : (l b a : ℕ) (replies : List Reply) (h : HostEnd) (hs : TransferStage) (d : DeviceView) (t todo : List Reply) →
      h.transfer.stage ≡ hs → (hs ≡ Setup) ⊎ (hs ≡ Failed NoAnswer) → h.transfer.address ≢ d.state.address →
      HasMoved plan naks sends answer cut replies d → 0 < a → replies ++ todo ≡ all → Holds l b a (advance plan naks sends replies h hs d)
  silent_after l b a replies h Setup d t todo e w ne moved z front =
      inr (record { asks = e; elsewhere = ne; moved = moved; cost = z; todo = todo; front = front })
  silent_after l b a replies h (Failed NoAnswer) d t todo e w ne moved z front = (inr z, (todo, front))
  silent_after l b a replies h _ d t todo e w ne moved z front = absurd (grind arith)

  -- the host's end in this stage
  abbrev in_stage : TransferStage → HostEnd → HostEnd
  in_stage stage h = record { transfer = record h.transfer { stage = stage }; got = h.got }

  -- it goes on asking or gives up, at the same address, and the device's state stays
  abbrev IsQuiet : List ℕ → Fate → HostEnd → DeviceView → Type 0
  IsQuiet bytes fate h d =
      let e = step_of answer cut bytes fate (record { host = h; device = d }) in
      ((e.host.transfer.stage ≡ Setup) ⊎ (e.host.transfer.stage ≡ Failed NoAnswer)) × (e.host.transfer.address ≡ h.transfer.address) × (e.device.state ≡ d.state)

  -- while nothing at the host's address answers
  silent_at : (bytes : List ℕ) (fate : Fate) (h : HostEnd) (d : DeviceView) → h.transfer.address ≢ d.state.address → IsQuiet bytes fate (in_stage Setup h) d
  silent_at bytes fate h d ne = grind (arith, nat_tests)

  silent_step : (bytes : List ℕ) (fate : Fate) (h : HostEnd) (d : DeviceView) → h.transfer.stage ≡ Setup → h.transfer.address ≢ d.state.address → IsQuiet bytes fate h d
  silent_step bytes fate h d is ne = subst (λ x. IsQuiet bytes fate (in_stage x h) d) (sym is) (silent_at bytes fate h d ne)

  -- the host asks where no device is, or has given up
  abbrev IsAway : Phase → DeviceView → Type 0
  IsAway (Running h) d = (h.transfer.stage ≡ Setup) × (h.transfer.address ≢ d.state.address)
  IsAway Succeeded d = ⊥
  IsAway (Broken why) d = Unit {0}

  away_after : (replies : List Reply) (h : HostEnd) (hs : TransferStage) (d : DeviceView) → h.transfer.stage ≡ hs → (hs ≡ Setup) ⊎ (hs ≡ Failed NoAnswer) →
      h.transfer.address ≢ d.state.address → (let y = advance plan naks sends replies h hs d in IsAway y.phase y.device)
  away_after replies h Setup d e w ne = (e, ne)
  away_after replies h (Failed NoAnswer) d e w ne = tt
  away_after replies h _ d e w ne = absurd (grind arith)

  away_step : (fate : Fate) (replies : List Reply) (phase : Phase) (d : DeviceView) → IsAway phase d →
      (let y = attempt_step plan naks sends answer cut fate replies phase d in IsAway y.phase y.device)
  away_step fate replies (Running h) d (is, ne) =
      let e = step_of answer cut (sends replies) fate (record { host = h; device = d }) in
      let quiet = silent_step (sends replies) fate h d is ne in
      let off : e.host.transfer.address ≢ e.device.state.address = rw (quiet.1, quiet.2) ne in
      away_after replies e.host e.host.transfer.stage e.device refl quiet.0 off
  away_step fate replies Succeeded d away = absurd away
  away_step fate replies (Broken why) d away = tt

  receives_nothing : (d : DeviceView) (sent : Sent) (fate : Fate) → sent.address ≢ d.state.address → (carried answer cut d sent fate).reply ≡ NoReply
  receives_nothing d sent fates.Pass ne = grind (arith, nat_tests)
  receives_nothing d sent fates.Busy ne = grind (arith, nat_tests)
  receives_nothing d sent fates.LostDown ne = refl
  receives_nothing d sent fates.LostUp ne = refl
  receives_nothing d sent fates.LostAck ne = grind (arith, nat_tests)

  goes_to : (address : ℕ) (o : Option Token) (sent : Sent) → addressed address o ≡ Some sent → sent.address ≡ address
  goes_to address None sent e = absurd (cc)
  goes_to address (Some token) sent e = (let same : record { address = address; token = token } ≡ sent = cc in ap (λ x. x.address) (sym same))

  silent_now : (bytes : List ℕ) (phase : Phase) (d : DeviceView) → IsAway phase d → (sent : Sent) (fate : Fate) → due_in bytes phase ≡ Some sent →
      (carried answer cut d sent fate).reply ≡ NoReply
  silent_now bytes (Running h) d (is, ne) sent fate e =
      let there = goes_to h.transfer.address (token_due h.transfer bytes h.transfer.stage) sent e in
      receives_nothing d sent fate (rw there ne)
  silent_now bytes Succeeded d away sent fate e = absurd away
  silent_now bytes (Broken why) d away sent fate e = absurd (cc)

  silent_on : (later : List Fate) (x : Attempt) → IsAway x.phase x.device → IsSilent plan naks sends answer cut (attempt_run plan naks sends answer cut later x)
  silent_on [] x away = λ sent fate e. silent_now (sends x.replies) x.phase x.device away sent fate e
  silent_on (f ∷ later) x away =
      silent_on later (attempt_step plan naks sends answer cut f x.replies x.phase x.device) (away_step f x.replies x.phase x.device away)

  -- what a sound attempt says while it goes on
  pub sound_stays : (used : List Fate) (x : Attempt) → Holds (losses used) (busies used) (acks_lost used) x → StaysTogether plan naks sends answer cut used x
  sound_stays used x sound = λ h running.
      let here = subst (λ p. Sound plan naks sends answer cut loose all last (losses used) (busies used) (acks_lost used) x.replies p x.device) running sound in
      elim here [
        | inl t ↦ inl (record { s = t.s; packet = t.packet; q = t.q; begins = t.planned.begins; in_one = t.in_one })
        | inr t ↦
            inr (record {
              s = t.moved.s;
              packet = t.moved.packet;
              q = t.moved.q;
              earlier = t.moved.earlier;
              begins = t.moved.begins;
              is_address = t.moved.is_address;
              done = t.moved.done;
              stays = t.moved.stays;
              lost = t.cost;
              silent = λ later. silent_on later x (subst (λ p. IsAway p x.device) (sym running) (t.asks, t.elsewhere));
            })
      ]

  pub attempt_keeps : (l b a : ℕ) (fate : Fate) (replies : List Reply) (phase : Phase) (d : DeviceView) →
      Sound plan naks sends answer cut loose all last l b a replies phase d →
      Holds (l + lost fate) (b + busy fate) (a + ack_lost fate) (attempt_step plan naks sends answer cut fate replies phase d)
  attempt_keeps l b a fate replies (Running h) d (inl t) =
      let e = step_of answer cut (sends replies) fate (record { host = h; device = d }) in
      let on : TogetherOn plan naks sends answer cut loose all last (l + lost fate) (b + busy fate) (a + ack_lost fate) replies e.host e.device = record {
        s = t.s;
        r = t.r;
        todo = t.todo;
        packet = t.packet;
        q = t.q;
        planned = t.planned;
        front = t.front;
        ends = t.ends;
        follows = t.follows;
        in_one = keeps answer cut t.s t.q t.packet naks (sends replies) t.planned.answering
            (λ bytes e. alike_cut cut t.packet t.q.length bytes (t.planned.is_cut bytes e) (t.planned.answering.bytes bytes e).0)
            t.planned.sizes l b a fate (record { host = h; device = d }) t.in_one;
      } in
      together_at (l + lost fate) (b + busy fate) (a + ack_lost fate) replies e.host e.device on e.host.transfer.stage on.in_one.stand.stages
  attempt_keeps l b a fate replies (Running h) d (inr t) =
      let e = step_of answer cut (sends replies) fate (record { host = h; device = d }) in
      let quiet = silent_step (sends replies) fate h d t.asks t.elsewhere in
      let off : e.host.transfer.address ≢ e.device.state.address = rw (quiet.1, quiet.2) t.elsewhere in
      silent_after (l + lost fate) (b + busy fate) (a + ack_lost fate) replies e.host e.host.transfer.stage e.device [] t.todo refl quiet.0 off
      (record {
        s = t.moved.s;
        packet = t.moved.packet;
        q = t.moved.q;
        earlier = t.moved.earlier;
        begins = t.moved.begins;
        is_address = t.moved.is_address;
        done = t.moved.done;
        stays = quiet.2 ∙ t.moved.stays;
      }) (let z = t.cost in omega arith) t.front
  attempt_keeps l b a fate replies Succeeded d h = (h.0, elim h.1 [ inl e ↦ inl e | inr (z, ok, e) ↦ inr (omega arith, ok, e) ])
  attempt_keeps l b a fate replies (Broken NoAnswer) d h = (elim h.0 [ inl e ↦ inl (omega arith) | inr e ↦ inr (omega arith) ], h.1)
  attempt_keeps l b a fate replies (Broken Busy) d h = (let x = h.0 in omega arith, h.1)
  attempt_keeps l b a fate replies (Broken Stalled) d h = absurd h
  attempt_keeps l b a fate replies (Broken TooLong) d h = absurd h
  attempt_keeps l b a fate replies (Broken Unexpected) d h = absurd h
  attempt_keeps l b a fate replies (Broken Malformed) d h = absurd h
  attempt_keeps l b a fate replies (Broken Memory) d h = absurd h

  pub attempt_all : (l b a : ℕ) (fates : List Fate) (x : Attempt) → Holds l b a x →
      Holds (l + losses fates) (b + busies fates) (a + acks_lost fates) (attempt_run plan naks sends answer cut fates x)
  attempt_all l b a [] x h = rw (add-zero l, add-zero b, add-zero a) h
  attempt_all l b a (f ∷ fates) x h =
      rw (← add_assoc l (lost f) (losses fates), ← add_assoc b (busy f) (busies fates), ← add_assoc a (ack_lost f) (acks_lost fates))
      (attempt_all (l + lost f) (b + busy f) (a + ack_lost f) fates (attempt_step plan naks sends answer cut f x.replies x.phase x.device)
      (attempt_keeps l b a f x.replies x.phase x.device h))

-- an attempt is sound over every list of fates
pub attempts_sound : AttemptsAreSound
attempts_sound plan naks sends answer cut loose all last d fates f =
    simp zero-add at (attempt_all plan naks sends answer cut loose all last 0 0 0 fates (proceed plan naks [] d)
    (next_begins plan naks sends answer cut loose all last 0 0 0 d.state [] all d refl f))

-- a plan that a device answers is followed
module _ (plan : List Reply → Plan) (naks : ℕ) (sends : List Reply → List ℕ) (answer : State → SetupPacket → Outcome) (cut : ℕ) (loose : Bool) (all : List Reply) (last : State) where
  -- a SET_ADDRESS that comes last is reported
  moves_last : (replies todo : List Reply) (r : Reply) (address packet : ℕ) (q : SetupPacket) → plan replies ≡ Begin address packet q →
      (is_moved_last plan replies (r ∷ todo) ≡ true → loose ≡ true) → is_set_address q ≡ true → todo ≡ [] → loose ≡ true
  moves_last replies [] r address packet q begins report is none = report (ap is_moving begins ∙ is)
  moves_last replies (x ∷ todo) r address packet q begins report is none =
      absurd (let longer : suc (length todo) ≡ 0 = ap length none in omega arith)

  tells_on : (replies todo : List Reply) (r : Reply) → (is_moved_last plan replies (r ∷ todo) ≡ true → loose ≡ true) →
      is_moved_last plan (replies ++ r ∷ []) todo ≡ true → loose ≡ true
  tells_on replies [] r report is = absurd (grind arith)
  tells_on replies (x ∷ todo) r report is = report is

  pub answers_follow : (s : State) (replies todo : List Reply) → Answers plan naks sends answer cut last replies s todo → replies ++ todo ≡ all →
      (is_moved_last plan replies todo ≡ true → loose ≡ true) → Follows plan naks sends answer cut loose all last s replies todo
  answers_follow s replies [] (success, end) whole report = (success, end, sym (append-nil replies) ∙ whole)
  answers_follow s replies (r ∷ todo) (packet, q, planned, more) whole report = (
    packet,
    (
      q,
      (
        planned,
        whole,
        moves_last replies todo r s.address packet q planned.begins report,
        answers_follow (carried_out s (answer s q)) (replies ++ r ∷ []) todo more (rw append_assoc whole) (tells_on replies todo r report),
      ),
    ),
  )

-- what a sound attempt says where it has ended
module _ (plan : List Reply → Plan) (naks : ℕ) (sends : List Reply → List ℕ) (answer : State → SetupPacket → Outcome) (cut : ℕ) (loose : Bool) (all : List Reply) (last : State) (used : List Fate) where
  first_by : (replies todo : List Reply) → replies ++ todo ≡ all → replies ≡ take (length replies) all
  first_by replies todo e = rw (← e) (sym (take_at replies todo (length replies) refl))

  pub sound_ends : (replies : List Reply) (phase : Phase) (d : DeviceView) →
      Sound plan naks sends answer cut loose all last (losses used) (busies used) (acks_lost used) replies phase d →
      AttemptEnds naks used loose all last replies phase d.state
  sound_ends replies (Running h) d s = tt
  sound_ends replies Succeeded d s = (s.0, elim s.1 [ inl e ↦ inl e | inr (z, ok, e) ↦ inr (ok, z, e) ])
  sound_ends replies (Broken NoAnswer) d s = (first_by replies s.1.0 s.1.1, s.0)
  sound_ends replies (Broken Busy) d s = (first_by replies s.1.0 s.1.1, s.0)
  sound_ends replies (Broken Stalled) d s = absurd s
  sound_ends replies (Broken TooLong) d s = absurd s
  sound_ends replies (Broken Unexpected) d s = absurd s
  sound_ends replies (Broken Malformed) d s = absurd s
  sound_ends replies (Broken Memory) d s = absurd s
