-- In a write that completed all data have come to the device.
use Rattle.std.proofs.Common.{◌≡◌, ℕ, suc, ◌+◌, ◌-◌, ◌<◌, ◌≤◌, ◌==◌, ◌⊎◌, inl, inr, not, Bool, true, false, if◌then◌else◌, List, [], ◌∷◌, ◌++◌, length, Option, Some, None, refl, ap, sym, ◌∙◌, subst, arith}
use Rattle.std.specs.Prelude.{min, nat_lt}
use Rattle.std.proofs.lemmas.Bool.Decides.{nat_tests}
use Rattle.usb_fields.specs.declared.packet.Toggle.{Toggle}
use Rattle.usb_fields.specs.declared.setup.Setup.{Setup as SetupPacket}
use Rattle.usb_fields.specs.Setup.{setup_bytes, setup_of}
use Rattle.usb_fields.specs.Packets.{Token, SetupToken, OutToken, Sent, Reply, AckReply, NakReply, StallReply, DataReply, NoReply, is_same_toggle}
use Rattle.usb_host.specs.declared.why.Why.TheVariants as whys
use Rattle.usb_host.specs.Transfer.{TransferView, Taken, Goes, addressed, due_of, failed, packet_due, stage_after_setup, token_due}
use Rattle.usb_host.specs.declared.transfer.TransferStage.{TransferStage}
use Rattle.usb_host.specs.declared.transfer.TransferStage.TheVariants.{Setup, DataIn, DataOut, StatusOut, StatusIn, Completed, Failed}
use Rattle.usb_device.specs.declared.state.State.{State}
use Rattle.usb_device.specs.Requests.{Outcome, Bytes, Done, Refused, Takes}
use Rattle.usb_device.specs.Step.{DeviceStage, DeviceView, Served, acked, awaited, begun, completed, gathered, received, replies, served, served_here, served_out, stalls}
use Rattle.usb_device.specs.Step as device
use Rattle.usb_bus.specs.declared.fate.Fate.{Fate}
use Rattle.usb_bus.specs.declared.fate.Fate.TheVariants.{Pass, Busy, LostDown, LostUp, LostAck}
use Rattle.usb_bus.specs.Bus.{lost, busy, ack_lost, Ends, acknowledged, carried, exchanged, has_data, receives_reply, is_data, readiness, run_of, step_of, taken_by}
use Rattle.usb_bus.specs.Beside.{IsAnswering, SizesAlike}
use Rattle.usb_bus.specs.Attempt.{begins}
use Rattle.usb_bus.specs.Together.{Stages, AreInStages}
use Rattle.usb_bus.specs.Arrivals.{WritesComeOnce, arrival, arrival_at, arrival_in, arrivals, awaits_data}
use Rattle.usb_bus.specs.inside.Sound.{IsCut}
use Rattle.usb_bus.proofs.ArrivalLemmas.{most}
use Rattle.usb_bus.proofs.Cutting.{alike_cut}
use Rattle.usb_bus.proofs.Keeps.{stands}
use Rattle.usb_bus.proofs.OtherStages.{setup_of-setup_bytes, stage_after_setup-out}

-- ---- the host

-- as often as all data have to come yet, for the transfer to complete
abbrev needed : TransferStage → DeviceStage → ℕ
needed Setup at = 1
needed DataOut (device.Receiving q got) = 1
needed stage at = 0

-- a transfer that has failed, or whose data stage the device refuses by now
abbrev IsDoomed : TransferStage → DeviceStage → Type 0
IsDoomed (Failed why) at = Unit {0}
IsDoomed DataOut (device.Halted refused) = Unit {0}
IsDoomed stage at = ⊥

abbrev is_ack : Reply → Bool
is_ack AckReply = true
is_ack reply = false

module _ (sends : Bool) (t : TransferView) (at : t.stage ≡ DataOut) (refused : Option SetupPacket) where
  abbrev Dooms : TransferStage → Type 0
  Dooms stage = IsDoomed stage (device.Halted refused)

  -- without an ACK the data stage doesn't go on
  dooms : (reply : Reply) → is_ack reply ≡ false → Dooms (taken_by sends t DataOut reply).transfer.stage
  dooms AckReply e = absurd (cc)
  dooms StallReply e = tt
  dooms (DataReply toggle bytes) e = tt
  dooms NakReply e = by_naks (nat_lt t.nak_count t.naks)
    where
      by_naks : (few : Bool) → (let x : Taken = if few then record { received = Goes; transfer = record t { nak_count = suc t.nak_count } } else failed t whys.Busy in Dooms x.transfer.stage)
      by_naks true = subst (λ s. Dooms s) (sym at) tt
      by_naks false = tt
  dooms NoReply e = by_strikes (nat_lt t.strikes 2)
    where
      by_strikes : (few : Bool) → (let x : Taken = if few then record { received = Goes; transfer = record t { strikes = suc t.strikes } } else failed t whys.NoAnswer in Dooms x.transfer.stage)
      by_strikes true = subst (λ s. Dooms s) (sym at) tt
      by_strikes false = tt

abbrev is_completed : TransferStage → Bool
is_completed Completed = true
is_completed stage = false

-- no data packet to the device completes a transfer
not_completed : (sends : Bool) (t : TransferView) (reply : Reply) → t.stage ≡ DataOut → is_completed (taken_by sends t DataOut reply).transfer.stage ≡ false
not_completed true t reply e = grind (arith, nat_tests)
not_completed false t reply e = grind (arith, nat_tests)

-- ---- the device

abbrev is_halted : DeviceStage → Bool
is_halted (device.Halted refused) = true
is_halted stage = false

completed_awaits : (q : SetupPacket) (o : Outcome) (got : List ℕ) → awaits_data (completed q o got) ≡ false
completed_awaits q (Bytes b) got = refl
completed_awaits q (Done next) got = refl
completed_awaits q Refused got = refl
completed_awaits q (Takes judge) got = by_judge (judge got)
  where
    by_judge : (good : Bool) → awaits_data (if good then device.StatusIn q false else device.Halted None) ≡ false
    by_judge true = refl
    by_judge false = refl

-- What an OUT does where data are awaited: it brings the last, or more are awaited, or the device refuses.
abbrev Goes_on : Token → DeviceStage → Served → Type 0
Goes_on token before r =
    (arrival token before r.reply r.device.stage ≡ 1) ⊎ ((awaits_data r.device.stage ≡ true) × (is_data r.reply ≡ false))
    ⊎ ((is_halted r.device.stage ≡ true) × (is_ack r.reply ≡ false) × (is_data r.reply ≡ false))

module _ (answer : State → SetupPacket → Outcome) (packet : ℕ) where
  module _ (s : State) (q : SetupPacket) (got : List ℕ) (toggle : Toggle) (bytes : List ℕ) where
    abbrev Receives : Served → Type 0
    Receives r = Goes_on (OutToken toggle bytes) (device.Receiving q got) r

    by_all : (all : Bool) (o : Outcome) (more : List ℕ) → Receives (replies AckReply s (if all then completed q o more else device.Receiving q more) false)
    by_all true o more = inl (rw (completed_awaits q o more) refl)
    by_all false o more = inr (inl (refl, refl))

    by_right : (other right : Bool) → Receives (if other then replies AckReply s (device.Receiving q got) false
        else if right then replies AckReply s (gathered q (answer s q) (got ++ bytes)) false else stalls s)
    by_right true right = inr (inl (refl, refl))
    by_right false true = by_all (length (got ++ bytes) == q.length) (answer s q) (got ++ bytes)
    by_right false false = inr (inr (refl, refl, refl))

    receives : Receives (received packet s q (answer s q) got toggle bytes)
    receives = by_right (not (is_same_toggle toggle (awaited packet (length got)))) (length bytes == min packet (q.length - length got))

  module _ (d : DeviceView) (q : SetupPacket) (got : List ℕ) (here : d.stage ≡ device.Receiving q got) (address : ℕ) (toggle : Toggle) (bytes : List ℕ) where
    abbrev sent : Sent
    sent = record { address = address; token = OutToken toggle bytes }

    -- a device that isn't ready, or isn't there
    stays_awaiting : (reply : Reply) → is_data reply ≡ false → Goes_on (OutToken toggle bytes) d.stage (replies reply d.state d.stage false)
    stays_awaiting reply e = inr (inl (ap awaits_data here, e))

    serves : (ready : Bool) → Goes_on (OutToken toggle bytes) d.stage (served answer packet d sent ready)
    serves ready = by_address ready (address == d.state.address)
      where
        by_address : (ready there : Bool) → Goes_on (OutToken toggle bytes) d.stage (if there then served_here answer packet d (OutToken toggle bytes) ready else replies NoReply d.state d.stage false)
        by_address ready false = stays_awaiting NoReply refl
        by_address false true = stays_awaiting NakReply refl
        by_address true true =
            subst (λ st. Goes_on (OutToken toggle bytes) st (served_out answer packet d.state st toggle bytes)) (sym here) (receives d.state q got toggle bytes)

    -- what is left of it by its fate
    abbrev IsLeft : Served → Served → Type 0
    IsLeft r c =
        (arrival (OutToken toggle bytes) d.stage r.reply r.device.stage ≡ 1) ⊎ (awaits_data c.device.stage ≡ true) ⊎ ((is_halted c.device.stage ≡ true) × (is_ack c.reply ≡ false))

    no_ack : (r : Served) → is_data r.reply ≡ false → acknowledged answer packet Pass r ≡ r
    no_ack r e = ap (λ b. record { reply = r.reply; device = if b then acked answer packet r.device else r.device }) e

    after_ack : (r : Served) → Goes_on (OutToken toggle bytes) d.stage r → IsLeft r (acknowledged answer packet Pass r)
    after_ack r (inl one) = inl one
    after_ack r (inr (inl (more, none))) = inr (inl (ap (λ c. awaits_data c.device.stage) (no_ack r none) ∙ more))
    after_ack r (inr (inr (halts, other, none))) = inr (inr (ap (λ c. is_halted c.device.stage) (no_ack r none) ∙ halts, other))

    after_loss : (r : Served) → Goes_on (OutToken toggle bytes) d.stage r → IsLeft r (record { reply = NoReply; device = r.device })
    after_loss r (inl one) = inl one
    after_loss r (inr (inl (more, none))) = inr (inl more)
    after_loss r (inr (inr (halts, other, none))) = inr (inr (halts, refl))

    after_all : (r : Served) → Goes_on (OutToken toggle bytes) d.stage r → IsLeft r r
    after_all r (inl one) = inl one
    after_all r (inr (inl (more, none))) = inr (inl more)
    after_all r (inr (inr (halts, other, none))) = inr (inr (halts, other))

    carries : (fate : Fate) →
        (let c = carried answer packet d sent fate in
        (arrival_at answer packet d sent (readiness fate) ≡ 1) ⊎ (awaits_data c.device.stage ≡ true) ⊎ ((is_halted c.device.stage ≡ true) × (is_ack c.reply ≡ false)))
    carries Pass = after_ack (served answer packet d sent true) (serves true)
    carries Busy = after_ack (served answer packet d sent false) (serves false)
    carries LostDown = inr (inl (ap awaits_data here))
    carries LostUp = after_loss (served answer packet d sent true) (serves true)
    carries LostAck = after_all (served answer packet d sent true) (serves true)

  -- ---- both ends

  module _ (bytes : List ℕ) where
    abbrev next : Fate → Ends → Ends
    next fate e = step_of answer packet bytes fate e

    abbrev Dooms_of : Ends → Type 0
    Dooms_of e = IsDoomed e.host.transfer.stage e.device.stage

    -- a device that refuses goes on refusing
    module _ (d : DeviceView) (refused : Option SetupPacket) (here : d.stage ≡ device.Halted refused) (address : ℕ) (toggle : Toggle) (b : List ℕ) where
      abbrev sent_out : Sent
      sent_out = record { address = address; token = OutToken toggle b }

      abbrev Halts : Served → Type 0
      Halts r = (is_halted r.device.stage ≡ true) × (is_ack r.reply ≡ false)

      halts_at : (ready there : Bool) →
          (let r : Served = if there then served_here answer packet d (OutToken toggle b) ready else replies NoReply d.state d.stage false in
          Halts r × (is_data r.reply ≡ false))
      halts_at ready false = ((ap is_halted here, refl), refl)
      halts_at false true = ((ap is_halted here, refl), refl)
      halts_at true true =
          subst (λ st. (let r : Served = served_out answer packet d.state st toggle b in Halts r × (is_data r.reply ≡ false))) (sym here) ((refl, refl), refl)

      halts_acked : (r : Served) → Halts r → is_data r.reply ≡ false → Halts (acknowledged answer packet Pass r)
      halts_acked r h none = (ap (λ b. is_halted (if b then acked answer packet r.device else r.device).stage) none ∙ h.0, h.1)

      halts_on : (fate : Fate) → Halts (carried answer packet d sent_out fate)
      halts_on Pass = (let h = halts_at true (address == d.state.address) in halts_acked (served answer packet d sent_out true) h.0 h.1)
      halts_on Busy = (let h = halts_at false (address == d.state.address) in halts_acked (served answer packet d sent_out false) h.0 h.1)
      halts_on LostDown = (ap is_halted here, refl)
      halts_on LostUp = ((halts_at true (address == d.state.address)).0.0, refl)
      halts_on LostAck = (halts_at true (address == d.state.address)).0

    -- so the transfer doesn't complete
    halts_doomed : (stage : TransferStage) (at : DeviceStage) → is_halted at ≡ true → IsDoomed stage (device.Halted None) → IsDoomed stage at
    halts_doomed (Failed why) at h d = tt
    halts_doomed DataOut (device.Halted refused) h d = tt
    halts_doomed DataOut device.Idle h d = absurd (cc)
    halts_doomed DataOut (device.Sending q b k) h d = absurd (cc)
    halts_doomed DataOut (device.StatusOut q) h d = absurd (cc)
    halts_doomed DataOut device.Over h d = absurd (cc)
    halts_doomed DataOut (device.StatusIn q c) h d = absurd (cc)
    halts_doomed DataOut (device.Receiving q c) h d = absurd (cc)
    halts_doomed DataOut (device.Written q c) h d = absurd (cc)
    halts_doomed Setup at h d = absurd d
    halts_doomed DataIn at h d = absurd d
    halts_doomed StatusOut at h d = absurd d
    halts_doomed StatusIn at h d = absurd d
    halts_doomed Completed at h d = absurd d

    abbrev out_of : Ends → Sent
    out_of e = record { address = e.host.transfer.address; token = OutToken e.host.transfer.awaited (packet_due e.host.transfer bytes) }

    out_due : (e : Ends) → e.host.transfer.stage ≡ DataOut → due_of e.host.transfer bytes ≡ Some (out_of e)
    out_due e at = ap (λ st. addressed e.host.transfer.address (token_due e.host.transfer bytes st)) at

    -- what the host makes of a refusal in the data stage
    refusal_dooms : (e : Ends) (c : Served) → e.host.transfer.stage ≡ DataOut → is_halted c.device.stage ≡ true → is_ack c.reply ≡ false →
        IsDoomed (receives_reply (has_data bytes) e.host c.reply).transfer.stage c.device.stage
    refusal_dooms e c at halts other =
        halts_doomed (receives_reply (has_data bytes) e.host c.reply).transfer.stage c.device.stage halts
        (subst (λ st. IsDoomed (taken_by (has_data bytes) e.host.transfer st c.reply).transfer.stage (device.Halted None)) (sym at) (dooms (has_data bytes) e.host.transfer at None c.reply other))

    after_out : (fate : Fate) (e : Ends) → e.host.transfer.stage ≡ DataOut →
        (let c = carried answer packet e.device (out_of e) fate in next fate e ≡ record { host = receives_reply (has_data bytes) e.host c.reply; device = c.device })
    after_out fate e at = ap (λ o. exchanged answer packet (has_data bytes) e.host e.device o fate) (out_due e at)

    doomed_on : (fate : Fate) (e : Ends) (stage : TransferStage) (at : DeviceStage) → e.host.transfer.stage ≡ stage → e.device.stage ≡ at → IsDoomed stage at → Dooms_of (next fate e)
    doomed_on fate e (Failed why) at is here d =
        let none : due_of e.host.transfer bytes ≡ None = ap (λ st. addressed e.host.transfer.address (token_due e.host.transfer bytes st)) is in
        let same : next fate e ≡ e = ap (λ o. exchanged answer packet (has_data bytes) e.host e.device o fate) none in
        subst (λ x. Dooms_of x) (sym same) (subst (λ st. IsDoomed st e.device.stage) (sym is) tt)
    doomed_on fate e DataOut (device.Halted refused) is here d =
        let h = halts_on e.device refused here e.host.transfer.address e.host.transfer.awaited (packet_due e.host.transfer bytes) fate in
        subst (λ x. Dooms_of x) (sym (after_out fate e is)) (refusal_dooms e (carried answer packet e.device (out_of e) fate) is h.0 h.1)
    doomed_on fate e DataOut device.Idle is here d = absurd d
    doomed_on fate e DataOut (device.Sending q b k) is here d = absurd d
    doomed_on fate e DataOut (device.StatusOut q) is here d = absurd d
    doomed_on fate e DataOut device.Over is here d = absurd d
    doomed_on fate e DataOut (device.StatusIn q c) is here d = absurd d
    doomed_on fate e DataOut (device.Receiving q c) is here d = absurd d
    doomed_on fate e DataOut (device.Written q c) is here d = absurd d
    doomed_on fate e Setup at is here d = absurd d
    doomed_on fate e DataIn at is here d = absurd d
    doomed_on fate e StatusOut at is here d = absurd d
    doomed_on fate e StatusIn at is here d = absurd d
    doomed_on fate e Completed at is here d = absurd d

    never_completes : (fates : List Fate) (e : Ends) → Dooms_of e → (run_of answer packet bytes fates e).host.transfer.stage ≡ Completed → ⊥
    never_completes [] e d is = subst (λ st. IsDoomed st e.device.stage) is d
    never_completes (f ∷ fates) e d is = never_completes fates (next f e) (doomed_on f e e.host.transfer.stage e.device.stage refl refl d) is

    -- ---- in one transfer of a write

    module _ (s : State) (q : SetupPacket) (size naks : ℕ) (w : IsAnswering answer s q) (cuts : (b : List ℕ) → answer s q ≡ Bytes b → IsCut packet size q.length b)
        (sizes : (judge : List ℕ → Bool) → answer s q ≡ Takes judge → SizesAlike packet size) (judge : List ℕ → Bool) (takes : answer s q ≡ Takes judge) where
      abbrev One : ℕ → ℕ → ℕ → Ends → Type 0
      One l b a e = AreInStages answer packet s q size naks bytes l b a e.host e.device

      abbrev Steps : Fate → Ends → Type 0
      Steps fate e =
          (needed e.host.transfer.stage e.device.stage ≤ arrival_in answer packet e.device (due_of e.host.transfer bytes) fate + needed (next fate e).host.transfer.stage (next fate e).device.stage)
          ⊎ Dooms_of (next fate e)

      there : (l b a : ℕ) (e : Ends) (stage : TransferStage) (r : SetupPacket) (got : List ℕ) → e.host.transfer.stage ≡ stage → e.device.stage ≡ device.Receiving r got → One l b a e →
          Stages answer packet s q size naks bytes l b a stage (device.Receiving r got) e.host.transfer.awaited e.host.got e.host.transfer.kept e.host.transfer.strikes e.device.state
      there l b a e stage r got is here c =
          subst (λ x. Stages answer packet s q size naks bytes l b a stage x e.host.transfer.awaited e.host.got e.host.transfer.kept e.host.transfer.strikes e.device.state) here
          (subst (λ st. Stages answer packet s q size naks bytes l b a st e.device.stage e.host.transfer.awaited e.host.got e.host.transfer.kept e.host.transfer.strikes e.device.state) is c.stages)

      -- data that are awaited after an OUT are needed yet
      needed_on : (l b a : ℕ) (e : Ends) (stage : TransferStage) (at : DeviceStage) → e.host.transfer.stage ≡ stage → e.device.stage ≡ at → is_completed stage ≡ false → awaits_data at ≡ true →
          One l b a e → (needed stage at ≡ 1) ⊎ IsDoomed stage at
      needed_on l b a e Setup (device.Receiving r got) is here other more c = inl refl
      needed_on l b a e DataOut (device.Receiving r got) is here other more c = inl refl
      needed_on l b a e (Failed why) (device.Receiving r got) is here other more c = inr tt
      needed_on l b a e Completed (device.Receiving r got) is here other more c = absurd (cc)
      needed_on l b a e DataIn (device.Receiving r got) is here other more c = absurd (there l b a e DataIn r got is here c)
      needed_on l b a e StatusOut (device.Receiving r got) is here other more c = absurd (there l b a e StatusOut r got is here c)
      needed_on l b a e StatusIn (device.Receiving r got) is here other more c = absurd (there l b a e StatusIn r got is here c)
      needed_on l b a e stage device.Idle is here other more c = absurd (cc)
      needed_on l b a e stage (device.Halted refused) is here other more c = absurd (cc)
      needed_on l b a e stage (device.Sending r x k) is here other more c = absurd (cc)
      needed_on l b a e stage (device.StatusOut r) is here other more c = absurd (cc)
      needed_on l b a e stage device.Over is here other more c = absurd (cc)
      needed_on l b a e stage (device.StatusIn r x) is here other more c = absurd (cc)
      needed_on l b a e stage (device.Written r x) is here other more c = absurd (cc)

      kept_on : (l b a : ℕ) (fate : Fate) (e : Ends) → One l b a e → One (l + lost fate) (b + busy fate) (a + ack_lost fate) (next fate e)
      kept_on l b a fate e c = stands answer packet s q size naks bytes w cuts sizes l b a fate e c

      -- in the data stage
      module _ (l b a : ℕ) (fate : Fate) (e : Ends) (r : SetupPacket) (got : List ℕ) (is : e.host.transfer.stage ≡ DataOut) (here : e.device.stage ≡ device.Receiving r got)
          (c : One l b a e) where
        abbrev came : Served
        came = carried answer packet e.device (out_of e) fate

        abbrev after : Ends
        after = record { host = receives_reply (has_data bytes) e.host came.reply; device = came.device }

        one_here : needed e.host.transfer.stage e.device.stage ≡ 1
        one_here = ap (λ st. needed st e.device.stage) is ∙ ap (λ x. needed DataOut x) here

        due_is : arrival_in answer packet e.device (due_of e.host.transfer bytes) fate ≡ arrival_at answer packet e.device (out_of e) (readiness fate)
        due_is = ap (λ o. arrival_in answer packet e.device o fate) (out_due e is)

        goes : is_completed after.host.transfer.stage ≡ false
        goes = subst (λ st. is_completed (taken_by (has_data bytes) e.host.transfer st came.reply).transfer.stage ≡ false) (sym is) (not_completed (has_data bytes) e.host.transfer came.reply is)

        one_after : One (l + lost fate) (b + busy fate) (a + ack_lost fate) after
        one_after = subst (λ x. One (l + lost fate) (b + busy fate) (a + ack_lost fate) x) (after_out fate e is) (kept_on l b a fate e c)

        out_need : (needed after.host.transfer.stage after.device.stage ≡ 1) ⊎ IsDoomed after.host.transfer.stage after.device.stage → Steps fate e
        out_need (inl one) =
            inl (let here_one = one_here in
            let there_one : needed (next fate e).host.transfer.stage (next fate e).device.stage ≡ 1 = ap (λ x. needed x.host.transfer.stage x.device.stage) (after_out fate e is) ∙ one in omega arith)
        out_need (inr doomed) = inr (subst (λ x. Dooms_of x) (sym (after_out fate e is)) doomed)

        out_case : (arrival_at answer packet e.device (out_of e) (readiness fate) ≡ 1) ⊎ (awaits_data came.device.stage ≡ true) ⊎ ((is_halted came.device.stage ≡ true) × (is_ack came.reply ≡ false)) → Steps fate e
        out_case (inl one) = inl (let here_one = one_here in let n = due_is ∙ one in omega arith)
        out_case (inr (inl more)) =
            out_need (needed_on (l + lost fate) (b + busy fate) (a + ack_lost fate) after after.host.transfer.stage after.device.stage refl refl goes more one_after)
        out_case (inr (inr (halts, other))) = inr (subst (λ x. Dooms_of x) (sym (after_out fate e is)) (refusal_dooms e came is halts other))

        in_data : Steps fate e
        in_data = out_case (carries e.device r got here e.host.transfer.address e.host.transfer.awaited (packet_due e.host.transfer bytes) fate)

      -- at the SETUP
      module _ (l b a : ℕ) (fate : Fate) (e : Ends) (is : e.host.transfer.stage ≡ Setup) (c : One l b a e) where
        abbrev setup_sent : Sent
        setup_sent = record { address = e.host.transfer.address; token = SetupToken (setup_bytes e.host.transfer.request) }

        setup_due : due_of e.host.transfer bytes ≡ Some setup_sent
        setup_due = ap (λ st. addressed e.host.transfer.address (token_due e.host.transfer bytes st)) is

        in_state : e.device.state ≡ s
        in_state = (subst (λ st. Stages answer packet s q size naks bytes l b a st e.device.stage e.host.transfer.awaited e.host.got e.host.transfer.kept e.host.transfer.strikes e.device.state) is c.stages).0

        abbrev Needs : Served → Type 0
        Needs r = (needed (receives_reply (has_data bytes) e.host r.reply).transfer.stage r.device.stage ≡ 1) ⊎ IsDoomed (receives_reply (has_data bytes) e.host r.reply).transfer.stage r.device.stage

        asks : (0 < q.length) × (stage_after_setup q ≡ DataOut)
        asks = (let o = w.takes judge takes in (o.0, stage_after_setup-out q o.0 o.1))

        begins_write : begun (setup_of (setup_bytes e.host.transfer.request)) (answer e.device.state (setup_of (setup_bytes e.host.transfer.request))) ≡ device.Receiving q []
        begins_write =
            ap (λ x. begun x (answer e.device.state x)) (setup_of-setup_bytes e.host.transfer.request ∙ c.request)
            ∙ ap (λ x. begun q (answer x q)) in_state ∙ ap (begun q) takes

        -- an ACK of it that is received
        begins_data : (stage : DeviceStage) → stage ≡ device.Receiving q [] → needed (receives_reply (has_data bytes) e.host AckReply).transfer.stage stage ≡ 1
        begins_data stage i =
            ap (λ x. needed (taken_by (has_data bytes) e.host.transfer x AckReply).transfer.stage stage) is
            ∙ ap (λ x. needed (stage_after_setup x) stage) c.request ∙ ap (λ x. needed x stage) asks.1 ∙ ap (λ x. needed DataOut x) i

        abbrev struck_to : Bool → TransferStage
        struck_to few =
            let x : Taken = if few then record { received = Goes; transfer = record e.host.transfer { strikes = suc e.host.transfer.strikes } } else failed e.host.transfer whys.NoAnswer in x.transfer.stage

        by_strikes : (few : Bool) (stage : DeviceStage) → (needed (struck_to few) stage ≡ 1) ⊎ IsDoomed (struck_to few) stage
        by_strikes true stage = inl (ap (λ st. needed st stage) is)
        by_strikes false stage = inr tt

        silent : (stage : DeviceStage) → (needed (receives_reply (has_data bytes) e.host NoReply).transfer.stage stage ≡ 1) ⊎ IsDoomed (receives_reply (has_data bytes) e.host NoReply).transfer.stage stage
        silent stage =
            subst (λ st. (needed (taken_by (has_data bytes) e.host.transfer st NoReply).transfer.stage stage ≡ 1) ⊎ IsDoomed (taken_by (has_data bytes) e.host.transfer st NoReply).transfer.stage stage) (sym is)
            (by_strikes (nat_lt e.host.transfer.strikes 2) stage)

        setup_at : (ready there : Bool) →
            (let r : Served = if there then served_here answer packet e.device setup_sent.token ready else replies NoReply e.device.state e.device.stage false in Needs r × (is_data r.reply ≡ false))
        setup_at ready true = (inl (begins_data _ begins_write), refl)
        setup_at ready false = (silent e.device.stage, refl)

        setup_acked : (r : Served) → Needs r → is_data r.reply ≡ false → Needs (acknowledged answer packet Pass r)
        setup_acked r n none = subst (λ x. Needs x) (sym (ap (λ b. record { reply = r.reply; device = if b then acked answer packet r.device else r.device }) none)) n

        setup_needs : (fate : Fate) → Needs (carried answer packet e.device setup_sent fate)
        setup_needs Pass = (let h = setup_at true (e.host.transfer.address == e.device.state.address) in setup_acked (served answer packet e.device setup_sent true) h.0 h.1)
        setup_needs Busy = (let h = setup_at false (e.host.transfer.address == e.device.state.address) in setup_acked (served answer packet e.device setup_sent false) h.0 h.1)
        setup_needs LostDown = silent e.device.stage
        setup_needs LostUp = silent (served answer packet e.device setup_sent true).device.stage
        setup_needs LostAck = (setup_at true (e.host.transfer.address == e.device.state.address)).0

        after_setup : next fate e ≡ (let r = carried answer packet e.device setup_sent fate in record { host = receives_reply (has_data bytes) e.host r.reply; device = r.device })
        after_setup = ap (λ o. exchanged answer packet (has_data bytes) e.host e.device o fate) setup_due

        setup_one : needed e.host.transfer.stage e.device.stage ≡ 1
        setup_one = ap (λ st. needed st e.device.stage) is

        setup_need : Needs (carried answer packet e.device setup_sent fate) → Steps fate e
        setup_need (inl one) =
            inl (let here_one = setup_one in
            let there_one : needed (next fate e).host.transfer.stage (next fate e).device.stage ≡ 1 = ap (λ x. needed x.host.transfer.stage x.device.stage) after_setup ∙ one in omega arith)
        setup_need (inr doomed) = inr (subst (λ x. Dooms_of x) (sym after_setup) doomed)

        in_setup : Steps fate e
        in_setup = setup_need (setup_needs fate)

      none_needed : (fate : Fate) (e : Ends) (stage : TransferStage) (at : DeviceStage) → e.host.transfer.stage ≡ stage → e.device.stage ≡ at → needed stage at ≡ 0 → Steps fate e
      none_needed fate e stage at is here none =
          inl (let n : needed e.host.transfer.stage e.device.stage ≡ 0 = ap (λ st. needed st e.device.stage) is ∙ ap (λ x. needed stage x) here ∙ none in omega arith)

      steps : (l b a : ℕ) (fate : Fate) (e : Ends) (stage : TransferStage) (at : DeviceStage) → e.host.transfer.stage ≡ stage → e.device.stage ≡ at → One l b a e → Steps fate e
      steps l b a fate e Setup at is here c = in_setup l b a fate e is c
      steps l b a fate e DataOut (device.Receiving r got) is here c = in_data l b a fate e r got is here c
      steps l b a fate e DataOut device.Idle is here c = none_needed fate e DataOut device.Idle is here refl
      steps l b a fate e DataOut (device.Halted x) is here c = none_needed fate e DataOut (device.Halted x) is here refl
      steps l b a fate e DataOut (device.Sending r x k) is here c = none_needed fate e DataOut (device.Sending r x k) is here refl
      steps l b a fate e DataOut (device.StatusOut r) is here c = none_needed fate e DataOut (device.StatusOut r) is here refl
      steps l b a fate e DataOut device.Over is here c = none_needed fate e DataOut device.Over is here refl
      steps l b a fate e DataOut (device.StatusIn r x) is here c = none_needed fate e DataOut (device.StatusIn r x) is here refl
      steps l b a fate e DataOut (device.Written r x) is here c = none_needed fate e DataOut (device.Written r x) is here refl
      steps l b a fate e DataIn at is here c = none_needed fate e DataIn at is here refl
      steps l b a fate e StatusOut at is here c = none_needed fate e StatusOut at is here refl
      steps l b a fate e StatusIn at is here c = none_needed fate e StatusIn at is here refl
      steps l b a fate e Completed at is here c = none_needed fate e Completed at is here refl
      steps l b a fate e (Failed why) at is here c = none_needed fate e (Failed why) at is here refl

      at_least : (l b a : ℕ) (fates : List Fate) (e : Ends) → One l b a e → (run_of answer packet bytes fates e).host.transfer.stage ≡ Completed →
          needed e.host.transfer.stage e.device.stage ≤ arrivals answer packet bytes fates e
      at_least l b a [] e c is = (let none : needed e.host.transfer.stage e.device.stage ≡ 0 = ap (λ st. needed st e.device.stage) is in omega arith)
      at_least l b a (f ∷ fates) e c is =
          elim (steps l b a f e e.host.transfer.stage e.device.stage refl refl c) [
            | inl more ↦ (let rest = at_least (l + lost f) (b + busy f) (a + ack_lost f) fates (next f e) (kept_on l b a f e c) is in omega arith)
            | inr doomed ↦ absurd (never_completes fates (next f e) doomed is)
          ]

pub come_once : WritesComeOnce
come_once answer cut naks size q d bytes fates w alike sizes =
    let start : Ends = record { host = begins d.state.address size naks q; device = d } in
    let few : arrivals answer cut bytes fates start ≤ 1 = most answer cut bytes fates start in
    record {
      most = few;
      completed = λ judge takes is.
          (let some : 1 ≤ arrivals answer cut bytes fates start = at_least answer cut bytes d.state q size naks w (λ b i. alike_cut cut size q.length b (alike b i) (w.bytes b i).0) sizes judge takes 0 0 0 fates start
          (record {
            address = refl;
            request = refl;
            packet = refl;
            naks_are = refl;
            nak_count = omega arith;
            stages = (refl, refl, refl, refl, omega arith);
          }) is in omega arith);
    }
