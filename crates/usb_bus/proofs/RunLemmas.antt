-- A run of both ends is the image of attempts by a plan.
use Rattle.std.proofs.Common.{◌≡◌, ℕ, zero, suc, ◌<◌, ◌≤◌, Bool, true, false, if◌then◌else◌, nat_lt, List, [], ◌∷◌, ◌++◌, Option, Some, None, ◌⊎◌, inl, inr, refl, ap, sym, ◌∙◌, arith, subst}
use Rattle.std.proofs.lemmas.Bool.Decides.{nat_tests}
use Rattle.usb_fields.specs.Packets.{Sent, Reply as Answer}
use Rattle.usb_set.specs.declared.tree.Configuration.{Configuration}
use Rattle.usb_file_data.specs.declared.file.DescriptorFile.{DescriptorFile}
use Rattle.usb_host.specs.declared.choice.Terms.{Terms}
use Rattle.usb_host.specs.declared.why.Why.{Why}
use Rattle.usb_host.specs.declared.why.Why.TheVariants.{NoAnswer, Busy, Stalled, TooLong, Unexpected, Malformed, Memory}
use Rattle.usb_host.specs.declared.transfer.TransferStage.{TransferStage}
use Rattle.usb_host.specs.declared.transfer.TransferStage.TheVariants.{Setup, DataIn, DataOut, StatusOut, StatusIn, Completed, Failed as TheFailed}
use Rattle.usb_host.specs.declared.reply.Reply.{Reply}
use Rattle.usb_host.specs.Limits.{LimitView}
use Rattle.usb_host.specs.Plan.{Plan}
use Rattle.usb_host.specs.Transfer.{TransferView, due, taken}
use Rattle.usb_fields.specs.declared.setup.Setup.{Setup as SetupPacket}
use Rattle.usb_device.specs.declared.state.State.{State}
use Rattle.usb_device.specs.Requests.{Outcome}
use Rattle.usb_device.specs.Step.{DeviceView, new_device}
use Rattle.usb_bus.specs.declared.fate.Fate.{Fate}
use Rattle.usb_bus.specs.declared.fate.Fate.TheVariants.{Pass}
use Rattle.usb_bus.specs.Bus.{losses, busies, HostEnd, carried, exchanged, receives_reply}
use Rattle.usb_bus.specs.Attempt.{no_data, Phase, Running, Succeeded, Broken, Attempt, proceed, advance, attempt_step}
use Rattle.usb_bus.specs.Run.{fate_at, fates_used}
use Rattle.usb_host.specs.declared.step.Step.{Step}
use Rattle.usb_host.specs.declared.step.Trouble.{Trouble}
use Rattle.usb_host.specs.Place.{Place, First, Reported, Stopped}
use Rattle.usb_host.specs.Keeping.{Kept}
use Rattle.usb_host.specs.Order.{stopped}
use Rattle.usb_host.specs.Gathered.{reached}
use Rattle.usb_host.specs.Steps.{HostPhase, ResetDue, Reading, Ended, HostView, WantsReset, WantsSent, wanted, sends, enter, settled, blames_bus, terms_of, TakesReceived, TakesIn}
use Rattle.usb_bus.specs.Asked.{asked_of}
use Rattle.usb_bus.specs.Enumerate.{brings, chosen_pair, configured_state, ends_received, Pair, IsReset, IsTransactionAt, RunsAt}
use Rattle.usb_host.proofs.AskingLemmas.{wants_reset, reset_is}
use Rattle.usb_bus.specs.Series.{Series, fresh, settle, series_step, series_run}
use Rattle.usb_bus.specs.inside.Laws.{Verdict}
use Rattle.usb_bus.specs.inside.Image.{passed_over, plan_of, IsImage, StaysImage}
use Rattle.usb_bus.specs.inside.Running.{PlaceEndsWell, GoesWell}
use Rattle.usb_bus.proofs.ReceivedLemmas.{wanting_received}

-- one transaction more
fates_used-more : (fates : List Fate) (n : ℕ) → fates_used fates (suc n) ≡ fates_used fates n ++ fate_at fates n ∷ []
fates_used-more [] zero = refl
fates_used-more (f ∷ fates) zero = refl
fates_used-more [] (suc n) = ap (λ fs. Pass ∷ fs) (fates_used-more [] n)
fates_used-more (f ∷ fates) (suc n) = ap (λ fs. f ∷ fs) (fates_used-more fates n)

-- what is sent comes next
pub comes_next : (o : Option Sent) (sent : Sent) → sends o ≡ WantsSent sent → o ≡ Some sent
comes_next None sent e = absurd (cc)
comes_next (Some other) sent e = cc

ends_with : (fates : List Fate) (fate : Fate) → ends_received (fates ++ fate ∷ []) ≡ brings fate
ends_with [] fate = refl
ends_with (f ∷ []) fate = refl
ends_with (f ∷ g ∷ fates) fate = ends_with (g ∷ fates) fate

last_received : (fates : List Fate) (m n : ℕ) → n ≡ suc m → brings (fate_at fates m) ≡ true → ends_received (fates_used fates n) ≡ true
last_received fates m n count arrived =
    ap (λ k. ends_received (fates_used fates k)) count ∙ ap ends_received (fates_used-more fates m) ∙ ends_with (fates_used fates m) (fate_at fates m) ∙ arrived

module _ (set_of : List ℕ → Option Configuration) (limits : LimitView) (terms : Terms) where
  abbrev pub plan : List Reply → Plan
  plan replies = plan_of set_of limits terms replies

  abbrev pub Image : List Reply → Phase → HostPhase → Type 0
  Image replies p phase = IsImage set_of limits terms replies p phase

  abbrev pub begin : ℕ → Series
  begin attempts = fresh plan limits.naks limits.attempts attempts

  -- an attempt that goes on, or has ended, and what was passed over in it
  abbrev pub Stands : ℕ → HostPhase → DeviceView → List Trouble → Series → Type 0
  Stands resets phase d forgiven x =
      (resets ≤ limits.attempts) × (x.attempts ≡ resets) × Image x.attempt.replies x.attempt.phase phase × (x.attempt.device ≡ d)
      × (forgiven ≡ passed_over set_of terms First x.attempt.replies)

  -- how both ends stand against the attempts of a plan
  abbrev pub Matches : ℕ → HostPhase → DeviceView → List Trouble → Series → Type 0
  Matches resets ResetDue d forgiven x = (resets < limits.attempts) × (x ≡ begin (suc resets))
  Matches resets (Reading place t k) d forgiven x = Stands resets (Reading place t k) d forgiven x
  Matches resets (Ended place) d forgiven x = Stands resets (Ended place) d forgiven x

  pub record Follows (y : Pair) (x : Series) : Type 0 where
    pub limits_are : y.host.limits ≡ limits
    pub speed_is : y.host.speed ≡ terms.speed
    pub choice_is : y.host.choice ≡ terms.choice
    pub matches : Matches y.host.resets y.host.phase y.device y.host.forgiven x

  -- or memory was wanting
  abbrev pub IsWanting : HostView → Type 0
  IsWanting v = (place : Place) × (v.phase ≡ Ended (stopped place Memory))

  -- an attempt that failed by the bus
  module _ (attempts : ℕ) (y : Attempt) (d : DeviceView) (forgiven : List Trouble) (few : attempts ≤ limits.attempts) (device : y.device ≡ d)
      (passed : forgiven ≡ passed_over set_of terms First y.replies) where
    agains_match : (trouble : Trouble) (small : Bool) → nat_lt attempts limits.attempts ≡ small → y.phase ≡ Broken trouble.why →
        Matches attempts (if small then ResetDue else Ended (Stopped trouble)) d forgiven
        (if small then begin (suc attempts) else record { attempts = attempts; attempt = y })
    agains_match trouble true e p = (let below : attempts < limits.attempts = grind (arith, nat_tests) in below, refl)
    agains_match trouble false e p = (few, refl, subst (λ q. Image y.replies q (Ended (Stopped trouble))) (sym p) refl, device, passed)

    stays_broken : (trouble : Trouble) → y.phase ≡ Broken trouble.why →
        Stands attempts (Ended (Stopped trouble)) d forgiven (record { attempts = attempts; attempt = y })
    stays_broken trouble p = (few, refl, subst (λ q. Image y.replies q (Ended (Stopped trouble))) (sym p) refl, device, passed)

    broken_matches : (step : Step) (why : Why) → y.phase ≡ Broken why →
        (let trouble : Trouble = record { step = step; why = why } in
        Matches attempts (settled limits.attempts attempts (Ended (Stopped trouble))) d forgiven (settle plan limits.naks limits.attempts attempts y (Broken why)))
    broken_matches step NoAnswer e = agains_match (record { step = step; why = NoAnswer }) (nat_lt attempts limits.attempts) refl e
    broken_matches step Busy e = agains_match (record { step = step; why = Busy }) (nat_lt attempts limits.attempts) refl e
    broken_matches step Stalled e = stays_broken (record { step = step; why = Stalled }) e
    broken_matches step TooLong e = stays_broken (record { step = step; why = TooLong }) e
    broken_matches step Unexpected e = stays_broken (record { step = step; why = Unexpected }) e
    broken_matches step Malformed e = stays_broken (record { step = step; why = Malformed }) e
    broken_matches step Memory e = stays_broken (record { step = step; why = Memory }) e

    settles_match : (p : Phase) (phase : HostPhase) → y.phase ≡ p → Image y.replies p phase →
        Matches attempts (settled limits.attempts attempts phase) d forgiven (settle plan limits.naks limits.attempts attempts y p)
    settles_match (Running h) (Reading place t k) e image = (few, refl, subst (λ q. Image y.replies q (Reading place t k)) (sym e) image, device, passed)
    settles_match (Running h) ResetDue e image = absurd (image)
    settles_match (Running h) (Ended place) e image = absurd (image)
    settles_match Succeeded (Ended (Reported f)) e image = (few, refl, subst (λ q. Image y.replies q (Ended (Reported f))) (sym e) image, device, passed)
    settles_match Succeeded phase e image = absurd (image)
    settles_match (Broken why) (Ended (Stopped trouble)) e image =
        subst (λ z. Matches attempts (settled limits.attempts attempts (Ended (Stopped trouble))) d forgiven (settle plan limits.naks limits.attempts attempts y (Broken z))) (sym image)
        (broken_matches trouble.step trouble.why (e ∙ ap Broken image))
    settles_match (Broken why) phase e image = absurd (image)

  -- a reset
  resets_match : (x y : Pair) (s : Series) → IsReset x y → Follows x s → Follows y s
  resets_match x y s r m =
      let is = wants_reset x.host.phase r.due in
      let before = subst (λ p. Matches x.host.resets p x.device x.host.forgiven s) is m.matches in
      let host_is : y.host ≡ record x.host { resets = suc x.host.resets; phase = enter x.host.limits First; forgiven = [] } = r.host ∙ reset_is x.host is in
      let attempt_is : s.attempt ≡ proceed plan limits.naks [] new_device = ap (λ z. z.attempt) before.1 in
      let now : Stands (suc x.host.resets) (enter limits First) y.device [] s = (
        (let below = before.0 in omega arith),
        ap (λ z. z.attempts) before.1,
        subst (λ z. Image z.replies z.phase (enter limits First)) (sym attempt_is)
            (refl, tt, tt, record { is_transfer = refl; is_read = (λ e. cc, λ e. cc); is_count = refl; is_kept = refl }),
        ap (λ z. z.device) attempt_is ∙ sym r.device,
        sym (ap (λ z. passed_over set_of terms First z.replies) attempt_is),
      ) in
      record {
        limits_are = ap (λ h. h.limits) host_is ∙ m.limits_are;
        speed_is = ap (λ h. h.speed) host_is ∙ m.speed_is;
        choice_is = ap (λ h. h.choice) host_is ∙ m.choice_is;
        matches =
            subst (λ h. Matches h.resets h.phase y.device h.forgiven s) (sym host_is)
            (subst (λ l. Matches (suc x.host.resets) (enter l First) y.device [] s) (sym m.limits_are) now);
      }

  module _ (stays : StaysImage set_of limits terms) (f : DescriptorFile) (table : State → SetupPacket → Outcome) where
    abbrev stepped : Fate → Series → Series
    stepped fate s = series_step plan limits.naks limits.attempts no_data table f.device.packet fate s

    advanced_device : (replies : List Reply) (h : HostEnd) (stage : TransferStage) (d : DeviceView) → (advance plan limits.naks no_data replies h stage d).device ≡ d
    advanced_device replies h Completed d = refl
    advanced_device replies h (TheFailed NoAnswer) d = refl
    advanced_device replies h (TheFailed Busy) d = refl
    advanced_device replies h (TheFailed Stalled) d = refl
    advanced_device replies h (TheFailed TooLong) d = refl
    advanced_device replies h (TheFailed Unexpected) d = refl
    advanced_device replies h (TheFailed Malformed) d = refl
    advanced_device replies h (TheFailed Memory) d = refl
    advanced_device replies h Setup d = refl
    advanced_device replies h DataIn d = refl
    advanced_device replies h DataOut d = refl
    advanced_device replies h StatusOut d = refl
    advanced_device replies h StatusIn d = refl

    abbrev Stepped : Fate → List Reply → Phase → DeviceView → Sent → HostPhase → List Trouble → List Trouble → Type 0
    Stepped fate replies p d sent new before after =
        let y = attempt_step plan limits.naks no_data table f.device.packet fate replies p d in
        (Image y.replies y.phase new × (before ≡ passed_over set_of terms First replies → after ≡ passed_over set_of terms First y.replies))
        × (y.device ≡ (carried table f.device.packet d sent fate).device)

    attempt_matches : (fate : Fate) (replies : List Reply) (p : Phase) (d : DeviceView) (place : Place) (t : TransferView) (k : Kept) (sent : Sent) (new : HostPhase)
        (before after : List Trouble) → Image replies p (Reading place t k) → due t ≡ Some sent →
        TakesReceived limits terms place k (taken t (carried table f.device.packet d sent fate).reply) new before after →
        ((new ≡ Ended (stopped place Memory)) × (brings fate ≡ true)) ⊎ Stepped fate replies p d sent new before after
    attempt_matches fate replies (Running h) d place t k sent new b a image asks takes =
        let r = carried table f.device.packet d sent fate in
        let z = receives_reply false h r.reply in
        let asked : due h.transfer ≡ Some sent = ap due image.3.is_transfer ∙ asks in
        let there : exchanged table f.device.packet false h d (due h.transfer) fate ≡ record { host = z; device = r.device } =
        ap (λ o. exchanged table f.device.packet false h d o fate) asked in
        elim (stays replies h r.device place t k r.reply new b a image takes) [
          | inl (result, wants, e) ↦ inl (e, wanting_received terms.choice.strings table f.device.packet t k place sent fate d result asks wants)
          | inr ok ↦
              inr (subst (λ e. (let y = advance plan limits.naks no_data replies e.host e.host.transfer.stage e.device in
              (Image y.replies y.phase new × (b ≡ passed_over set_of terms First replies → a ≡ passed_over set_of terms First y.replies)) × (y.device ≡ r.device)))
              (sym there) (ok, advanced_device replies z z.transfer.stage r.device))
        ]
    attempt_matches fate replies Succeeded d place t k sent new b a image asks takes = absurd (image)
    attempt_matches fate replies (Broken why) d place t k sent new b a image asks takes = absurd (image)

    -- a transaction
    reading_matches : (fate : Fate) (x y : Pair) (s : Series) (sent : Sent) (p : HostPhase) → wanted p ≡ WantsSent sent → Follows x s → Matches x.host.resets p x.device x.host.forgiven s →
        TakesIn x.host p (carried table f.device.packet x.device sent fate).reply y.host →
        y.device ≡ (carried table f.device.packet x.device sent fate).device →
        (IsWanting y.host × (brings fate ≡ true)) ⊎ Follows y (stepped fate s)
    reading_matches fate x y s sent ResetDue asks m before takes device = absurd (cc)
    reading_matches fate x y s sent (Ended place) asks m before takes device = absurd (cc)
    reading_matches fate x y s sent (Reading place t k) asks m (few, attempts_are, image, device_is, passed) (phase, received, host_is) device =
        let a = s.attempt in
        let answered : DeviceView → Answer = λ d. (carried table f.device.packet d sent fate).reply in
        let before = x.host.forgiven in
        let after = y.host.forgiven in
        let received_here : TakesReceived limits terms place k (taken t (answered a.device)) phase before after =
        subst (λ d. TakesReceived limits terms place k (taken t (answered d)) phase before after) (sym device_is)
        (subst (λ c. TakesReceived limits (record { speed = terms.speed; choice = c }) place k (taken t (answered x.device)) phase before after) m.choice_is
        (subst (λ v. TakesReceived limits (record { speed = v; choice = x.host.choice }) place k (taken t (answered x.device)) phase before after) m.speed_is
        (subst (λ l. TakesReceived l (terms_of x.host) place k (taken t (answered x.device)) phase before after) m.limits_are received))) in
        let phase_is : y.host.phase ≡ settled limits.attempts x.host.resets phase =
        ap (λ h. h.phase) host_is ∙ ap (λ l. settled l.attempts x.host.resets phase) m.limits_are in
        elim (attempt_matches fate a.replies a.phase a.device place t k sent phase before after image (comes_next (due t) sent asks) received_here) [
          | inl (wants, arrived) ↦ inl ((place, phase_is ∙ ap (λ z. settled limits.attempts x.host.resets z) wants), arrived)
          | inr ok ↦
              let z = attempt_step plan limits.naks no_data table f.device.packet fate a.replies a.phase a.device in
              let same_device : z.device ≡ y.device = ok.1 ∙ ap (λ d. (carried table f.device.packet d sent fate).device) device_is ∙ sym device in
              let now = settles_match s.attempts z y.device after (subst (λ n. n ≤ limits.attempts) (sym attempts_are) few) same_device (ok.0.1 passed) z.phase phase refl ok.0.0 in
              let resets_are : s.attempts ≡ y.host.resets = attempts_are ∙ sym (ap (λ h. h.resets) host_is) in
              let later : y.host.phase ≡ settled limits.attempts s.attempts phase = phase_is ∙ ap (λ n. settled limits.attempts n phase) (sym attempts_are) in
              inr (record {
                limits_are = ap (λ h. h.limits) host_is ∙ m.limits_are;
                speed_is = ap (λ h. h.speed) host_is ∙ m.speed_is;
                choice_is = ap (λ h. h.choice) host_is ∙ m.choice_is;
                matches =
                    subst (λ p. Matches y.host.resets p y.device after (stepped fate s)) (sym later)
                    (subst (λ n. Matches n (settled limits.attempts s.attempts phase) y.device after (stepped fate s)) resets_are now);
              })
        ]

    transaction_matches : (fate : Fate) (x y : Pair) (s : Series) → IsTransactionAt table f.device.packet fate x y → Follows x s → (IsWanting y.host × (brings fate ≡ true)) ⊎ Follows y (stepped fate s)
    transaction_matches fate x y s t m = reading_matches fate x y s t.sent x.host.phase t.due m m.matches t.host t.device

    -- a host for which memory was wanting has ended
    wants_no_reset : (v : HostView) → IsWanting v → wanted v.phase ≡ WantsReset → ⊥
    wants_no_reset v w e = absurd (let z = sym e ∙ ap wanted w.1 in cc)

    sends_nothing : (v : HostView) (sent : Sent) → IsWanting v → wanted v.phase ≡ WantsSent sent → ⊥
    sends_nothing v sent w e = absurd (let z = sym e ∙ ap wanted w.1 in cc)

    series_more : (used : List Fate) (fate : Fate) (s : Series) →
        series_run plan limits.naks limits.attempts no_data table f.device.packet (used ++ fate ∷ []) s
        ≡ stepped fate (series_run plan limits.naks limits.attempts no_data table f.device.packet used s)
    series_more [] fate s = refl
    series_more (g ∷ used) fate s = series_more used fate (stepped g s)

    abbrev pub after : List Fate → ℕ → Series
    after fates n = series_run plan limits.naks limits.attempts no_data table f.device.packet (fates_used fates n) (begin 1)

    pub runs_match : (some : 0 < limits.attempts) (fates : List Fate) (earlier : List Pair) (n : ℕ) (last : Pair) → RunsAt table f.device.packet fates (chosen_pair limits terms.speed terms.choice) earlier n last →
        (IsWanting last.host × (ends_received (fates_used fates n) ≡ true)) ⊎ Follows last (after fates n)
    runs_match some fates [] n last (e, none) =
        let new : Follows (chosen_pair limits terms.speed terms.choice) (begin 1) = record { limits_are = refl; speed_is = refl; choice_is = refl; matches = (some, refl) } in
        inr (subst (λ m. Follows last (after fates m)) (sym none) (subst (λ y. Follows y (begin 1)) (sym e) new))
    runs_match some fates (x ∷ earlier) n last (inl (r, more)) =
        elim (runs_match some fates earlier n x more) [
          | inl (wants, received) ↦ absurd (wants_no_reset x.host wants r.due)
          | inr m ↦ inr (resets_match x last (after fates n) r m)
        ]
    runs_match some fates (x ∷ earlier) n last (inr (m, count, t, more)) =
        elim (runs_match some fates earlier m x more) [
          | inl (wants, received) ↦ absurd (sends_nothing x.host t.sent wants t.due)
          | inr ok ↦
              let same : stepped (fate_at fates m) (after fates m) ≡ after fates n =
              sym (series_more (fates_used fates m) (fate_at fates m) (begin 1))
              ∙ ap (λ used. series_run plan limits.naks limits.attempts no_data table f.device.packet used (begin 1)) (sym (fates_used-more fates m))
              ∙ ap (λ k. after fates k) (sym count) in
              elim (transaction_matches (fate_at fates m) x last (after fates m) t ok) [
                | inl (wants, arrived) ↦ inl (wants, last_received fates m n count arrived)
                | inr there ↦ inr (subst (λ s. Follows last s) same there)
              ]
        ]

    abbrev Judged : List Reply → List Fate → Series → Phase → Type 0
    Judged all used x p =
        Verdict limits.naks limits.attempts all (configured_state limits.address f) (losses used) (busies used) x.attempts x.attempt p

    abbrev asked : DescriptorFile
    asked = asked_of terms.choice f

    -- where all replies lead to a report of what is asked for, and nothing is passed over
    module _ (all : List Reply) (reads : reached set_of terms First all ≡ Reported asked) (passes : passed_over set_of terms First all ≡ []) (used : List Fate) where
      blames : (why : Why) → (why ≡ NoAnswer) ⊎ (why ≡ Busy) → blames_bus why ≡ true
      blames why (inl e) = ap blames_bus e
      blames why (inr e) = ap blames_bus e

      same_report : (g : DescriptorFile) → Reported g ≡ Reported asked → g ≡ asked
      same_report g e = cc

      ends : (x : Series) (p : Phase) (place : Place) (resets : ℕ) (d : DeviceView) (forgiven : List Trouble) → Image x.attempt.replies p (Ended place) → resets ≤ limits.attempts →
          x.attempts ≡ resets → x.attempt.device ≡ d → forgiven ≡ passed_over set_of terms First x.attempt.replies → Judged all used x p →
          PlaceEndsWell asked limits used resets d.state forgiven place
      ends x (Running h) place resets d forgiven image few is device passed v = absurd (image)
      ends x Succeeded (Reported g) resets d forgiven image few is device passed v = (
        (
          same_report g (sym image ∙ ap (λ rs. reached set_of terms First rs) v.0 ∙ reads),
          ap (λ z. z.state) (sym device) ∙ v.1,
        ),
        passed ∙ ap (λ rs. passed_over set_of terms First rs) v.0 ∙ passes,
      )
      ends x Succeeded place resets d forgiven image few is device passed v = absurd (image)
      ends x (Broken why) (Stopped trouble) resets d forgiven image few is device passed v =
          inr (subst (λ w. blames_bus w ≡ true) image (blames why v.0), (let full = v.1 in omega arith), v.2)
      ends x (Broken why) place resets d forgiven image few is device passed v = absurd (image)

      goes : (x : Series) (resets : ℕ) (phase : HostPhase) (d : DeviceView) (forgiven : List Trouble) → Matches resets phase d forgiven x → Judged all used x x.attempt.phase →
          GoesWell asked limits used resets d.state forgiven phase
      goes x resets ResetDue d forgiven m v = tt
      goes x resets (Reading place t k) d forgiven m v = tt
      goes x resets (Ended place) d forgiven m v = ends x x.attempt.phase place resets d forgiven m.2 m.0 m.1 m.3 m.4 v

    pub run_ends : (some : 0 < limits.attempts) (all : List Reply) → reached set_of terms First all ≡ Reported asked → passed_over set_of terms First all ≡ [] →
        (fates : List Fate) (earlier : List Pair) (n : ℕ) (last : Pair) → RunsAt table f.device.packet fates (chosen_pair limits terms.speed terms.choice) earlier n last →
        (let x = after fates n in Judged all (fates_used fates n) x x.attempt.phase) →
        GoesWell asked limits (fates_used fates n) last.host.resets last.device.state last.host.forgiven last.host.phase
    run_ends some all reads passes fates earlier n last r v =
        elim (runs_match some fates earlier n last r) [
          | inl (wants, received) ↦ subst (λ p. GoesWell asked limits (fates_used fates n) last.host.resets last.device.state last.host.forgiven p) (sym wants.1) (inl (refl, received))
          | inr m ↦ goes all reads passes (fates_used fates n) (after fates n) last.host.resets last.host.phase last.device last.host.forgiven m.matches v
        ]
