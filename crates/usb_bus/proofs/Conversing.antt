-- A talk: what its loop keeps, and what holds where it ends.
use Rattle.std.proofs.Common.{◌≡◌, ℕ, ◌+◌, ◌<◌, ◌≤◌, List, [], ◌∷◌, ◌++◌, length, take, Option, Some, None, Result, Ok, Err, refl, sym, ap, ◌∙◌, arith, subst, append_assoc, length-append}
use Rattle.std.specs.Option.{is_some}
use Rattle.std.specs.Prelude.{IfSome, false, get_or, map, suc}
use Rattle.std.proofs.lemmas.List.{append-nil, map-append, take_all}
use Rattle.std.proofs.Math.Seq.{take-suc}
use Rattle.usb_fields.specs.declared.setup.Setup.{Setup as SetupPacket}
use Rattle.usb_file_data.specs.declared.file.DescriptorFile.{DescriptorFile}
use Rattle.usb_host.specs.declared.why.Why.{Why}
use Rattle.usb_host.specs.declared.why.Why.TheVariants.{NoAnswer, Busy, Stalled, TooLong, Unexpected, Malformed, Memory}
use Rattle.usb_host.specs.declared.transfer.TransferStage.{TransferStage}
use Rattle.usb_host.specs.declared.transfer.TransferStage.TheVariants.{Setup, DataIn, DataOut, StatusOut, StatusIn, Completed, Failed}
use Rattle.usb_host.specs.Transfer.{TransferView, due, addressed, token_due}
use Rattle.usb_device.specs.Requests.{answer}
use Rattle.usb_device.specs.States.{zero as zero_state}
use Rattle.usb_device.specs.declared.state.State.{State}
use Rattle.usb_device.specs.Step.{DeviceView}
use Rattle.usb_bus.specs.declared.fate.Fate.{Fate}
use Rattle.usb_host.specs.declared.reply.Reply.{Reply}
use Rattle.usb_bus.specs.declared.conversation.Talk.{Talk}
use Rattle.usb_bus.specs.Bus.{losses, busies, acks_lost, HostEnd}
use Rattle.usb_host.specs.Plan.{Plan}
use Rattle.usb_bus.specs.Attempt.{Phase, Attempt, Running, Succeeded, Broken, proceed, advance, attempt_run, begins, phase_of, AttemptEnds, IsCause}
use Rattle.usb_bus.specs.Converse.{AskedView, data_sent, sent_at, talk_data, Place, ends_with_address, talk_plan, reached, onward, followed, asked_at, replies_to, state_after, first_place, talk_start, end_of, standing, IsTalk, IsTalkRun, IsTalkTo, IsWholeTalk, HasFirstReplies, HasLastState, TalkView}
use Rattle.usb_bus.specs.Run.{fates_used, due_in, Steps}
use Rattle.usb_bus.specs.inside.Running.{failure_of, point, LeadsTo, settled}
use Rattle.usb_bus.proofs.Talks.{talk_ends, reached_append}
use Rattle.usb_bus.proofs.TableLemmas.{table_kept}
use Rattle.usb_bus.proofs.Runs.{losses-fates_used, busies-fates_used, acks_lost-fates_used, points, length-points, Steps-append, Steps-points, Steps-run, Steps-same}

-- a transfer that has nothing due was settled
abbrev pub settles : (List Reply → Plan) → ℕ → List Reply → DeviceView → Result Reply Why → Attempt
settles plan naks replies d (Ok reply) = proceed plan naks (replies ++ reply ∷ []) d
settles plan naks replies d (Err why) = record { replies = replies; phase = Broken why; device = d }

advance-settled : (plan : List Reply → Plan) (naks : ℕ) (sends : List Reply → List ℕ) (replies : List Reply) (h : HostEnd) (stage : TransferStage) (d : DeviceView) (address : ℕ)
    (t : TransferView) → addressed address (token_due t [] stage) ≡ None →
    advance plan naks sends replies h stage d ≡ settles plan naks replies d (settled h.transfer.request.length (length (sends replies)) h.got (failure_of stage))
advance-settled plan naks sends replies h Setup d address t e = absurd (cc)
advance-settled plan naks sends replies h DataIn d address t e = absurd (cc)
advance-settled plan naks sends replies h DataOut d address t e = absurd (cc)
advance-settled plan naks sends replies h StatusOut d address t e = absurd (cc)
advance-settled plan naks sends replies h StatusIn d address t e = absurd (cc)
advance-settled plan naks sends replies h Completed d address t e = refl
advance-settled plan naks sends replies h (Failed NoAnswer) d address t e = refl
advance-settled plan naks sends replies h (Failed Busy) d address t e = refl
advance-settled plan naks sends replies h (Failed Stalled) d address t e = refl
advance-settled plan naks sends replies h (Failed TooLong) d address t e = refl
advance-settled plan naks sends replies h (Failed Unexpected) d address t e = refl
advance-settled plan naks sends replies h (Failed Malformed) d address t e = refl
advance-settled plan naks sends replies h (Failed Memory) d address t e = refl

module _ (f : DescriptorFile) (naks : ℕ) (qs : List AskedView) (fates : List Fate) where
  abbrev plan : List Reply → Plan
  plan = talk_plan f.device.packet (first_place qs)

  abbrev sends : List Reply → List ℕ
  sends = talk_data (first_place qs)

  -- this many transactions lead from the start to x
  abbrev pub StandsAt : ℕ → Attempt → Type 0
  StandsAt now x =
      (ps : List Attempt) × (length ps ≡ now) × Steps plan naks sends (answer f) f.device.packet fates 0 (talk_start f.device.packet naks qs) ps x

  -- one transfer more
  pub stands_on : (before address : ℕ) (replies : List Reply) (q : SetupPacket) (bytes : List ℕ) (d : DeviceView) (now : ℕ) (h : HostEnd) (here : DeviceView) →
      sends replies ≡ bytes →
      StandsAt before (record { replies = replies; phase = Running (begins address f.device.packet naks q); device = d }) →
      LeadsTo (answer f) f.device.packet bytes fates before (begins address f.device.packet naks q) d now h here → due h.transfer ≡ None →
      StandsAt now (settles plan naks replies here (settled h.transfer.request.length (length bytes) h.got (failure_of h.transfer.stage)))
  stands_on before address replies q bytes d now h here sent (ps, count, steps) (n, at, leads) over =
      let begin : Attempt = record { replies = replies; phase = Running (begins address f.device.packet naks q); device = d } in
      let end = settles plan naks replies here (settled h.transfer.request.length (length bytes) h.got (failure_of h.transfer.stage)) in
      let led = leads plan naks sends replies sent in
      let none : n ≡ n + 0 = omega arith in
      let comes : point plan naks sends (answer f) f.device.packet fates before n begin ≡ end =
      ap (λ x. point plan naks sends (answer f) f.device.packet fates before x begin) none
      ∙ led.1 0
      ∙ advance-settled plan naks sends replies h h.transfer.stage here h.transfer.address h.transfer over
      ∙ ap (λ b. settles plan naks replies here (settled h.transfer.request.length (length b) h.got (failure_of h.transfer.stage))) sent in
      let more = points plan naks sends (answer f) f.device.packet fates before n begin in
      let on = subst (λ x. Steps plan naks sends (answer f) f.device.packet fates before begin more x) comes (Steps-points plan naks sends (answer f) f.device.packet fates before n begin led.0) in
      let first : before ≡ 0 + length ps = omega arith in
      let long = length-points plan naks sends (answer f) f.device.packet fates before n begin in (
        ps ++ more,
        length-append ps more ∙ omega arith,
        Steps-append plan naks sends (answer f) f.device.packet fates 0 before (talk_start f.device.packet naks qs) ps begin more end first steps on,
      )

  -- What holds where the talk has ended.
  module _ (talk : Talk) where
    abbrev used : List Fate
    used = fates_used fates talk.transactions

    abbrev HasEnded : List Reply → Phase → State → Type 0
    HasEnded replies phase s = AttemptEnds naks used (ends_with_address qs) (replies_to (answer f) zero_state qs) (state_after (answer f) zero_state qs) replies phase s

    has_ended : 0 < f.device.packet → IsTalkRun f naks qs fates talk → HasEnded talk.replies (end_of talk.stopped) talk.state
    has_ended pos (ps, last, count, steps, replies, phase, state) =
        let start = talk_start f.device.packet naks qs in
        let run = Steps-run plan naks sends (answer f) f.device.packet fates 0 start ps last steps in
        let at : last ≡ attempt_run plan naks sends (answer f) f.device.packet used start =
        run ∙ ap (λ n. attempt_run plan naks sends (answer f) f.device.packet (fates_used fates n) start) count in
        let ends = subst (λ x. HasEnded x.replies x.phase x.device.state) (sym at) (talk_ends (answer f) f.device.packet naks qs used pos (table_kept f)) in
        subst (λ r. HasEnded r (end_of talk.stopped) talk.state) replies
        (subst (λ p. HasEnded last.replies p talk.state) phase (subst (λ s. HasEnded last.replies last.phase s) state ends))

    module _ (pos : 0 < f.device.packet) (run : IsTalkRun f naks qs fates talk) where
      -- the same by how the talk ended
      ended_at : (stopped : Option Why) → talk.stopped ≡ stopped → HasEnded talk.replies (end_of stopped) talk.state
      ended_at stopped e = subst (λ x. HasEnded talk.replies (end_of x) talk.state) e (has_ended pos run)

      has_first_replies : HasFirstReplies f qs talk
      has_first_replies = by talk.stopped (has_ended pos run)
        where
          by : (stopped : Option Why) → HasEnded talk.replies (end_of stopped) talk.state → HasFirstReplies f qs talk
          by None h = h.0 ∙ sym (take_all (length (replies_to (answer f) zero_state qs)) (replies_to (answer f) zero_state qs) (omega arith)) ∙ ap (λ rs. take (length rs) (replies_to (answer f) zero_state qs)) (sym h.0)
          by (Some why) h = h.0

      has_cause : IfSome talk.stopped (IsCause naks used)
      has_cause = by talk.stopped (has_ended pos run)
        where
          by : (stopped : Option Why) → HasEnded talk.replies (end_of stopped) talk.state → IfSome stopped (IsCause naks used)
          by None h = tt
          by (Some why) h = h.1

      has_last_state : talk.stopped ≡ None → HasLastState f qs fates talk
      has_last_state e = (ended_at None e).1

      goes_on_by : (stopped : Option Why) → IfSome stopped (IsCause naks used) → losses used < 3 → acks_lost used ≡ 0 → busies used ≤ naks → stopped ≡ None
      goes_on_by None h few none patient = refl
      goes_on_by (Some NoAnswer) h few none patient = absurd (grind arith)
      goes_on_by (Some Busy) h few none patient = absurd (omega arith)
      goes_on_by (Some Stalled) h few none patient = absurd h
      goes_on_by (Some TooLong) h few none patient = absurd h
      goes_on_by (Some Unexpected) h few none patient = absurd h
      goes_on_by (Some Malformed) h few none patient = absurd h
      goes_on_by (Some Memory) h few none patient = absurd h

      ends : losses fates < 3 → acks_lost fates ≡ 0 → busies fates ≤ naks → talk.stopped ≡ None
      ends few none patient =
          let l = losses-fates_used fates talk.transactions in
          let a = acks_lost-fates_used fates talk.transactions in
          let b = busies-fates_used fates talk.transactions in
          goes_on_by talk.stopped has_cause (omega arith) (omega arith) (omega arith)

-- one request more is seen
pub mapped_more : {X : Type 0} (view : X → AskedView) (xs : List X) (i : ℕ) (none : X) → i < length xs →
    map view (take (suc i) xs) ≡ map view (take i xs) ++ view (get_or xs i none) ∷ []
mapped_more view xs i none less = ap (map view) (take-suc xs i none less) ∙ map-append view (take i xs) (get_or xs i none ∷ [])

-- a talk with no request more is over
standing_ended : (v : TalkView) (stopped : Option Why) → standing v stopped [] ≡ end_of stopped
standing_ended v None = refl
standing_ended v (Some why) = refl

talk_run : (requests : List AskedView) (fates : List Fate) (v : TalkView) → IsTalk requests fates v → IsTalkRun v.file v.naks requests fates v.talk
talk_run requests fates v t =
    let all = subst (λ qs. IsTalkTo fates v qs []) (append-nil requests) (t.goes_on []) in
    (all.points, _, all.count, all.steps, refl, standing_ended v v.talk.stopped, t.state)

-- a talk of all requests, of a device with these descriptors and with this limit
pub whole_talk : (f : DescriptorFile) (naks : ℕ) (requests : List AskedView) (fates : List Fate) (v : TalkView) → v.file ≡ f → v.naks ≡ naks →
    0 < f.device.packet → IsTalk requests fates v → IsWholeTalk f naks requests fates v.talk
whole_talk f naks requests fates v file limit pos t =
    let run = subst (λ x. IsTalkRun x naks requests fates v.talk) file (subst (λ n. IsTalkRun v.file n requests fates v.talk) limit (talk_run requests fates v t)) in
    record {
      run = run;
      replies = has_first_replies f naks requests fates v.talk pos run;
      all = t.all;
      state = has_last_state f naks requests fates v.talk pos run;
      cause = has_cause f naks requests fates v.talk pos run;
      goes_on = ends f naks requests fates v.talk pos run;
    }

-- One request more, to which a transfer leads that has ended.
module _ (requests : List AskedView) (fates : List Fate) (v : TalkView) (a : AskedView) (on : v.talk.stopped ≡ None) (t : IsTalk requests fates v)
    (now : ℕ) (h : HostEnd) (here : DeviceView)
    (leads : LeadsTo (answer v.file) v.file.device.packet (data_sent a) fates v.talk.transactions (begins v.address v.file.device.packet v.naks a.setup) v.device now h here)
    (over : due h.transfer ≡ None) (asked : h.transfer.request ≡ a.setup) where
  abbrev outcome : Result Reply Why
  outcome = settled a.setup.length (length (data_sent a)) h.got (failure_of h.transfer.stage)

  abbrev Stands : List AskedView → Attempt → Type 0
  Stands more x = StandsAt v.file v.naks (requests ++ a ∷ more) fates now x

  -- where the transfer leads to
  stands_to : (more : List AskedView) (r : Result Reply Why) → outcome ≡ r →
      Stands more (settles (talk_plan v.file.device.packet (first_place (requests ++ a ∷ more))) v.naks v.talk.replies here r)
  stands_to more r is =
      let all = requests ++ a ∷ more in
      let plan = talk_plan v.file.device.packet (first_place all) in
      let to = t.goes_on (a ∷ more) in
      let running = subst (λ x. StandsAt v.file v.naks all fates v.talk.transactions (record { replies = v.talk.replies; phase = standing v x (a ∷ more); device = v.device })) on
      (to.points, to.count, to.steps) in
      subst (λ o. Stands more (settles plan v.naks v.talk.replies here o)) is
      (subst (λ x. Stands more (settles plan v.naks v.talk.replies here (settled x.length (length (data_sent a)) h.got (failure_of h.transfer.stage)))) asked
      (stands_on v.file v.naks all fates v.talk.transactions v.address v.talk.replies a.setup (data_sent a) v.device now h here
      (ap (λ p. sent_at p.left) (to.place on)) running leads over))

  -- the talk after it
  abbrev pub after : Result Reply Why → TalkView
  after (Ok reply) = record {
    file = v.file;
    naks = v.naks;
    address = followed a.setup reply v.address;
    talk = record { replies = v.talk.replies ++ reply ∷ []; stopped = v.talk.stopped; transactions = now; state = here.state };
    device = here;
  }
  after (Err why) = record {
    file = v.file;
    naks = v.naks;
    address = v.address;
    talk = record { replies = v.talk.replies; stopped = Some why; transactions = now; state = here.state };
    device = here;
  }

  pub talk_on : (r : Result Reply Why) → outcome ≡ r → IsTalk (requests ++ a ∷ []) fates (after r)
  talk_on (Ok reply) is =
      let w = after (Ok reply) in
      let long = length-append requests (a ∷ []) in
      let longer = length-append v.talk.replies (reply ∷ []) in
      let same = t.all.0 on in
      record {
        goes_on = λ more.
            (let start = first_place (requests ++ a ∷ more) in
            let place : reached start (v.talk.replies ++ reply ∷ []) ≡ record { left = more; address = followed a.setup reply v.address } =
            reached_append start v.talk.replies reply ∙ ap (λ p. onward p.left p.address reply) ((t.goes_on (a ∷ more)).place on) in
            let stood = subst (λ (p : Place). Stands more
            (record { replies = v.talk.replies ++ reply ∷ []; phase = phase_of v.naks (asked_at v.file.device.packet p.address p.left); device = here })) place
            (stands_to more (Ok reply) is) in
            let still = subst (λ x. Stands more (record { replies = v.talk.replies ++ reply ∷ []; phase = standing w x more; device = here })) (sym on) stood in
            subst (λ qs. IsTalkTo fates w qs more) (sym (append_assoc requests (a ∷ []) more))
            (record { points = still.0; count = still.1; steps = still.2; place = λ goes. place }));
        state = refl;
        most = omega arith;
        all = (λ goes. omega arith, λ equal. on);
      }
  talk_on (Err why) is =
      let long = length-append requests (a ∷ []) in
      let same = t.all.0 on in
      record {
        goes_on = λ more.
            (let stands = stands_to more (Err why) is in
            subst (λ qs. IsTalkTo fates (after (Err why)) qs more) (sym (append_assoc requests (a ∷ []) more))
            (record { points = stands.0; count = stands.1; steps = stands.2; place = λ goes. absurd (cc) }));
        state = refl;
        most = omega arith;
        all = (λ goes. absurd (cc), λ equal. absurd (omega arith));
      }

-- a talk for which no reason to stop is reported goes on
pub nothing_reported : (stopped : Option Why) → is_some stopped ≡ false → stopped ≡ None
nothing_reported None e = refl
nothing_reported (Some why) e = absurd (cc)

-- where a talk has ended nothing comes next
none_due : (bytes : List ℕ) (stopped : Option Why) → due_in bytes (end_of stopped) ≡ None
none_due bytes None = refl
none_due bytes (Some why) = refl

-- why a talk stopped, by its last phase
stopped_at : Phase → Option Why
stopped_at (Running host) = None
stopped_at Succeeded = None
stopped_at (Broken why) = Some why

stopped_at-end_of : (stopped : Option Why) → stopped_at (end_of stopped) ≡ stopped
unfolding stopped_at
stopped_at-end_of None = refl
stopped_at-end_of (Some why) = refl

same_talk : (a b : Talk) → a.replies ≡ b.replies → a.stopped ≡ b.stopped → a.transactions ≡ b.transactions → a.state ≡ b.state → a ≡ b
same_talk a b replies stopped transactions state =
    ap (λ x. (let t : Talk = record a { replies = x } in t)) replies
    ∙ ap (λ x. (let t : Talk = record a { replies = b.replies; stopped = x } in t)) stopped
    ∙ ap (λ x. (let t : Talk = record b { transactions = x; state = a.state } in t)) transactions
    ∙ ap (λ x. (let t : Talk = record b { state = x } in t)) state

-- of one list of requests and fates two talks are one
pub talk_determined : (f : DescriptorFile) (naks : ℕ) (requests : List AskedView) (fates : List Fate) (a b : Talk) →
    IsTalkRun f naks requests fates a → IsTalkRun f naks requests fates b → a ≡ b
talk_determined f naks requests fates a b (ps, x, count_a, steps_a, replies_a, phase_a, state_a) (qs, y, count_b, steps_b, replies_b, phase_b, state_b) =
    let same = Steps-same (talk_plan f.device.packet (first_place requests)) naks (talk_data (first_place requests)) (answer f) f.device.packet fates 0
    (talk_start f.device.packet naks requests) ps qs x y steps_a steps_b (ap (due_in (talk_data (first_place requests) x.replies)) phase_a ∙ none_due (talk_data (first_place requests) x.replies) a.stopped)
    (ap (due_in (talk_data (first_place requests) y.replies)) phase_b ∙ none_due (talk_data (first_place requests) y.replies) b.stopped) in
    let stops : stopped_at (end_of a.stopped) ≡ stopped_at (end_of b.stopped) =
    ap stopped_at (sym phase_a ∙ ap (λ z. z.phase) same.1 ∙ phase_b) in
    same_talk a b
    (sym replies_a ∙ ap (λ z. z.replies) same.1 ∙ replies_b)
    (sym (stopped_at-end_of a.stopped) ∙ stops ∙ stopped_at-end_of b.stopped)
    (sym count_a ∙ same.0 ∙ count_b)
    (sym state_a ∙ ap (λ z. z.device.state) same.1 ∙ state_b)
