-- Attempts: a failed one costs a loss, or more busy transactions than the limit of NAKs. Of the two ends this uses the laws of one attempt
-- and nothing else.
use Rattle.std.proofs.Common.{◌≡◌, ℕ, zero, suc, ◌+◌, ◌*◌, ◌/◌, ◌≤◌, ◌⊎◌, Bool, true, false, List, [], ◌∷◌, ◌++◌, refl, ap, sym, ◌∙◌, arith, inl, inr, subst, nat_lt, if◌then◌else◌, append_assoc}
use Rattle.std.proofs.lemmas.Bool.Decides.{nat_tests}
use Rattle.std.proofs.lemmas.List.{append-nil}
use Rattle.std.proofs.lemmas.Nat.{le-div}
use Rattle.usb_fields.specs.declared.setup.Setup.{Setup as SetupPacket}
use Rattle.usb_host.specs.declared.why.Why.{Why}
use Rattle.usb_host.specs.declared.why.Why.TheVariants.{NoAnswer, Busy, Stalled, TooLong, Unexpected, Malformed, Memory}
use Rattle.usb_device.specs.declared.state.State.{State}
use Rattle.usb_device.specs.Requests.{Outcome}
use Rattle.usb_host.specs.declared.reply.Reply.{Reply}
use Rattle.usb_bus.specs.declared.fate.Fate.{Fate}
use Rattle.usb_bus.specs.Bus.{lost, ack_lost, losses, busies, acks_lost}
use Rattle.usb_host.specs.Plan.{Plan}
use Rattle.usb_bus.specs.Attempt.{Phase, Running, Succeeded, Broken, Attempt, attempt_step, attempt_run, AttemptEnds, IsCause}
use Rattle.usb_bus.specs.Together.{StaysTogether}
use Rattle.usb_bus.specs.Series.{Attempts, HasCost, Series, StandsAfter, after_reset, attempt_under, fresh, settle, series_step, series_run}
use Rattle.usb_bus.specs.inside.Laws.{Verdict}

ack_at_most_lost : (f : Fate) → ack_lost f ≤ lost f
ack_at_most_lost f = grind arith

acks_at_most_losses : (fates : List Fate) → acks_lost fates ≤ losses fates
acks_at_most_losses [] = omega arith
acks_at_most_losses (f ∷ fates) = (let a = ack_at_most_lost f in let b = acks_at_most_losses fates in omega arith)

losses-append : (xs ys : List Fate) → losses (xs ++ ys) ≡ losses xs + losses ys
losses-append [] ys = omega arith
losses-append (f ∷ xs) ys = (let rest = losses-append xs ys in omega arith)

busies-append : (xs ys : List Fate) → busies (xs ++ ys) ≡ busies xs + busies ys
busies-append [] ys = omega arith
busies-append (f ∷ xs) ys = (let rest = busies-append xs ys in omega arith)

one_more : (m k : ℕ) → suc m * k ≡ m * k + k
one_more m k = grind arith

-- a cause has its cost
cause_costs : (naks : ℕ) (used : List Fate) (why : Why) → IsCause naks used why → HasCost naks used
cause_costs naks used NoAnswer (inl three) = inl (omega arith)
cause_costs naks used NoAnswer (inr ack) = inl (let most = acks_at_most_losses used in omega arith)
cause_costs naks used Busy many = inr many
cause_costs naks used Stalled none = absurd none
cause_costs naks used TooLong none = absurd none
cause_costs naks used Unexpected none = absurd none
cause_costs naks used Malformed none = absurd none
cause_costs naks used Memory none = absurd none

cause_blames : (naks : ℕ) (used : List Fate) (why : Why) → IsCause naks used why → (why ≡ NoAnswer) ⊎ (why ≡ Busy)
cause_blames naks used NoAnswer cause = inl refl
cause_blames naks used Busy many = inr refl
cause_blames naks used Stalled none = absurd none
cause_blames naks used TooLong none = absurd none
cause_blames naks used Unexpected none = absurd none
cause_blames naks used Malformed none = absurd none
cause_blames naks used Memory none = absurd none

module _ (plan : List Reply → Plan) (naks limit : ℕ) (sends : List Reply → List ℕ) (answer : State → SetupPacket → Outcome) (cut : ℕ) (moved : Bool) (all : List Reply) (last : State) where
  abbrev first : Attempt
  first = after_reset plan naks limit

  abbrev run : List Fate → Attempt
  run used = attempt_under plan naks limit sends answer cut used

  abbrev step : Fate → Attempt → Attempt
  step f x = attempt_step plan naks sends answer cut f x.replies x.phase x.device

  abbrev After : ℕ → List Fate → Attempt → Type 0
  After failed fates x = Attempts plan naks limit sends answer cut failed fates x

  abbrev Stands : List Fate → Series → Type 0
  Stands fates x = StandsAfter plan naks limit sends answer cut fates x

  run_from : (fates : List Fate) (f : Fate) (x : Attempt) → attempt_run plan naks sends answer cut (fates ++ f ∷ []) x ≡ step f (attempt_run plan naks sends answer cut fates x)
  run_from [] f x = refl
  run_from (g ∷ fates) f x = run_from fates f (step g x)

  abbrev Ends : List Fate → Attempt → Phase → Type 0
  Ends used x phase = AttemptEnds naks used moved all last x.replies phase x.device.state

  module _ (stays : (used : List Fate) → StaysTogether plan naks sends answer cut used (attempt_under plan naks limit sends answer cut used))
      (ends : (used : List Fate) → (let x = attempt_under plan naks limit sends answer cut used in AttemptEnds naks used moved all last x.replies x.phase x.device.state)) where
    ends_at : (used : List Fate) (x : Attempt) (phase : Phase) → x ≡ run used → x.phase ≡ phase → Ends used x phase
    ends_at used x phase is e = subst (λ p. Ends used x p) e (subst (λ y. Ends used y y.phase) (sym is) (ends used))

    cause_of : (used : List Fate) (x : Attempt) (why : Why) → x ≡ run used → x.phase ≡ Broken why → IsCause naks used why
    cause_of used x why is e = (ends_at used x (Broken why) is e).1

    -- an attempt that is the first, or the last of some
    here : (used : List Fate) (x : Attempt) → x ≡ run used → After 0 used x
    here used x is = (
      is,
      subst (λ y. StaysTogether plan naks sends answer cut used y) (sym is) (stays used),
      λ why e. cause_costs naks used why (cause_of used x why is e),
    )

    goes_on : (failed : ℕ) (fates : List Fate) (x : Attempt) (f : Fate) → After failed fates x → After failed (fates ++ f ∷ []) (step f x)
    goes_on zero used x f (is, together, cost) = here (used ++ f ∷ []) (step f x) (ap (λ y. step f y) is ∙ sym (run_from used f first))
    goes_on (suc failed) fates x f (used, more, parts, broke, cost, rest) =
        (used, more ++ f ∷ [], ap (λ y. y ++ f ∷ []) parts ∙ append_assoc used more (f ∷ []), broke, cost, goes_on failed more x f rest)

    fails : (failed : ℕ) (fates : List Fate) (x : Attempt) (why : Why) → After failed fates x → x.phase ≡ Broken why → After (suc failed) fates first
    fails zero used x why (is, together, cost) e =
        (used, [], sym (append-nil used), (why, ap (λ y. y.phase) (sym is) ∙ e), cost why e, here [] first refl)
    fails (suc failed) fates x why (used, more, parts, broke, cost, rest) e =
        (used, more, parts, broke, cost, fails failed more x why rest e)

    last_of : (failed : ℕ) (fates : List Fate) (x : Attempt) → After failed fates x → (used : List Fate) × (x ≡ run used)
    last_of zero used x (is, together, cost) = (used, is)
    last_of (suc failed) fates x (used, more, parts, broke, cost, rest) = last_of failed more x rest

    blames : (failed : ℕ) (fates : List Fate) (x : Attempt) (why : Why) → After failed fates x → x.phase ≡ Broken why → (why ≡ NoAnswer) ⊎ (why ≡ Busy)
    blames failed fates x why after e =
        let (used, is) = last_of failed fates x after in
        cause_blames naks used why (cause_of used x why is e)

    -- an attempt does not begin with trouble
    not_broken : (why : Why) → first.phase ≡ Broken why → ⊥
    not_broken why e = none (cause_costs naks [] why (cause_of [] first why refl e))
      where
        none : HasCost naks [] → ⊥
        none (inl some) = absurd (omega arith)
        none (inr many) = absurd (omega arith)

    starts : (failed : ℕ) (fates : List Fate) → After failed fates first → Stands fates (fresh plan naks limit (suc failed))
    starts failed fates after = record { failed = failed; count = refl; attempts = after; all = λ why e. absurd (not_broken why e) }

    agains : (failed : ℕ) (fates : List Fate) (x : Attempt) (why : Why) (small : Bool) → nat_lt (suc failed) limit ≡ small → x.phase ≡ Broken why →
        After failed fates x → Stands fates (if small then fresh plan naks limit (suc (suc failed)) else record { attempts = suc failed; attempt = x })
    agains failed fates x why true small e after = starts (suc failed) fates (fails failed fates x why after e)
    agains failed fates x why false small e after =
        let full : limit ≤ suc failed = grind (arith, nat_tests) in
        record { failed = failed; count = refl; attempts = after; all = λ other i. full }

    stops : (failed : ℕ) (fates : List Fate) (x : Attempt) → After failed fates x → ((why : Why) → x.phase ≡ Broken why → ⊥) →
        Stands fates (record { attempts = suc failed; attempt = x })
    stops failed fates x after whole = record { failed = failed; count = refl; attempts = after; all = λ why e. absurd (whole why e) }

    bus_alone : (why : Why) → (why ≡ NoAnswer) ⊎ (why ≡ Busy) → (why ≡ NoAnswer → ⊥) → (why ≡ Busy → ⊥) → ⊥
    bus_alone why (inl e) none busy = none e
    bus_alone why (inr e) none busy = busy e

    settles : (failed : ℕ) (fates : List Fate) (x : Attempt) (phase : Phase) → x.phase ≡ phase → After failed fates x →
        Stands fates (settle plan naks limit (suc failed) x phase)
    settles failed fates x (Broken NoAnswer) e after = agains failed fates x NoAnswer (nat_lt (suc failed) limit) refl e after
    settles failed fates x (Broken Busy) e after = agains failed fates x Busy (nat_lt (suc failed) limit) refl e after
    settles failed fates x (Broken Stalled) e after = absurd (bus_alone Stalled (blames failed fates x Stalled after e) (λ i. absurd (cc)) (λ i. absurd (cc)))
    settles failed fates x (Broken TooLong) e after = absurd (bus_alone TooLong (blames failed fates x TooLong after e) (λ i. absurd (cc)) (λ i. absurd (cc)))
    settles failed fates x (Broken Unexpected) e after = absurd (bus_alone Unexpected (blames failed fates x Unexpected after e) (λ i. absurd (cc)) (λ i. absurd (cc)))
    settles failed fates x (Broken Malformed) e after = absurd (bus_alone Malformed (blames failed fates x Malformed after e) (λ i. absurd (cc)) (λ i. absurd (cc)))
    settles failed fates x (Broken Memory) e after = absurd (bus_alone Memory (blames failed fates x Memory after e) (λ i. absurd (cc)) (λ i. absurd (cc)))
    settles failed fates x (Running h) e after = stops failed fates x after (λ why i. absurd (cc))
    settles failed fates x Succeeded e after = stops failed fates x after (λ why i. absurd (cc))

    series_keeps : (fates : List Fate) (fate : Fate) (x : Series) → Stands fates x → Stands (fates ++ fate ∷ []) (series_step plan naks limit sends answer cut fate x)
    series_keeps fates fate x h =
        let y = step fate x.attempt in
        subst (λ n. Stands (fates ++ fate ∷ []) (settle plan naks limit n y y.phase)) (sym h.count)
        (settles h.failed (fates ++ fate ∷ []) y y.phase refl (goes_on h.failed fates x.attempt fate h.attempts))

    series_all : (used fates : List Fate) (x : Series) → Stands used x → Stands (used ++ fates) (series_run plan naks limit sends answer cut fates x)
    series_all used [] x h = subst (λ y. Stands y x) (sym (append-nil used)) h
    series_all used (f ∷ fates) x h =
        let y = series_step plan naks limit sends answer cut f x in
        subst (λ z. Stands z (series_run plan naks limit sends answer cut fates y)) (append_assoc used (f ∷ []) fates)
        (series_all (used ++ f ∷ []) fates y (series_keeps used f x h))

    -- each reset brings both ends together again
    pub series_stands : (fates : List Fate) → Stands fates (series_run plan naks limit sends answer cut fates (fresh plan naks limit 1))
    series_stands fates = series_all [] fates (fresh plan naks limit 1) (starts 0 [] (here [] first refl))

    -- Each failed attempt cost a loss of its own, or a whole measure of Busy.
    record IsPaid (failed : ℕ) (fates : List Fate) : Type 0 where
      measures : ℕ
      busy_for : measures * suc naks ≤ busies fates
      paid_for : failed ≤ losses fates + measures

    one_paid : (failed : ℕ) (used more fates : List Fate) → fates ≡ used ++ more → HasCost naks used → IsPaid failed more → IsPaid (suc failed) fates
    one_paid failed used more fates parts (inl some) p =
        let l = ap losses parts ∙ losses-append used more in
        let b = ap busies parts ∙ busies-append used more in
        let enough = p.busy_for in
        let most = p.paid_for in
        record { measures = p.measures; busy_for = omega arith; paid_for = omega arith }
    one_paid failed used more fates parts (inr many) p =
        let l = ap losses parts ∙ losses-append used more in
        let b = ap busies parts ∙ busies-append used more in
        let one = one_more p.measures (suc naks) in
        let enough = p.busy_for in
        let most = p.paid_for in
        record { measures = suc p.measures; busy_for = omega arith; paid_for = omega arith }

    paid : (failed : ℕ) (fates : List Fate) (x : Attempt) → After failed fates x → IsPaid failed fates
    paid zero fates x after = record { measures = 0; busy_for = omega arith; paid_for = omega arith }
    paid (suc failed) fates x (used, more, parts, broke, cost, rest) = one_paid failed used more fates parts cost (paid failed more x rest)

    -- the measures of Busy are at most as many as there is Busy for
    costs : (fates : List Fate) (attempts : ℕ) → limit ≤ attempts → IsPaid attempts fates → limit ≤ losses fates + busies fates / suc naks
    costs fates attempts all_used p =
        let most = p.paid_for in
        let enough : p.measures ≤ busies fates / suc naks = le-div p.measures (busies fates) (suc naks) (omega arith) p.busy_for in
        omega arith

    module _ (settled : moved ≡ false) where
      is_all : (used : List Fate) (x : Attempt) → Ends used x Succeeded → (x.replies ≡ all) × (x.device.state ≡ last)
      is_all used x (replies, inl state) = (replies, state)
      is_all used x (replies, inr (loose, lost, state)) = absurd (cc)

      judged : (fates : List Fate) (x : Series) (phase : Phase) → x.attempt.phase ≡ phase → Stands fates x →
          Verdict naks limit all last (losses fates) (busies fates) x.attempts x.attempt phase
      judged fates x (Running h) e s = tt
      judged fates x Succeeded e s =
          let (used, is) = last_of s.failed fates x.attempt s.attempts in
          is_all used x.attempt (ends_at used x.attempt Succeeded is e)
      judged fates x (Broken why) e s =
          let all_used = s.all why e in
          let count = s.count in (
            blames s.failed fates x.attempt why s.attempts e,
            all_used,
            costs fates (suc s.failed) (omega arith) (paid (suc s.failed) fates first (fails s.failed fates x.attempt why s.attempts e)),
          )

      pub series_judged : (fates : List Fate) →
          (let x = series_run plan naks limit sends answer cut fates (fresh plan naks limit 1) in
          Verdict naks limit all last (losses fates) (busies fates) x.attempts x.attempt x.attempt.phase)
      series_judged fates =
          let x = series_run plan naks limit sends answer cut fates (fresh plan naks limit 1) in
          judged fates x x.attempt.phase refl (series_stands fates)
