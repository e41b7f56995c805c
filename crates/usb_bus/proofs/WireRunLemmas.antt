-- Transfers by a plan, talks and enumerations over a bus of bytes are those under fates.
use Rattle.std.proofs.Common.{◌≡◌, inl, inr, ◌≤◌, ◌<◌, ◌+◌, ℕ, zero, suc, List, [], ◌∷◌, ◌++◌, length, not, refl, ap, sym, ◌∙◌, subst, arith}
use Rattle.usb_fields.specs.declared.packet.Speed.{Speed}
use Rattle.usb_fields.specs.declared.setup.Setup.{Setup}
use Rattle.usb_host.specs.declared.reply.Reply.{Reply}
use Rattle.usb_host.specs.declared.transfer.TransferStage.{TransferStage}
use Rattle.usb_host.specs.declared.transfer.TransferStage.TheVariants as stages
use Rattle.usb_host.specs.declared.why.Why.TheVariants as whys
use Rattle.usb_host.specs.Limits.{LimitView}
use Rattle.usb_host.specs.Plan.{Plan}
use Rattle.usb_host.specs.Steps.{Takes, outcome_of, reset, wanted}
use Rattle.usb_host.specs.Transfer.{due_of}
use Rattle.usb_device.specs.declared.state.State.{State}
use Rattle.usb_device.specs.Requests.{Outcome}
use Rattle.usb_device.specs.Step.{DeviceView, new_device}
use Rattle.usb_bus.specs.declared.fate.Fate.{Fate}
use Rattle.usb_bus.specs.declared.fate.Fate.TheVariants.{Pass}
use Rattle.usb_bus.specs.declared.enumeration.Run.{Run}
use Rattle.usb_bus.specs.Attempt.{Attempt, Phase, Running, Succeeded, Broken, advance, attempt_step, attempt_run}
use Rattle.usb_bus.specs.Bus.{HostEnd, busies, busy, carried, exchanged, has_data, losses, lost}
use Rattle.usb_bus.specs.Enumerate.{IsTransactionAt, Pair, RunsAt, new_pair}
use Rattle.usb_bus.specs.Run.{fate_at}
use Rattle.usb_bus.specs.Wire.{Event, one_if}
use Rattle.usb_bus.specs.WireRuns.{Counts, IsWireEnumerationAt, IsWireRunFrom, WireAttempt, WireAttemptStep, WireRunsAt}
use Rattle.usb_bus.specs.WireLaws.{AreFates, IsAlike, IsFated, IsFatedFrom}
use Rattle.usb_bus.proofs.TestedRuns.{same_alike}
use Rattle.usb_bus.proofs.WireFates.{alike_then, carried_alike, fated, one_step}

-- ---- transfers by a plan

-- two attempts that are the same but for whether the device waits for an ACK
pub record SameAttempt (y z : Attempt) : Type 0 where
  pub replies : y.replies ≡ z.replies
  pub phase : y.phase ≡ z.phase
  pub device : IsAlike y.device z.device

after_same : (x y z : Attempt) → x ≡ y → SameAttempt y z → SameAttempt x z
after_same x y z is same = subst (λ w. SameAttempt w z) (sym is) same

module _ (answer : State → Setup → Outcome) (packet : ℕ) (plan : List Reply → Plan) (naks : ℕ) (sends : List Reply → List ℕ) where
  advance_alike : (replies : List Reply) (h : HostEnd) (stage : TransferStage) (d e : DeviceView) → IsAlike d e →
      SameAttempt (advance plan naks sends replies h stage d) (advance plan naks sends replies h stage e)
  advance_alike replies h stages.Setup d e alike = record { replies = refl; phase = refl; device = alike }
  advance_alike replies h stages.DataIn d e alike = record { replies = refl; phase = refl; device = alike }
  advance_alike replies h stages.DataOut d e alike = record { replies = refl; phase = refl; device = alike }
  advance_alike replies h stages.StatusOut d e alike = record { replies = refl; phase = refl; device = alike }
  advance_alike replies h stages.StatusIn d e alike = record { replies = refl; phase = refl; device = alike }
  advance_alike replies h stages.Completed d e alike = record { replies = refl; phase = refl; device = alike }
  advance_alike replies h (stages.Failed whys.NoAnswer) d e alike = record { replies = refl; phase = refl; device = alike }
  advance_alike replies h (stages.Failed whys.Busy) d e alike = record { replies = refl; phase = refl; device = alike }
  advance_alike replies h (stages.Failed whys.Stalled) d e alike = record { replies = refl; phase = refl; device = alike }
  advance_alike replies h (stages.Failed whys.TooLong) d e alike = record { replies = refl; phase = refl; device = alike }
  advance_alike replies h (stages.Failed whys.Unexpected) d e alike = record { replies = refl; phase = refl; device = alike }
  advance_alike replies h (stages.Failed whys.Malformed) d e alike = record { replies = refl; phase = refl; device = alike }
  advance_alike replies h (stages.Failed whys.Memory) d e alike = record { replies = refl; phase = refl; device = alike }

  pub record AttemptFated (v : Event) (replies : List Reply) (phase : Phase) (e : DeviceView) (y : Attempt) (fate : Fate) : Type 0 where
    pub same : SameAttempt y (attempt_step plan naks sends answer packet fate replies phase e)
    pub loses : lost fate ≤ one_if v.damaged
    pub delays : busy fate ≤ one_if (not v.ready)

  one_attempt_step : (v : Event) (replies : List Reply) (phase : Phase) (d e : DeviceView) (y : Attempt) → IsAlike d e → WireAttemptStep answer packet plan naks sends v replies phase d y
      → (fate : Fate) × AttemptFated v replies phase e y fate
  one_attempt_step v replies (Running h) d e y alike (x, step, is) =
      let one = one_step answer packet (has_data (sends replies)) (due_of h.transfer (sends replies)) v h d e x alike step in
      let z = exchanged answer packet (has_data (sends replies)) h e (due_of h.transfer (sends replies)) one.0 in
      let moved : y ≡ advance plan naks sends replies z.host z.host.transfer.stage x.device =
      is ∙ ap (λ k. advance plan naks sends replies k k.transfer.stage x.device) one.1.host in (
        one.0,
        record {
          same = after_same y _ _ moved (advance_alike replies z.host z.host.transfer.stage x.device z.device one.1.device);
          loses = one.1.loses;
          delays = one.1.delays;
        },
      )
  one_attempt_step v replies Succeeded d e y alike is =
      (Pass, record { same = after_same y _ _ is (record { replies = refl; phase = refl; device = alike }); loses = omega arith; delays = omega arith })
  one_attempt_step v replies (Broken why) d e y alike is =
      (Pass, record { same = after_same y _ _ is (record { replies = refl; phase = refl; device = alike }); loses = omega arith; delays = omega arith })

  -- a point of an attempt
  abbrev point : List Reply → Phase → DeviceView → Attempt
  point replies phase d = record { replies = replies; phase = phase; device = d }

  attempts : (events : List Event) (replies : List Reply) (phase : Phase) (d e : DeviceView) (z : Attempt) → IsAlike d e →
      WireAttempt answer packet plan naks sends events (point replies phase d) z →
      (fates : List Fate) × AreFates events fates × SameAttempt z (attempt_run plan naks sends answer packet fates (point replies phase e))
  attempts [] replies phase d e z alike is =
      ([], record { count = refl; loses = omega arith; delays = omega arith }, after_same z _ _ is (record { replies = refl; phase = refl; device = alike }))
  attempts (v ∷ events) replies phase d e z alike (y, step, run) =
      let one = one_attempt_step v replies phase d e y alike step in
      let next = attempt_step plan naks sends answer packet one.0 replies phase e in
      let from : WireAttempt answer packet plan naks sends events (point next.replies next.phase y.device) z =
      subst (λ p. WireAttempt answer packet plan naks sends events (point next.replies p y.device) z) one.1.same.phase
      (subst (λ r. WireAttempt answer packet plan naks sends events (point r y.phase y.device) z) one.1.same.replies run) in
      let more = attempts events next.replies next.phase y.device next.device z one.1.same.device from in (
        one.0 ∷ more.0,
        record {
          count = ap (λ k. suc k) more.1.count;
          loses = omega (arith, one.1.loses, more.1.loses);
          delays = omega (arith, one.1.delays, more.1.delays);
        },
        more.2,
      )

pub attempts_fated : (answer : State → Setup → Outcome) (packet : ℕ) (plan : List Reply → Plan) (naks : ℕ) (sends : List Reply → List ℕ)
    (events : List Event) (x y : Attempt) → WireAttempt answer packet plan naks sends events x y →
    (fates : List Fate) × AreFates events fates × SameAttempt y (attempt_run plan naks sends answer packet fates x)
attempts_fated answer packet plan naks sends events x y run =
    attempts answer packet plan naks sends events x.replies x.phase x.device x.device y (same_alike x.device x.device refl) run

-- ---- enumerations

losses_more : (fates : List Fate) (f : Fate) → losses (fates ++ f ∷ []) ≡ lost f + losses fates
losses_more [] f = refl
losses_more (g ∷ fates) f = let rest = losses_more fates f in omega (arith, rest)

busies_more : (fates : List Fate) (f : Fate) → busies (fates ++ f ∷ []) ≡ busy f + busies fates
busies_more [] f = refl
busies_more (g ∷ fates) f = let rest = busies_more fates f in omega (arith, rest)

length_more : (fates : List Fate) (f : Fate) → length (fates ++ f ∷ []) ≡ suc (length fates)
length_more [] f = refl
length_more (g ∷ fates) f = ap (λ n. suc n) (length_more fates f)

at_end : (fates : List Fate) (f : Fate) → fate_at (fates ++ f ∷ []) (length fates) ≡ f
at_end [] f = refl
at_end (g ∷ fates) f = at_end fates f

at_before : (fates : List Fate) (f : Fate) (k : ℕ) → k < length fates → fate_at fates k ≡ fate_at (fates ++ f ∷ []) k
at_before [] f k before = absurd (omega (arith, before))
at_before (g ∷ fates) f zero before = refl
at_before (g ∷ fates) f (suc k) before = at_before fates f k (omega (arith, before))

module _ (table : State → Setup → Outcome) (packet : ℕ) where
  -- a fate more changes nothing before it
  runs_more : (fates : List Fate) (f : Fate) (new : Pair) (earlier : List Pair) (n : ℕ) (last : Pair) → n ≤ length fates →
      RunsAt table packet fates new earlier n last → RunsAt table packet (fates ++ f ∷ []) new earlier n last
  runs_more fates f new [] n last few run = run
  runs_more fates f new (x ∷ earlier) n last few (inl (is_reset, run)) = inl (is_reset, runs_more fates f new earlier n x few run)
  runs_more fates f new (x ∷ earlier) n last few (inr (m, count, step, run)) =
      let less : m < length fates = omega (arith, count, few) in
      inr (m, count, subst (λ g. IsTransactionAt table packet g x last) (at_before fates f m less) step, runs_more fates f new earlier m x (omega (arith, less)) run)

  -- the same host at its end, and a device that is alike
  pub record RunFated (new : Pair) (n : Counts) (last : Pair) (fates : List Fate) (earlier : List Pair) (ends : Pair) : Type 0 where
    pub runs : RunsAt table packet fates new earlier n.transactions ends
    pub count : length fates ≡ n.transactions
    pub host : ends.host ≡ last.host
    pub device : IsAlike last.device ends.device
    pub loses : losses fates ≤ n.damaged
    pub delays : busies fates ≤ n.unready

  pub run_fated : (new : Pair) (earlier : List Pair) (n : Counts) (last : Pair) → WireRunsAt table packet new earlier n last →
      (fates : List Fate) × (later : List Pair) × (ends : Pair) × RunFated new n last fates later ends
  run_fated new [] n last (is, none) = (
    [],
    [],
    new,
    record {
      runs = (refl, ap (λ c. c.transactions) none);
      count = sym (ap (λ c. c.transactions) none);
      host = sym (ap (λ p. p.host) is);
      device = same_alike _ _ (ap (λ p. p.device) is);
      loses = omega arith;
      delays = omega arith;
    },
  )
  run_fated new (x ∷ earlier) n last (inl (resets, run)) =
      let before = run_fated new earlier n x run in
      let was = before.2 in
      let is = before.3 in
      let ends : Pair = record { host = last.host; device = new_device } in (
        before.0,
        was ∷ before.1,
        ends,
        record {
          runs = inl (record { due = ap (λ h. wanted h.phase) is.host ∙ resets.due; host = resets.host ∙ ap reset (sym is.host); device = refl }, is.runs);
          count = is.count;
          host = refl;
          device = same_alike _ _ resets.device;
          loses = is.loses;
          delays = is.delays;
        },
      )
  run_fated new (x ∷ earlier) n last (inr (v, m, counted, step, run)) =
      let before = run_fated new earlier m x run in
      let fates = before.0 in
      let was = before.2 in
      let is = before.3 in
      let found = fated table packet x.device step.sent v step.brings step.carries in
      let fate = found.0 in
      let moved = carried_alike table packet x.device was.device step.sent fate is.device in
      let ends : Pair = record { host = last.host; device = (carried table packet was.device step.sent fate).device } in
      let here : fate_at (fates ++ fate ∷ []) m.transactions ≡ fate = ap (λ k. fate_at (fates ++ fate ∷ []) k) (sym is.count) ∙ at_end fates fate in
      let received = found.1.reply ∙ moved.reply in
      let took = subst (λ q. Takes x.host q last.host) received step.host in
      let taken = subst (λ h. Takes h (carried table packet was.device step.sent fate).reply last.host) (sym is.host) took in
      let by_fate : IsTransactionAt table packet fate was ends =
      record { sent = step.sent; due = ap (λ h. wanted h.phase) is.host ∙ step.due; host = taken; device = refl } in (
        fates ++ fate ∷ [],
        was ∷ before.1,
        ends,
        record {
          runs = inr (
            m.transactions,
            ap (λ c. c.transactions) counted,
            subst (λ g. IsTransactionAt table packet g was ends) (sym here) by_fate,
            runs_more fates fate new before.1 m.transactions was (omega (arith, is.count)) is.runs,
          );
          count = length_more fates fate ∙ ap (λ k. suc k) is.count ∙ sym (ap (λ c. c.transactions) counted);
          host = refl;
          device = alike_then _ _ _ (same_alike _ _ step.device) (alike_then _ _ _ found.1.device moved.device);
          loses = omega (arith, losses_more fates fate, is.loses, found.1.loses, ap (λ c. c.damaged) counted);
          delays = omega (arith, busies_more fates fate, is.delays, found.1.delays, ap (λ c. c.unready) counted);
        },
      )

pub runs_from_fated : (new : Pair) (table : State → Setup → Outcome) (packet : ℕ) (n : Counts) (run : Run) →
    IsWireRunFrom new table packet n run → (fates : List Fate) × IsFatedFrom new table packet n run fates
runs_from_fated new table packet n run (earlier, last, runs, many, resets, outcome, state) =
    let all = run_fated table packet new earlier n last runs in
    let is = all.3 in (
      all.0,
      record {
        runs = (
          all.1,
          all.2,
          subst (λ k. RunsAt table packet all.0 new all.1 k all.2) many is.runs,
          ap (λ h. h.resets) is.host ∙ resets,
          ap (λ h. outcome_of h.phase) is.host ∙ outcome,
          sym is.device.state ∙ state,
        );
        count = is.count;
        loses = is.loses;
        delays = is.delays;
      },
    )

pub enumerations_fated : (table : State → Setup → Outcome) (packet : ℕ) (speed : Speed) (limits : LimitView) (n : Counts) (run : Run) →
    IsWireEnumerationAt table packet speed limits n run → (fates : List Fate) × IsFated table packet speed limits n run fates
enumerations_fated table packet speed limits n run is = runs_from_fated (new_pair limits speed) table packet n run is
