-- A host ends, whatever is answered.
use Rattle.std.proofs.Common.{◌≡◌, ℕ, suc, ◌+◌, ◌<◌, ◌≤◌, ◌&&◌, nat_lt, Bool, true, false, if◌then◌else◌, List, [], ◌∷◌, length, inl, inr, refl, ap, sym, ◌∙◌, arith, subst}
use Rattle.std.specs.Prelude.{Option, Some, None, IsSome}
use Rattle.std.proofs.lemmas.Bool.Decides.{nat_tests}
use Rattle.usb_fields.specs.Packets.{Sent, Reply as Answer, AckReply, NakReply, StallReply, DataReply, NoReply, is_same_toggle}
use Rattle.usb_fields.specs.declared.packet.Toggle.{Toggle}
use Rattle.usb_fields.specs.declared.packet.Toggle.TheVariants.{Data0, Data1}
use Rattle.usb_fields.specs.declared.setup.Setup.{Setup as SetupPacket}
use Rattle.usb_fields.specs.declared.packet.Speed.{Speed}
use Rattle.usb_host.specs.declared.why.Why.{Why}
use Rattle.usb_host.specs.declared.why.Why.TheVariants.{NoAnswer, Busy, Stalled, TooLong, Unexpected, Malformed, Memory}
use Rattle.usb_host.specs.declared.transfer.TransferStage.{TransferStage}
use Rattle.usb_host.specs.declared.transfer.TransferStage.TheVariants.{Setup, DataIn, DataOut, StatusOut, StatusIn, Completed, Failed}
use Rattle.usb_host.specs.declared.choice.Choice.{Choice}
use Rattle.usb_host.specs.declared.choice.Terms.{Terms}
use Rattle.usb_host.specs.declared.step.Trouble.{Trouble}
use Rattle.usb_host.specs.Limits.{LimitView}
use Rattle.usb_host.specs.Transfer.{IsTransfer, TransferView, Goes, Taken, addressed, begun, delayed, due, failed, kept_packet, progress, struck, taken, taken_at, taken_data, taken_status, token_due}
use Rattle.usb_host.proofs.BoundLemmas.{left-taken}
use Rattle.usb_host.specs.Place.{Place, First, Address, Device, Header, Set, Qualifier, Languages, Text, Configure, Reported, Stopped}
use Rattle.usb_host.specs.Keeping.{Kept}
use Rattle.usb_host.specs.Order.{refused_leads, spared}
use Rattle.usb_host.specs.Steps.{HostPhase, ResetDue, Reading, Ended, HostView, WantsReset, WantsSent, WantsNothing, blames_bus, completed_leads, enter, chosen_host, goes_on, outcome_at, outcome_of, reset, reset_in, sends, settled, terms_of, wanted, Takes, TakesReceived, TakesIn}
use Rattle.usb_host.specs.Cost.{most, left_to_ask, BringsBytes}
use Rattle.usb_host.specs.Gathered.{Came}
use Rattle.usb_host.specs.Laws.{Asks, ChosenHostsEnd}
use Rattle.usb_host.specs.inside.Sound.{IsSteady}
use Rattle.usb_host.proofs.LowerLemmas.{asks_less, takes_low}

-- ---- the counts of a transfer stay within their limits

failed_counts : (t : TransferView) (why : Why) → IsTransfer t → IsTransfer (failed t why).transfer
failed_counts t why is = record { packet = is.packet; kept = is.kept; strikes = is.strikes; nak_count = is.nak_count }

progress_counts : (t : TransferView) (stage : TransferStage) → IsTransfer t → IsTransfer (progress t stage)
progress_counts t stage is = record { packet = is.packet; kept = is.kept; strikes = omega arith; nak_count = omega arith }

struck_counts : (t : TransferView) → IsTransfer t → IsTransfer (struck t).transfer
struck_counts t is = by (nat_lt t.strikes 2) refl
  where
    by : (b : Bool) → nat_lt t.strikes 2 ≡ b →
        IsTransfer (let s : Taken = if b then record { received = Goes; transfer = record t { strikes = suc t.strikes } } else failed t NoAnswer in s).transfer
    by true e = record { packet = is.packet; kept = is.kept; strikes = grind (arith, nat_tests); nak_count = is.nak_count }
    by false e = failed_counts t NoAnswer is

delayed_counts : (t : TransferView) → IsTransfer t → IsTransfer (delayed t).transfer
delayed_counts t is = by (nat_lt t.nak_count t.naks) refl
  where
    by : (b : Bool) → nat_lt t.nak_count t.naks ≡ b →
        IsTransfer (let s : Taken = if b then record { received = Goes; transfer = record t { nak_count = suc t.nak_count } } else failed t Busy in s).transfer
    by true e = record { packet = is.packet; kept = is.kept; strikes = is.strikes; nak_count = grind (arith, nat_tests) }
    by false e = failed_counts t Busy is

data_counts : (t : TransferView) (toggle : Toggle) (bytes : List ℕ) → IsTransfer t → IsTransfer (taken_data t toggle bytes).transfer
data_counts t toggle bytes is =
    by (nat_lt t.packet (length bytes)) (is_same_toggle toggle t.awaited) (nat_lt t.request.length (t.kept + length bytes)) refl
  where
    by : (long same past : Bool) → nat_lt t.request.length (t.kept + length bytes) ≡ past →
        IsTransfer (if long then failed t TooLong else (if same then (if past then failed t TooLong else kept_packet t bytes) else struck t)).transfer
    by true same past e = failed_counts t TooLong is
    by false false past e = struck_counts t is
    by false true true e = failed_counts t TooLong is
    by false true false e = record { packet = is.packet; kept = grind (arith, nat_tests); strikes = omega arith; nak_count = omega arith }

status_counts : (t : TransferView) (toggle : Toggle) (bytes : List ℕ) → IsTransfer t → IsTransfer (taken_status t toggle bytes).transfer
status_counts t toggle (byte ∷ bytes) is = failed_counts t TooLong is
status_counts t Data0 [] is = struck_counts t is
status_counts t Data1 [] is = progress_counts t Completed is

counts_at : (t : TransferView) (stage : TransferStage) (r : Answer) → IsTransfer t → IsTransfer (taken_at t stage r).transfer
counts_at t Setup AckReply is = progress_counts t _ is
counts_at t Setup NoReply is = struck_counts t is
counts_at t Setup r is = failed_counts t Unexpected is
counts_at t DataIn AckReply is = failed_counts t Unexpected is
counts_at t DataIn NakReply is = delayed_counts t is
counts_at t DataIn StallReply is = failed_counts t Stalled is
counts_at t DataIn (DataReply toggle bytes) is = data_counts t toggle bytes is
counts_at t DataIn NoReply is = struck_counts t is
counts_at t DataOut AckReply is = failed_counts t Unexpected is
counts_at t DataOut NakReply is = delayed_counts t is
counts_at t DataOut StallReply is = failed_counts t Stalled is
counts_at t DataOut (DataReply toggle bytes) is = failed_counts t Unexpected is
counts_at t DataOut NoReply is = struck_counts t is
counts_at t StatusOut AckReply is = progress_counts t Completed is
counts_at t StatusOut NakReply is = delayed_counts t is
counts_at t StatusOut StallReply is = failed_counts t Stalled is
counts_at t StatusOut (DataReply toggle bytes) is = failed_counts t Unexpected is
counts_at t StatusOut NoReply is = struck_counts t is
counts_at t StatusIn AckReply is = failed_counts t Unexpected is
counts_at t StatusIn NakReply is = delayed_counts t is
counts_at t StatusIn StallReply is = failed_counts t Stalled is
counts_at t StatusIn (DataReply toggle bytes) is = status_counts t toggle bytes is
counts_at t StatusIn NoReply is = struck_counts t is
counts_at t Completed r is = is
counts_at t (Failed why) r is = is

-- ---- a current read asks for something, and an end has an outcome

abbrev Works : HostPhase → Type 0
Works ResetDue = ⊥
Works (Reading place t k) = IsTransfer t × IsSome (due t)
Works (Ended place) = IsSome (outcome_at place)

begun_works : (address packet naks : ℕ) (q : SetupPacket) → 8 ≤ packet → IsTransfer (begun address packet naks q) × IsSome (due (begun address packet naks q))
begun_works address packet naks q big =
    (record { packet = omega arith; kept = omega arith; strikes = omega arith; nak_count = omega arith }, refl)

enter_works : (limits : LimitView) (place : Place) → IsSteady (enter limits place) → Works (enter limits place)
enter_works limits First s = begun_works 0 8 limits.naks _ (omega arith)
enter_works limits (Address first) s = begun_works 0 _ limits.naks _ s.0
enter_works limits (Device first) s = begun_works limits.address _ limits.naks _ s.0
enter_works limits (Header kind f) s = begun_works limits.address _ limits.naks _ s.0.0
enter_works limits (Set kind f total) s = begun_works limits.address _ limits.naks _ s.0.0
enter_works limits (Qualifier f) s = begun_works limits.address _ limits.naks _ s.0
enter_works limits (Languages f named) s = begun_works limits.address _ limits.naks _ s.0.0
enter_works limits (Text f s named) st = begun_works limits.address _ limits.naks _ st.0.0
enter_works limits (Configure f) s = begun_works limits.address _ limits.naks _ s.0
enter_works limits (Reported f) s = refl
enter_works limits (Stopped trouble) s = refl

-- a stage in which a token comes next
asks_at : (t : TransferView) (stage : TransferStage) → t.stage ≡ stage → IsSome (addressed t.address (token_due t [] stage)) → IsSome (due t)
asks_at t stage e some = subst (λ s. IsSome (addressed t.address (token_due t [] s))) (sym e) some

goes_works : (limits : LimitView) (terms : Terms) (place : Place) (t : TransferView) (k : Kept) (stage : TransferStage) → t.stage ≡ stage → IsTransfer t →
    IsSteady (goes_on limits terms place t k stage) → Works (goes_on limits terms place t k stage)
goes_works limits terms place t k Completed e is s = enter_works limits (spared terms.choice.strings place (completed_leads terms place t k)) s
goes_works limits terms place t k (Failed Stalled) e is s = enter_works limits (spared terms.choice.strings place (refused_leads terms place)) s
goes_works limits terms place t k (Failed NoAnswer) e is s = refl
goes_works limits terms place t k (Failed Busy) e is s = refl
goes_works limits terms place t k (Failed TooLong) e is s = refl
goes_works limits terms place t k (Failed Unexpected) e is s = refl
goes_works limits terms place t k (Failed Malformed) e is s = refl
goes_works limits terms place t k (Failed Memory) e is s = refl
goes_works limits terms place t k Setup e is s = (is, asks_at t Setup e refl)
goes_works limits terms place t k DataIn e is s = (is, asks_at t DataIn e refl)
goes_works limits terms place t k DataOut e is s = (is, asks_at t DataOut e refl)
goes_works limits terms place t k StatusOut e is s = (is, asks_at t StatusOut e refl)
goes_works limits terms place t k StatusIn e is s = (is, asks_at t StatusIn e refl)

received_works : (limits : LimitView) (terms : Terms) (place : Place) (k : Kept) (by : Taken) (new : HostPhase) (before after : List Trouble) →
    IsTransfer by.transfer → IsSteady new → TakesReceived limits terms place k by new before after → Works new
received_works limits terms place k by new b a is s (result, after, keeps, inl (wants, e, same)) = subst (λ p. Works p) (sym e) refl
received_works limits terms place k by new b a is s (result, after, keeps, inr (fine, e, adds)) =
    subst (λ p. Works p) (sym e)
    (goes_works limits terms place by.transfer after by.transfer.stage refl is (subst (λ p. IsSteady p) e s))

-- ---- a whole host

-- a reset is requested only while attempts are left
abbrev Stands : ℕ → ℕ → HostPhase → Type 0
Stands attempts resets ResetDue = resets < attempts
Stands attempts resets (Reading place t k) = Works (Reading place t k)
Stands attempts resets (Ended place) = Works (Ended place)

works_stands : (attempts resets : ℕ) (p : HostPhase) → Works p → Stands attempts resets p
works_stands attempts resets ResetDue w = absurd w
works_stands attempts resets (Reading place t k) w = w
works_stands attempts resets (Ended place) w = w

settled_stands : (attempts resets : ℕ) (p : HostPhase) → Works p → Stands attempts resets (settled attempts resets p)
settled_stands attempts resets ResetDue w = absurd w
settled_stands attempts resets (Reading place t k) w = w
settled_stands attempts resets (Ended (Stopped trouble)) w =
    by (blames_bus trouble.why && nat_lt resets attempts) (below (blames_bus trouble.why))
  where
    below : (b : Bool) → (b && nat_lt resets attempts) ≡ true → resets < attempts
    below true e = grind (arith, nat_tests)
    below false e = cc

    by : (b : Bool) → (b ≡ true → resets < attempts) → Stands attempts resets (if b then ResetDue else Ended (Stopped trouble))
    by true few = few refl
    by false few = refl
settled_stands attempts resets (Ended place) w = w

-- what wants a reset, and what a reset does
pub wants_reset : (p : HostPhase) → wanted p ≡ WantsReset → p ≡ ResetDue
wants_reset ResetDue e = refl
wants_reset (Reading place t k) e = by_due (due t) e
  where
    by_due : (o : Option Sent) → sends o ≡ WantsReset → Reading place t k ≡ ResetDue
    by_due None e = absurd (cc)
    by_due (Some sent) e = absurd (cc)
wants_reset (Ended place) e = absurd (cc)

pub reset_is : (v : HostView) → v.phase ≡ ResetDue → reset v ≡ record v { resets = suc v.resets; phase = enter v.limits First; forgiven = [] }
reset_is v e = ap (λ p. reset_in v p) e

module _ (limits : LimitView) where
  record IsOn (n : ℕ) (v : HostView) : Type 0 where
    limits_are : v.limits ≡ limits
    few : v.resets ≤ limits.attempts
    stands : Stands limits.attempts v.resets v.phase
    steady : IsSteady v.phase
    less : n + left_to_ask v ≤ most limits

  resets_on : (n : ℕ) (v : HostView) → wanted v.phase ≡ WantsReset → IsOn n v → IsOn n (reset v)
  resets_on n v wants on =
      let is = wants_reset v.phase wants in
      let below : v.resets < limits.attempts = subst (λ p. Stands limits.attempts v.resets p) is on.stands in
      let lower = asks_less.resets v is (subst (λ l. v.resets < l.attempts) (sym on.limits_are) below) in
      let e = reset_is v is in
      let fewer = lower.1 in
      let less = on.less in
      let resets : (reset v).resets ≡ suc v.resets = ap (λ w. w.resets) e in
      let phase : (reset v).phase ≡ enter limits First = ap (λ w. w.phase) e ∙ ap (λ l. enter l First) on.limits_are in
      record {
        limits_are = ap (λ w. w.limits) e ∙ on.limits_are;
        few = omega arith;
        stands = subst (λ p. Stands limits.attempts (reset v).resets p) (sym phase)
            (works_stands limits.attempts (reset v).resets (enter limits First)
            (enter_works limits First (subst (λ p. IsSteady p) phase lower.0)));
        steady = lower.0;
        less = omega arith;
      }

  takes_on : (n : ℕ) (v w : HostView) (p : HostPhase) (sent : Sent) (answer : Answer) → v.phase ≡ p → wanted p ≡ WantsSent sent → BringsBytes answer → IsOn n v →
      Takes v answer w → IsOn (suc n) w
  takes_on n v w ResetDue sent answer at asks bytes on takes = absurd (cc)
  takes_on n v w (Ended place) sent answer at asks bytes on takes = absurd (cc)
  takes_on n v w (Reading place t k) sent answer at asks bytes on takes =
      let (phase, received, e) : TakesIn v (Reading place t k) answer w = subst (λ x. TakesIn v x answer w) at takes in
      let steady = subst (λ p. IsSteady p) at on.steady in
      let works : IsTransfer t × IsSome (due t) = subst (λ p. Stands limits.attempts v.resets p) at on.stands in
      let falls = left-taken t answer works.0 works.1 in
      let before = takes_low v.limits (terms_of v) place t k answer phase v.forgiven w.forgiven steady bytes falls received in
      let after = asks_less.takes v w place t k answer at on.steady bytes falls takes in
      let fewer = after.1 in
      let less = on.less in
      let few = on.few in
      let resets : w.resets ≡ v.resets = ap (λ x. x.resets) e in
      let there = settled_stands v.limits.attempts v.resets phase
      (received_works v.limits (terms_of v) place k (taken t answer) phase v.forgiven w.forgiven (counts_at t t.stage answer works.0) before.0 received) in
      record {
        limits_are = ap (λ x. x.limits) e ∙ on.limits_are;
        few = omega arith;
        stands = subst (λ x. Stands limits.attempts x.resets x.phase) (sym e)
            (subst (λ l. Stands l.attempts v.resets (settled v.limits.attempts v.resets phase)) on.limits_are there);
        steady = after.0;
        less = omega arith;
      }

  asks_on : (speed : Speed) (choice : Choice) (some : 0 < limits.attempts) (earlier : List HostView) (n : ℕ) (came : Came) (last : HostView) →
      Asks (chosen_host limits speed choice) earlier n came last → IsOn n last
  asks_on speed choice some [] n came last (e, none, nothing) =
      let first = asks_less.at_most limits speed choice in
      let new : IsOn 0 (chosen_host limits speed choice) = record { limits_are = refl; few = omega arith; stands = some; steady = tt; less = omega arith } in
      subst (λ m. IsOn m last) (sym none) (subst (λ v. IsOn 0 v) (sym e) new)
  asks_on speed choice some (v ∷ earlier) n came last (inl (wants, e, nothing, (before, more))) =
      subst (λ w. IsOn n w) (sym e) (resets_on n v wants (asks_on speed choice some earlier n before v more))
  asks_on speed choice some (v ∷ earlier) n came last (inr (m, sent, answer, before, count, asks, bytes, takes, adds, more)) =
      subst (λ x. IsOn x last) (sym count) (takes_on m v last v.phase sent answer refl asks bytes (asks_on speed choice some earlier m before v more) takes)

-- what wants nothing has an outcome
ended : (attempts resets : ℕ) (p : HostPhase) → Stands attempts resets p → wanted p ≡ WantsNothing → IsSome (outcome_of p)
ended attempts resets ResetDue s e = absurd (cc)
ended attempts resets (Reading place t k) s e = absurd (by (due t) s.1 e)
  where
    by : (o : Option Sent) → IsSome o → sends o ≡ WantsNothing → ⊥
    by None some nothing = absurd (cc)
    by (Some sent) some nothing = absurd (cc)
ended attempts resets (Ended place) s e = s

pub hosts_end : ChosenHostsEnd
hosts_end limits speed choice earlier n came last some asks =
    let on = asks_on limits speed choice some earlier n came last asks in
    let less = on.less in
    (omega arith, on.few, ended limits.attempts last.resets last.phase on.stands)
