-- What is known of a device's state in a conversation with it, and that it answers as in that state.
use Rattle.std.proofs.Common.{◌≡◌, ◌≢◌, ◌⊎◌, inl, inr, ◌<◌, ◌≤◌, ◌/◌, ◌%◌, ◌==◌, ◌&&◌, ◌||◌, nat_lt, ℕ, Bool, true, false, not, if◌then◌else◌, List, [], ◌∷◌, ◌++◌, length, refl, sym, ◌∙◌, ap, subst, arith}
use Rattle.std.specs.Prelude.{Option, Some, None}
use Rattle.std.specs.List.{AllByRecursion}
use Rattle.std.proofs.lemmas.Bool.{and_from, and_parts, and_right, eq-eqb, eqb-true, false_from_ne_true, ltb-true, or_cases, or_left, or_parts, or_right}
use Rattle.usb_fields.specs.declared.setup.Setup.{Setup}
use Rattle.usb_file_data.specs.declared.file.DescriptorFile.{DescriptorFile}
use Rattle.usb_device.specs.declared.state.State.{State}
use Rattle.usb_device.specs.Freedoms.{is_standard}
use Rattle.usb_device.specs.Offers.{offer_of}
use Rattle.usb_device.specs.Requests.{Outcome, Bytes, Done, Refused, Takes, answer, answer_to}
use Rattle.usb_device.specs.States as states
use Rattle.usb_device.specs.Step.{carried_out, is_set_address}
use Rattle.usb_fields.specs.Setup.{class_of}
use Rattle.usb_bus.specs.Beside.{IsTable}
use Rattle.usb_bus.specs.Converse as converse
use Rattle.usb_bus.specs.Converse.{AskedView, without_data}
use Rattle.usb_capture.specs.declared.asked.Asked.{Asked}
use Rattle.usb_capture.specs.declared.control_transfer.ControlTransfer.{ControlTransfer}
use Rattle.usb_capture.specs.declared.finding.Finding.{Finding}
use Rattle.usb_capture.specs.declared.finding.Finding.TheVariants.{OtherFeature, OtherSetting, OtherStatus, OtherValue}
use Rattle.usb_capture.specs.DeviceStates.{answers_otherwise, are_all_said, are_like, asks_for_status, changes_feature, changes_state, differs_by, differs_in, is_compared, is_either, is_like, is_of_setting, offer_said, shows, state_at, state_by, state_known, takes_address, with_change}
use Rattle.usb_capture.specs.Findings.{asked_of, gives_address, is_stall, may_change, reads_configuration, resets_port, said, sets_address, sets_descriptor}
use Rattle.usb_capture.specs.Readings.{is_done}
use Rattle.usb_capture.specs.TransferFindings.{is_found}
use Rattle.usb_recorded_runs.specs.Answers.{IsConversation, IsOfDevice, IsSent, Shows, found_otherwise}
use Rattle.usb_recorded_runs.specs.Findings.{IsTransferFreeAfter}
use Rattle.usb_recorded_runs.proofs.ComparedLemmas.{is_compared_code, none_otherwise, uncompared}
use Rattle.usb_recorded_runs.proofs.MoveLemmas.{Keeps, next_gone, next_kept, same_answer}
use Rattle.usb_recorded_runs.proofs.SaidSets.{IsSaidOf}
use Rattle.usb_recorded_runs.proofs.ShownLemmas.{address_taken, asks_so, request_parts, said_before, stalls_refused}

-- ---- requests

-- Answers to requests that are compared have two bytes at most.
last_of : (a b : Bool) (n k : ℕ) → k ≤ 2 → (a && b && n == k) ≡ true → n ≤ 2
last_of a b n k few e = let same : n ≡ k = eqb-true n k (and_parts (a && b) (n == k) e).1 in omega (arith, few, same)

module _ (q : Setup) where
  few_of_status : asks_for_status q ≡ true → q.length ≤ 2
  few_of_status e =
      last_of (((q.request_type == 128 && q.index == 0) || q.request_type == 129 || q.request_type == 130) && q.request == 0 && q.value == 0)
      (nat_lt q.index 256) q.length 2 (omega arith) e

  few_of_feature : changes_feature q ≡ true → q.length ≤ 2
  few_of_feature e =
      last_of true (q.request == 1 || q.request == 3) q.length 0 (omega arith)
      (and_parts ((q.request == 1 || q.request == 3) && q.length == 0)
      ((q.request_type == 0 && q.value == 1 && q.index == 0) || (q.request_type == 2 && q.value == 0 && nat_lt q.index 256)) e).0

  abbrev asks_setting : Bool
  asks_setting = q.request_type == 129 && q.request == 10 && q.value == 0 && q.length == 1

  abbrev chooses_setting : Bool
  chooses_setting = q.request_type == 1 && q.request == 11 && nat_lt q.value 256 && q.length == 0

  few_of_setting : is_of_setting q ≡ true → q.length ≤ 2
  few_of_setting e = of (or_cases asks_setting chooses_setting (and_parts (nat_lt q.index 256) (asks_setting || chooses_setting) e).1)
    where
      of : (asks_setting ≡ true) ⊎ (chooses_setting ≡ true) → q.length ≤ 2
      of (inl a) = last_of (q.request_type == 129 && q.request == 10) (q.value == 0) q.length 1 (omega arith) a
      of (inr c) = last_of (q.request_type == 1 && q.request == 11) (nat_lt q.value 256) q.length 0 (omega arith) c

  few_of_configuration : reads_configuration q ≡ true → q.length ≤ 2
  few_of_configuration e = last_of (q.request_type == 128 && q.request == 8 && q.value == 0) (q.index == 0) q.length 1 (omega arith) e

  few_asked : is_compared q ≡ true → q.length ≤ 2
  few_asked e = of (or_cases (asks_for_status q || changes_feature q || is_of_setting q) (reads_configuration q) e)
    where
      feature : (asks_for_status q ≡ true) ⊎ (changes_feature q ≡ true) → q.length ≤ 2
      feature (inl is) = few_of_status is
      feature (inr is) = few_of_feature is

      setting : ((asks_for_status q || changes_feature q) ≡ true) ⊎ (is_of_setting q ≡ true) → q.length ≤ 2
      setting (inl is) = feature (or_cases (asks_for_status q) (changes_feature q) is)
      setting (inr is) = few_of_setting is

      of : ((asks_for_status q || changes_feature q || is_of_setting q) ≡ true) ⊎ (reads_configuration q ≡ true) → q.length ≤ 2
      of (inl is) = setting (or_cases (asks_for_status q || changes_feature q) (is_of_setting q) is)
      of (inr is) = few_of_configuration is

  -- None of them reads a descriptor,
  reads_none : is_compared q ≡ true → (q.request == 6) ≡ false
  reads_none e = false_from_ne_true (q.request == 6) (λ reads.
      let w : true ≡ false = sym e ∙ uncompared q (ap is_compared_code (eqb-true q.request 6 reads)) in cc)

  -- and no request that changes the state does.
  changes_none : changes_state q ≡ true → (q.request == 6) ≡ false
  changes_none e = false_from_ne_true (q.request == 6) (λ reads.
      let code = (and_parts (is_standard (class_of q.request_type)) (q.request == 1 || q.request == 3 || q.request == 9 || q.request == 11) e).1 in
      let w : true ≡ false = sym code ∙ ap (λ n. n == 1 || n == 3 || n == 9 || n == 11) (eqb-true q.request 6 reads) in
      cc)

-- ---- what is shown

like_one : (q : Setup) (n : ℕ) → is_like q n n ≡ true
like_one q n =
    or_left (n == n) (asks_for_status q && ((q.request_type == 128 && n / 2 == n / 2) || (q.request_type == 130 && n == 1))) (eq-eqb n n refl)

like_self : (q : Setup) (b : List ℕ) → length b ≤ 2 → are_like q b b ≡ true
like_self q [] few = refl
like_self q (m ∷ []) few = like_one q m
like_self q (m ∷ n ∷ []) few = and_from (is_like q m m) (n == n) (like_one q m) (eq-eqb n n refl)
like_self q (m ∷ n ∷ k ∷ rest) few = absurd (let w : ⊥ = omega (arith, few) in w)

bytes_shown : (b : List ℕ) (t : ControlTransfer) → Shows (Bytes b) t → length b ≤ 2 → shows (Bytes b) t ≡ true
bytes_shown b t shown few =
    and_from (is_done t.ending && t.length == length b) (t.is_cut || are_like t.setup t.data b)
    (and_from (is_done t.ending) (t.length == length b) (ap is_done shown.0) (eq-eqb t.length (length b) shown.1)) (of t.is_cut refl)
  where
    of : (cut : Bool) → t.is_cut ≡ cut → (t.is_cut || are_like t.setup t.data b) ≡ true
    of true e = or_left t.is_cut (are_like t.setup t.data b) e
    of false e = or_right t.is_cut (are_like t.setup t.data b) (subst (λ d. are_like t.setup d b ≡ true) (sym (shown.2 e)) (like_self t.setup b few))

-- A transfer that shows an answer passes the test of it.
shown_so : (o : Outcome) (t : ControlTransfer) → Shows o t → ((b : List ℕ) → o ≡ Bytes b → length b ≤ 2) → shows o t ≡ true
shown_so (Bytes b) t shown few = bytes_shown b t shown (few b refl)
shown_so (Done next) t shown few = ap is_done shown.0
shown_so Refused t shown few = ap is_stall shown.0
shown_so (Takes judge) t shown few = absurd shown

-- ---- what is known of the state

-- Who knows the first bytes of each descriptor, and all of each configuration, knows which sets the device offers.
abbrev pub OffersSaid : DescriptorFile → Type 0
OffersSaid f =
    (known : Asked → List ℕ) (asked : Asked) → IsSaidOf f known asked → are_all_said known asked ≡ true → (offer_said known asked).sets ≡ (offer_of f).sets

-- of no other address than that of the device, where it has one, and of that its own state
abbrev IsKnown : State → Asked → Option State → Type 0
IsKnown s asked None = Unit {0}
IsKnown s asked (Some u) = (asked.device ≢ 0) × (s.address ≢ 0 → (asked.device ≡ s.address) × (u ≡ s))

-- after these transfers with a device that is in this state
record IsFollowed (f : DescriptorFile) (bus : ℕ) (s : State) (earlier : List ControlTransfer) : Type 0 where
  requests : List AskedView
  reached : s ≡ converse.state_after (answer f) states.zero requests
  fresh : s.address ≡ 0 → s ≡ states.zero
  known : (asked : Asked) → asked.bus ≡ bus → IsKnown s asked (state_known asked earlier)
  each : AllByRecursion (IsOfDevice f) earlier

known_less : (s : State) (asked : Asked) (o : Option State) → IsKnown s asked o → IsKnown states.zero asked o
known_less s asked None is = tt
known_less s asked (Some u) is = (is.0, λ some. absurd (some refl))

-- A reset leaves what is known, until the next transfer at address 0.
reset_followed : (f : DescriptorFile) (bus : ℕ) (s : State) (earlier : List ControlTransfer) → IsFollowed f bus s earlier → IsFollowed f bus states.zero earlier
reset_followed f bus s earlier is = record {
  requests = [];
  reached = refl;
  fresh = λ e. refl;
  known = λ asked same. known_less s asked (state_known asked earlier) (is.known asked same);
  each = is.each;
}

after_one : (table : State → Setup → Outcome) (s : State) (requests : List AskedView) (q : Setup)
    → converse.state_after table s (requests ++ without_data q ∷ [])
    ≡ carried_out (converse.state_after table s requests) (table (converse.state_after table s requests) q)
after_one table s [] q = refl
after_one table s (a ∷ requests) q = after_one table (carried_out s (table s a.setup)) requests q

module _ (f : DescriptorFile) (table : IsTable (answer f)) (sets : OffersSaid f) (bus : ℕ) (s : State) (earlier : List ControlTransfer)
    (is : IsFollowed f bus s earlier) (t : ControlTransfer) (sent : IsSent f bus s t) where
  abbrev next : State
  next = carried_out s (answer f s t.setup)

  abbrev known : Asked → List ℕ
  known asked = said asked earlier

  of_device : IsOfDevice f t
  of_device = record {
    requests = is.requests;
    address = sent.address ∙ ap (λ u. u.address) is.reached;
    shown = subst (λ u. Shows (answer f u t.setup) t) is.reached sent.shown;
  }

  -- what a device with the sets that were said answers
  offered : (q : Setup) → (q.request == 6) ≡ false → are_all_said known (asked_of t) ≡ true → answer_to (offer_said known (asked_of t)) s q ≡ answer f s q
  offered q other all =
      same_answer s q other f (offer_said known (asked_of t)) (sets known (asked_of t) (λ a bus device. said_before f a earlier is.each) all)

  -- ---- the next state

  next_fresh : next.address ≡ 0 → next ≡ states.zero
  next_fresh none = of (is_set_address t.setup) refl
    where
      same : next ≡ s → next ≡ states.zero
      same e = e ∙ is.fresh (sym (ap (λ u. u.address) e) ∙ none)

      gone : t.setup.value ≢ 0 → (next ≡ s) ⊎ (next ≡ record s { address = t.setup.value }) → next ≡ states.zero
      gone some (inl e) = same e
      gone some (inr e) = absurd (some (sym (ap (λ u. u.address) e) ∙ none))

      kept : Keeps f table s t.setup next → next ≡ states.zero
      kept (inl e) = same e
      kept (inr changes) =
          let zero : s.address ≡ 0 = sym changes.2 ∙ none in
          let w : false ≡ true = sym (ap (λ n. not (n == 0)) zero) ∙ changes.1 in
          absurd (let v : ⊥ = cc in v)

      of : (gives : Bool) → is_set_address t.setup ≡ gives → next ≡ states.zero
      of true e = gone (sent.given e).1 (next_gone f table s t.setup e)
      of false e = kept (next_kept f table s t.setup e)

  module _ (asked : Asked) (on_bus : asked.bus ≡ bus) where
    abbrev at_address : ℕ → State → State
    at_address address u = record u { address = address }

    -- SET_ADDRESS at address 0
    taken : takes_address t asked ≡ true → IsKnown next asked (Some (state_at asked.device))
    taken e =
        let q = t.setup in
        let a = and_parts (is_done t.ending && gives_address q && t.bus == asked.bus && t.device == 0 && q.value == asked.device) (nat_lt 0 asked.device) e in
        let b = and_parts (is_done t.ending && gives_address q && t.bus == asked.bus && t.device == 0) (q.value == asked.device) a.0 in
        let c = and_parts (is_done t.ending && gives_address q && t.bus == asked.bus) (t.device == 0) b.0 in
        let gives = (and_parts (is_done t.ending) (gives_address q) (and_parts (is_done t.ending && gives_address q) (t.bus == asked.bus) c.0).0).1 in
        let asks = request_parts (q.request_type == 0) (q.request == 5) (nat_lt q.value 128) (q.index == 0) (q.length == 0) gives in
        let none : s.address ≡ 0 = sym sent.address ∙ eqb-true t.device 0 c.1 in
        let some : 0 < asked.device = ltb-true 0 asked.device a.1 in
        let done : answer f s q ≡ Done (record s { address = q.value }) =
        ap (answer f s) (asks_so f s q 0 5 0 0 asks.of_type asks.of_request asks.of_index asks.of_size)
        ∙ address_taken f s q.value (ap (λ n. not (n == 0)) none) asks.of_value in
        let same : next ≡ state_at asked.device =
        ap (carried_out s) done ∙ ap (at_address q.value) (is.fresh none) ∙ ap state_at (eqb-true q.value asked.device b.1) in
        ((λ free. let w : ⊥ = omega (arith, some, free) in w), λ has. (sym (ap (λ u. u.address) same), sym same))

    -- where nothing else may have changed, and something is known
    module _ (unchanged : may_change t asked ≡ false) (u : State) (knows : IsKnown s asked (Some u)) where
      -- it is addressed anew, or its descriptors are set
      abbrev renews : Bool
      renews = t.device == asked.device && (sets_address t.setup || sets_descriptor t.setup)

      no_reset : (t.device == 0 || resets_port t.setup || renews) ≡ false
      no_reset = false_from_ne_true (t.device == 0 || resets_port t.setup || renews) (λ e.
          let changes = and_from (t.bus == asked.bus) (t.device == 0 || resets_port t.setup || renews) (eq-eqb t.bus asked.bus (sent.on_bus ∙ sym on_bus)) e in
          let w : true ≡ false = sym changes ∙ unchanged in
          cc)

      has : s.address ≢ 0
      has none =
          let first = or_parts (t.device == 0 || resets_port t.setup) renews no_reset in
          let zero = (or_parts (t.device == 0) (resets_port t.setup) first.0).0 in
          let w : true ≡ false = sym (eq-eqb t.device 0 (sent.address ∙ none)) ∙ zero in
          cc

      own : (asked.device ≡ s.address) × (u ≡ s)
      own = knows.1 has

      at_it : (t.device == asked.device) ≡ true
      at_it = eq-eqb t.device asked.device (sent.address ∙ sym own.0)

      gives_none : is_set_address t.setup ≡ false
      gives_none = false_from_ne_true (is_set_address t.setup) (λ e.
          let last = (or_parts (t.device == 0 || resets_port t.setup) renews no_reset).1 in
          let gives : sets_address t.setup ≡ true =
          and_from (t.setup.request_type == 0) (t.setup.request == 5) (eq-eqb t.setup.request_type 0 (sent.given e).0)
          (and_parts (t.setup.request_type % 128 == 0) (t.setup.request == 5) e).1 in
          let anew = and_from (t.device == asked.device) (sets_address t.setup || sets_descriptor t.setup) at_it
          (or_left (sets_address t.setup) (sets_descriptor t.setup) gives) in
          let w : true ≡ false = sym anew ∙ last in
          cc)

      kept : Keeps f table s t.setup next
      kept = next_kept f table s t.setup gives_none

      same_known : next ≡ s → IsKnown next asked (Some u)
      same_known e = (knows.0, λ some. (own.0 ∙ ap (λ v. v.address) (sym e), own.1 ∙ sym e))

      -- the state stays
      stays : (t.bus == asked.bus && t.device == asked.device && changes_state t.setup) ≡ false → IsKnown next asked (Some u)
      stays e = of kept
        where
          of : Keeps f table s t.setup next → IsKnown next asked (Some u)
          of (inl same) = same_known same
          of (inr changes) =
              let w : true ≡ false =
              sym (and_from (t.bus == asked.bus && t.device == asked.device) (changes_state t.setup)
              (and_from (t.bus == asked.bus) (t.device == asked.device) (eq-eqb t.bus asked.bus (sent.on_bus ∙ sym on_bus)) at_it) changes.0) ∙ e in
              absurd (let v : ⊥ = cc in v)

      -- or the answer says which it is
      next_address : Keeps f table s t.setup next → next.address ≡ s.address
      next_address (inl same) = ap (λ v. v.address) same
      next_address (inr changes) = changes.2

      by_answer : (o : Outcome) → (carried_out s o).address ≡ s.address → IsKnown (carried_out s o) asked (state_by o)
      by_answer (Bytes bytes) e = tt
      by_answer (Done n) e = (knows.0, λ some. (own.0 ∙ sym e, refl))
      by_answer Refused e = tt
      by_answer (Takes judge) e = tt

      changed : changes_state t.setup ≡ true → IsKnown next asked (with_change known t (Some u))
      changed changes = of (is_stall t.ending) (is_done t.ending && are_all_said known (asked_of t)) refl refl
        where
          of : (stall done : Bool) → is_stall t.ending ≡ stall → (is_done t.ending && are_all_said known (asked_of t)) ≡ done
              → IsKnown next asked (if stall then Some u else if done then state_by (answer_to (offer_said known (asked_of t)) u t.setup) else None)
          of true done e all = same_known (ap (carried_out s) (stalls_refused (answer f s t.setup) t sent.shown e))
          of false true e all =
              subst (λ v. IsKnown next asked (state_by (answer_to (offer_said known (asked_of t)) v t.setup))) (sym own.1)
              (subst (λ o. IsKnown next asked (state_by o))
              (sym (offered t.setup (changes_none t.setup changes) (and_parts (is_done t.ending) (are_all_said known (asked_of t)) all).1))
              (by_answer (answer f s t.setup) (next_address kept)))
          of false false e all = tt

    next_known : IsKnown next asked (state_known asked (t ∷ earlier))
    next_known =
        of (takes_address t asked) (may_change t asked) (t.bus == asked.bus && t.device == asked.device && changes_state t.setup) refl refl refl
        (state_known asked earlier) (is.known asked on_bus)
      where
        of : (takes changes here : Bool) → takes_address t asked ≡ takes → may_change t asked ≡ changes
            → (t.bus == asked.bus && t.device == asked.device && changes_state t.setup) ≡ here → (before : Option State) → IsKnown s asked before
            → IsKnown next asked (if takes then Some (state_at asked.device) else if changes then None else if here then with_change known t before else before)
        of true changes here a b c before knows = taken a
        of false true here a b c before knows = tt
        of false false true a b c None knows = tt
        of false false true a b c (Some u) knows =
            changed b u knows (and_parts (t.bus == asked.bus && t.device == asked.device) (changes_state t.setup) c).1
        of false false false a b c None knows = tt
        of false false false a b c (Some u) knows = stays b u knows c

  next_followed : IsFollowed f bus next (t ∷ earlier)
  next_followed = record {
    requests = is.requests ++ without_data t.setup ∷ [];
    reached = ap (λ u. carried_out u (answer f u t.setup)) is.reached ∙ sym (after_one (answer f) states.zero is.requests t.setup);
    fresh = next_fresh;
    known = next_known;
    each = (of_device, is.each);
  }

  -- ---- the answer

  answers_so : answers_otherwise earlier t ≡ false
  answers_so = of (is_compared t.setup) refl (state_known (asked_of t) earlier) (is.known (asked_of t) sent.on_bus)
    where
      shown : is_compared t.setup ≡ true → shows (answer f s t.setup) t ≡ true
      shown e = shown_so (answer f s t.setup) t sent.shown (λ b bytes. omega (arith, table.fits s t.setup b bytes, few_asked t.setup e))

      differs : is_compared t.setup ≡ true → (all : Bool) → are_all_said known (asked_of t) ≡ all
          → (all && differs_by (offer_said known (asked_of t)) s t) ≡ false
      differs e false all = refl
      differs e true all =
          and_right ((is_done t.ending || is_stall t.ending) && not (is_either (offer_said known (asked_of t)) s t.setup))
          (not (shows (answer_to (offer_said known (asked_of t)) s t.setup) t))
          (ap (λ o. not (shows o t)) (offered t.setup (reads_none t.setup e) all) ∙ ap not (shown e))

      of : (compared : Bool) → is_compared t.setup ≡ compared → (before : Option State) → IsKnown s (asked_of t) before
          → (compared && differs_in known before t) ≡ false
      of false e before knows = refl
      of true e None knows = refl
      of true e (Some u) knows =
          let same = (knows.1 (λ none. knows.0 (sent.address ∙ none))).1 in
          ap (λ v. are_all_said known (asked_of t) && differs_by (offer_said known (asked_of t)) v t) same ∙ differs e (are_all_said known (asked_of t)) refl

-- ---- a conversation

module _ (f : DescriptorFile) (table : IsTable (answer f)) (sets : OffersSaid f) (bus : ℕ) where
  reset_or_not : (s now : State) (earlier : List ControlTransfer) → IsFollowed f bus s earlier → (now ≡ s) ⊎ (now ≡ states.zero) → IsFollowed f bus now earlier
  reset_or_not s now earlier is (inl same) = subst (λ u. IsFollowed f bus u earlier) (sym same) is
  reset_or_not s now earlier is (inr reset) = subst (λ u. IsFollowed f bus u earlier) (sym reset) (reset_followed f bus s earlier is)

  free_by : (finding : Finding)
      → ((earlier : List ControlTransfer) (t : ControlTransfer) → answers_otherwise earlier t ≡ false → is_found finding earlier t ≡ false)
      → (earlier : List ControlTransfer) (s : State) (ts : List ControlTransfer) → IsFollowed f bus s earlier → IsConversation f bus s ts
      → IsTransferFreeAfter finding earlier ts
  free_by finding free earlier s [] is all = tt
  free_by finding free earlier s (t ∷ ts) is all =
      let now : IsFollowed f bus all.0 earlier = reset_or_not s all.0 earlier is all.1 in (
        free earlier t (answers_so f table sets bus all.0 earlier now t all.2),
        free_by finding free (t ∷ earlier) (carried_out all.0 (answer f all.0 t.setup)) ts (next_followed f table sets bus all.0 earlier now t all.2) all.3,
      )

  first_followed : IsFollowed f bus states.zero []
  first_followed = record { requests = []; reached = refl; fresh = λ e. refl; known = λ asked same. tt; each = tt }

  pub none_in_conversation : (ts : List ControlTransfer) → IsConversation f bus states.zero ts
      → AllByRecursion (λ finding. IsTransferFreeAfter finding [] ts) found_otherwise
  none_in_conversation ts all = (
    free_by OtherValue (λ earlier t same. (none_otherwise earlier t same).0) [] states.zero ts first_followed all,
    (
      free_by OtherStatus (λ earlier t same. (none_otherwise earlier t same).1.0) [] states.zero ts first_followed all,
      (
        free_by OtherFeature (λ earlier t same. (none_otherwise earlier t same).1.1.0) [] states.zero ts first_followed all,
        (free_by OtherSetting (λ earlier t same. (none_otherwise earlier t same).1.1.1.0) [] states.zero ts first_followed all, tt),
      ),
    ),
  )
