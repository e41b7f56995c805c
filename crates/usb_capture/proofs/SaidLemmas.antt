-- What is held of a descriptor after one transfer more is what was said of it.
use Rattle.std.proofs.Common.{◌≡◌, ℕ, Bool, true, false, not, List, [], ◌∷◌, ◌++◌, length, drop, refl, sym, subst, ◌∙◌, ap, arith}
use Rattle.std.specs.Prelude.{Option, Some, None, filter, cond, ◌==◌, ◌&&◌, if◌then◌else◌}
use Rattle.std.specs.List.{find}
use Rattle.std.specs.Option.{option_or}
use Rattle.std.proofs.lemmas.Bool.Decides.{nat_tests}
use Rattle.std.proofs.lemmas.List.Folds.{find-append}
use Rattle.usb_device.specs.declared.state.State.{State}
use Rattle.usb_fields.proofs.Cells.{funext}
use Rattle.usb_capture.specs.declared.asked.Asked.{Asked}
use Rattle.usb_capture.specs.declared.control_transfer.ControlTransfer.{ControlTransfer}
use Rattle.usb_capture.specs.declared.conversations.Conversations.{Conversations}
use Rattle.usb_capture.specs.declared.finding.Finding.{Finding}
use Rattle.usb_capture.specs.declared.finding.Finding.TheVariants.{MoreThanAsked, OtherType, OtherLength, OtherBytes, RefusesGiven, RefusesRequired, RefusesCounted, RefusesNamed, RefusesStatus, RefusesAddress, RefusesConfiguration, TakesConfiguration, OtherConfiguration, GivesUncounted, OtherValue, OtherStatus, OtherFeature, OtherSetting}
use Rattle.usb_capture.specs.declared.said.Said.{Said}
use Rattle.usb_capture.specs.Conversations.{Knows, adds, bytes_of, held_after, held_of, holds_in, is_of, next_state, said_now, state_of, states_after, still_held, without}
use Rattle.usb_capture.specs.DeviceStates.{state_after, state_known}
use Rattle.usb_capture.specs.Findings.{asked_of, gives, is_same, may_change, said, said_after}
use Rattle.usb_capture.specs.TransferFindings.{all_findings, findings, is_found}
use Rattle.usb_capture.proofs.FilterLemmas.{none_left, still_there}
use Rattle.usb_capture.proofs.StateLemmas.{changed_states}

numbers_same : (a b c d a' b' c' d' : ℕ) → (a == a' && b == b' && c == c' && d == d') ≡ true → (a ≡ a') × (b ≡ b') × (c ≡ c') × (d ≡ d')
numbers_same a b c d a' b' c' d' e = (grind (arith, nat_tests), grind (arith, nat_tests), grind (arith, nat_tests), grind (arith, nat_tests))

pub same_asked : (a b : Asked) → is_same a b ≡ true → a ≡ b
same_asked a b e =
    let h = numbers_same a.bus a.device a.value a.index b.bus b.device b.value b.index e in
    let of : (bus device value index : ℕ) → Asked = λ bus device value index. record { bus = bus; device = device; value = value; index = index } in
    ap (λ n. of n a.device a.value a.index) h.0 ∙ ap (λ n. of b.bus n a.value a.index) h.1 ∙ ap (λ n. of b.bus b.device n a.index) h.2 ∙ ap (λ n. of b.bus b.device b.value n) h.3

-- what is left of what was held
still_of : (t : ControlTransfer) (held : List Said) (asked : Asked) → held_of (still_held t held) asked ≡ (if may_change t asked then [] else held_of held asked)
still_of t held asked = by (may_change t asked) refl
  where
    by : (m : Bool) → may_change t asked ≡ m → held_of (still_held t held) asked ≡ (if m then [] else held_of held asked)
    by true e = ap bytes_of (none_left (is_of asked) (λ one. not (may_change t one.asked)) (λ one same. ap (λ a. not (may_change t a)) (same_asked one.asked asked same) ∙ ap not e) held)
    by false e = ap bytes_of (still_there (is_of asked) (λ one. not (may_change t one.asked)) (λ one same. ap (λ a. not (may_change t a)) (same_asked one.asked asked same) ∙ ap not e) held)

-- what is held with one more
or_found : (o : Option Said) → option_or o None ≡ o
or_found (Some one) = refl
or_found None = refl

with_one : (held : List Said) (one : Said) (asked : Asked)
    → held_of (without one.asked held ++ one ∷ []) asked ≡ (if is_same one.asked asked then one.bytes else held_of held asked)
with_one held one asked = by (is_same one.asked asked) refl
  where
    apart : (x : Said) → is_same one.asked asked ≡ false → is_of asked x ≡ true → not (is_of one.asked x) ≡ true
    apart x other same = of (is_of one.asked x) refl
      where
        of : (b : Bool) → is_of one.asked x ≡ b → not b ≡ true
        of false e = refl
        of true e =
            let f : is_same one.asked asked ≡ true = subst (λ a. is_same a asked ≡ true) (same_asked x.asked one.asked e) same in
            absurd (let w : ⊥ = cc in w)

    by : (b : Bool) → is_same one.asked asked ≡ b → held_of (without one.asked held ++ one ∷ []) asked ≡ (if b then one.bytes else held_of held asked)
    by true e =
        ap bytes_of
        (find-append (is_of asked) (without one.asked held) (one ∷ [])
        ∙ ap (λ o. option_or o (find (is_of asked) (one ∷ [])))
        (none_left (is_of asked) (λ x. not (is_of one.asked x)) (λ x same. ap not (subst (λ a. is_same x.asked a ≡ true) (sym (same_asked one.asked asked e)) same)) held)
        ∙ ap (λ b. cond b (Some one) None) e)
    by false e =
        ap bytes_of
        (find-append (is_of asked) (without one.asked held) (one ∷ [])
        ∙ ap (λ b. option_or (find (is_of asked) (without one.asked held)) (cond b (Some one) None)) e
        ∙ or_found (find (is_of asked) (without one.asked held))
        ∙ still_there (is_of asked) (λ x. not (is_of one.asked x)) (λ x same. apart x e same) held)

both : (a b : Bool) → (a && b) ≡ true → (a ≡ true) × (b ≡ true)
both true true e = (refl, refl)
both true false e = absurd (let w : ⊥ = cc in w)
both false b e = absurd (let w : ⊥ = cc in w)

negated : (b : Bool) → not b ≡ true → b ≡ false
negated true e = absurd (let w : ⊥ = cc in w)
negated false e = refl

-- what is said is held
held_more : (t : ControlTransfer) (held : List Said) (asked : Asked) → held_of (held_after t held) asked ≡ said_after t asked (held_of held asked)
held_more t held asked = by (adds t) refl
  where
    added : (s : Bool) → is_same (asked_of t) asked ≡ s → gives t ≡ true → may_change t (asked_of t) ≡ false
        → (if s then t.data ++ drop (length t.data) (held_of held (asked_of t)) else held_of (still_held t held) asked)
        ≡ (if may_change t asked then [] else if gives t && s then t.data ++ drop (length t.data) (held_of held asked) else held_of held asked)
    added true e is kept =
        let same = same_asked (asked_of t) asked e in
        let stays : may_change t asked ≡ false = ap (may_change t) (sym same) ∙ kept in
        ap (λ x. t.data ++ drop (length t.data) (held_of held x)) same
        ∙ sym (ap (λ m. if m then [] else if gives t && true then t.data ++ drop (length t.data) (held_of held asked) else held_of held asked) stays
        ∙ ap (λ g. if g && true then t.data ++ drop (length t.data) (held_of held asked) else held_of held asked) is)
    added false e is kept =
        still_of t held asked
        ∙ sym (ap (λ g. if may_change t asked then [] else if g && false then t.data ++ drop (length t.data) (held_of held asked) else held_of held asked) is)

    -- where nothing is added, nothing that stays is said
    silent : (m g s : Bool) → may_change t asked ≡ m → gives t ≡ g → is_same (asked_of t) asked ≡ s → adds t ≡ false
        → (if m then [] else held_of held asked) ≡ (if m then [] else if g && s then t.data ++ drop (length t.data) (held_of held asked) else held_of held asked)
    silent true g s em eg es isnt = refl
    silent false false s em eg es isnt = refl
    silent false true false em eg es isnt = refl
    silent false true true em eg es isnt =
        let stays : may_change t (asked_of t) ≡ false = ap (may_change t) (same_asked (asked_of t) asked es) ∙ em in
        let adds_it : adds t ≡ true = ap (λ g. g && not (may_change t (asked_of t))) eg ∙ ap not stays in
        absurd (let w : ⊥ = cc in w)

    by : (d : Bool) → adds t ≡ d → held_of (if d then without (asked_of t) (still_held t held) ++ said_now t held ∷ [] else still_held t held) asked ≡ said_after t asked (held_of held asked)
    by true e =
        let h = both (gives t) (not (may_change t (asked_of t))) e in
        with_one (still_held t held) (said_now t held) asked ∙ added (is_same (asked_of t) asked) refl h.0 (negated (may_change t (asked_of t)) h.1)
    by false e = still_of t held asked ∙ silent (may_change t asked) (gives t) (is_same (asked_of t) asked) refl refl refl e

-- a transfer more is known
pub known_more : (t : ControlTransfer) (earlier : List ControlTransfer) (old new : Conversations) → new.held.items ≡ held_after t old.held.items
    → new.states.held.items ≡ states_after t (next_state (held_of old.held.items) t (state_of old.states.held.items (asked_of t))) old.states.held.items
    → Knows earlier old → Knows (t ∷ earlier) new
known_more t earlier old new is states knows = (
  λ asked. ap (λ held. held_of held asked) is ∙ held_more t old.held.items asked ∙ ap (said_after t asked) (knows.0 asked),
  λ asked.
      ap (λ held. state_of held asked) states
      ∙ changed_states t (held_of old.held.items) old.states.held.items asked
      ∙ ap (λ (known : Asked → List ℕ). state_after known t asked (state_of old.states.held.items asked)) (funext (held_of old.held.items) (λ a. said a earlier) knows.0)
      ∙ ap (state_after (λ a. said a earlier) t asked) (knows.1 asked),
)

-- what is found by all that is known
is_found_in : (finding : Finding) (earlier : List ControlTransfer) (t : ControlTransfer)
    → holds_in finding (λ asked. said asked earlier) (state_known (asked_of t) earlier) t ≡ is_found finding earlier t
is_found_in MoreThanAsked earlier t = refl
is_found_in OtherType earlier t = refl
is_found_in OtherLength earlier t = refl
is_found_in OtherBytes earlier t = refl
is_found_in RefusesGiven earlier t = refl
is_found_in RefusesRequired earlier t = refl
is_found_in RefusesCounted earlier t = refl
is_found_in RefusesNamed earlier t = refl
is_found_in RefusesStatus earlier t = refl
is_found_in RefusesAddress earlier t = refl
is_found_in RefusesConfiguration earlier t = refl
is_found_in TakesConfiguration earlier t = refl
is_found_in OtherConfiguration earlier t = refl
is_found_in GivesUncounted earlier t = refl
is_found_in OtherValue earlier t = refl
is_found_in OtherStatus earlier t = refl
is_found_in OtherFeature earlier t = refl
is_found_in OtherSetting earlier t = refl

abbrev pub found_in : (Asked → List ℕ) → Option State → ControlTransfer → List Finding
found_in known state t = filter (λ finding. holds_in finding known state t) all_findings

pub found_of : (earlier : List ControlTransfer) (t : ControlTransfer)
    → found_in (λ asked. said asked earlier) (state_known (asked_of t) earlier) t ≡ findings earlier t
found_of earlier t =
    ap (λ (p : Finding → Bool). filter p all_findings)
    (funext (λ finding. holds_in finding (λ asked. said asked earlier) (state_known (asked_of t) earlier) t) (λ finding. is_found finding earlier t)
    (λ finding. is_found_in finding earlier t))

pub found_by : (t : ControlTransfer) (earlier : List ControlTransfer) (old : Conversations) → Knows earlier old
    → found_in (held_of old.held.items) (state_of old.states.held.items (asked_of t)) t ≡ findings earlier t
found_by t earlier old knows =
    ap (λ (known : Asked → List ℕ). found_in known (state_of old.states.held.items (asked_of t)) t) (funext (held_of old.held.items) (λ asked. said asked earlier) knows.0)
    ∙ ap (λ state. found_in (λ asked. said asked earlier) state t) (knows.1 (asked_of t))
    ∙ found_of earlier t
