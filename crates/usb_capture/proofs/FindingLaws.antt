-- What is found doesn't depend on transfers of other devices, and a file has readings of its device.
use Rattle.std.proofs.Common.{◌≡◌, ℕ, Bool, true, false, not, List, [], ◌∷◌, ◌++◌, length, drop, nat_lt, refl, sym, subst, ◌∙◌, ap}
use Rattle.std.specs.Prelude.{Option, Some, None, filter, map, cond, ◌==◌, ◌&&◌, ◌||◌, option_and_then, if◌then◌else◌}
use Rattle.std.specs.List.{All, AllByRecursion, Contains, find, flat_map}
use Rattle.std.specs.Option.{option_map}
use Rattle.std.proofs.lemmas.List.Elements.{All-contains_itself, All-filter, All-head, All-nil, All-tail, All-weaker}
use Rattle.usb_device.specs.declared.state.State.{State}
use Rattle.usb_fields.proofs.Cells.{funext}
use Rattle.usb_capture.specs.declared.asked.Asked.{Asked}
use Rattle.usb_capture.specs.declared.control_transfer.ControlTransfer.{ControlTransfer}
use Rattle.usb_capture.specs.declared.finding.Finding.{Finding}
use Rattle.usb_capture.specs.declared.finding.Finding.TheVariants.{MoreThanAsked, OtherType, OtherLength, OtherBytes, RefusesGiven, RefusesRequired, RefusesCounted, RefusesNamed, RefusesStatus, RefusesAddress, RefusesConfiguration, TakesConfiguration, OtherConfiguration, GivesUncounted, OtherValue, OtherStatus, OtherFeature, OtherSetting}
use Rattle.usb_capture.specs.Conversations.{holds_in}
use Rattle.usb_capture.specs.DeviceFiles.{data_of, parts, reading_of}
use Rattle.usb_capture.specs.DeviceReadings.{current_after, current_with, is_other_device, is_past}
use Rattle.usb_capture.specs.DeviceStates.{changes_state, state_after, state_at, state_known, takes_address, with_change}
use Rattle.usb_capture.specs.Findings.{asked_of, gives, gives_address, is_named_string, is_of_another, is_same, may_change, resets_port, said, said_after, sets_address, sets_descriptor}
use Rattle.usb_capture.specs.TransferFindings.{all_findings, findings}
use Rattle.usb_capture.specs.Readings.{is_done, is_reading}
use Rattle.usb_capture.proofs.ReadingLaws.{one_more}
use Rattle.usb_capture.proofs.SaidLemmas.{found_in, found_of, same_asked}

-- a descriptor of the device of a transfer
abbrev of_device : ControlTransfer → Asked → Asked
of_device t asked = record asked { bus = t.bus; device = t.device }

-- a finding looks at what this device said alone
looks : (finding : Finding) (known : Asked → List ℕ) (state : Option State) (t : ControlTransfer)
    → holds_in finding known state t ≡ holds_in finding (λ asked. known (of_device t asked)) state t
unfolding is_named_string
looks MoreThanAsked known state t = refl
looks OtherType known state t = refl
looks OtherLength known state t = refl
looks OtherBytes known state t = refl
looks RefusesGiven known state t = refl
looks RefusesRequired known state t = refl
looks RefusesCounted known state t = refl
looks RefusesNamed known state t = refl
looks RefusesStatus known state t = refl
looks RefusesAddress known state t = refl
looks RefusesConfiguration known state t = refl
looks TakesConfiguration known state t = refl
looks OtherConfiguration known state t = refl
looks GivesUncounted known state t = refl
looks OtherValue known None t = refl
looks OtherValue known (Some s) t = refl
looks OtherStatus known None t = refl
looks OtherStatus known (Some s) t = refl
looks OtherFeature known None t = refl
looks OtherFeature known (Some s) t = refl
looks OtherSetting known None t = refl
looks OtherSetting known (Some s) t = refl

looks_in : (known : Asked → List ℕ) (state : Option State) (t : ControlTransfer) → found_in known state t ≡ found_in (λ asked. known (of_device t asked)) state t
looks_in known state t =
    ap (λ (p : Finding → Bool). filter p all_findings)
    (funext (λ finding. holds_in finding known state t) (λ finding. holds_in finding (λ asked. known (of_device t asked)) state t)
    (λ finding. looks finding known state t))

-- what another device's transfer leaves as it was
apart_changes : (a b c d : ℕ) (reset address descriptor : Bool) → (not (a == b) || (not (c == d) && not (c == 0) && not reset)) ≡ true
    → (a == b && ((c == 0) || reset || (c == d && (address || descriptor)))) ≡ false
apart_changes a b c d reset address descriptor e = by (a == b) (c == d) (c == 0) reset e
  where
    by : (x y z r : Bool) → (not x || (not y && not z && not r)) ≡ true → (x && (z || r || (y && (address || descriptor)))) ≡ false
    by false y z r e = refl
    by true false false false e = refl
    by true true z r e = absurd (let w : ⊥ = cc in w)
    by true false true r e = absurd (let w : ⊥ = cc in w)
    by true false false true e = absurd (let w : ⊥ = cc in w)

apart_same : (a b c d e f g h : ℕ) (reset : Bool) → (not (a == b) || (not (c == d) && not (c == 0) && not reset)) ≡ true
    → (a == b && c == d && e == f && g == h) ≡ false
apart_same a b c d e f g h reset is = by (a == b) (c == d) is
  where
    by : (x y : Bool) → (not x || (not y && not (c == 0) && not reset)) ≡ true → (x && y && (e == f) && (g == h)) ≡ false
    by false y is = refl
    by true false is = refl
    by true true is = absurd (let w : ⊥ = cc in w)

apart_takes : (d g x y z r v w : Bool) → (not x || (not y && not z && not r)) ≡ true → (d && g && x && z && v && w) ≡ false
apart_takes false g x y z r v w e = refl
apart_takes true false x y z r v w e = refl
apart_takes true true false y z r v w e = refl
apart_takes true true true y false r v w e = refl
apart_takes true true true true true r v w e = absurd (let no : ⊥ = cc in no)
apart_takes true true true false true r v w e = absurd (let no : ⊥ = cc in no)

apart_own : (x y z r c : Bool) → (not x || (not y && not z && not r)) ≡ true → (x && y && c) ≡ false
apart_own false y z r c e = refl
apart_own true false z r c e = refl
apart_own true true z r c e = absurd (let no : ⊥ = cc in no)

said_past : (t u : ControlTransfer) (asked : Asked) (before : List ℕ) → is_of_another t u ≡ true → said_after u (of_device t asked) before ≡ before
said_past t u asked before other =
    by (may_change u (of_device t asked)) (gives u) (is_same (asked_of u) (of_device t asked))
    (apart_changes u.bus t.bus u.device t.device (resets_port u.setup) (sets_address u.setup) (sets_descriptor u.setup) other)
    (apart_same u.bus t.bus u.device t.device u.setup.value asked.value u.setup.index asked.index (resets_port u.setup) other)
  where
    by : (m g s : Bool) → m ≡ false → s ≡ false → (if m then [] else if g && s then u.data ++ drop (length u.data) before else before) ≡ before
    by true g s e f = absurd (let w : ⊥ = cc in w)
    by false g true e f = absurd (let w : ⊥ = cc in w)
    by false true false e f = refl
    by false false false e f = refl

said_beside : (t : ControlTransfer) (asked : Asked) (between before : List ControlTransfer) → AllByRecursion (λ u. is_of_another t u ≡ true) between
    → said (of_device t asked) (between ++ before) ≡ said (of_device t asked) before
said_beside t asked [] before each = refl
said_beside t asked (u ∷ between) before each = said_past t u asked (said (of_device t asked) (between ++ before)) each.0 ∙ said_beside t asked between before each.1

state_past : (t u : ControlTransfer) (known : Asked → List ℕ) (before : Option State) → is_of_another t u ≡ true
    → state_after known u (asked_of t) before ≡ before
state_past t u known before other =
    by (takes_address u (asked_of t)) (may_change u (asked_of t)) (u.bus == t.bus && u.device == t.device && changes_state u.setup)
    (apart_takes (is_done u.ending) (gives_address u.setup) (u.bus == t.bus) (u.device == t.device) (u.device == 0) (resets_port u.setup) (u.setup.value == t.device)
    (nat_lt 0 t.device) other)
    (apart_changes u.bus t.bus u.device t.device (resets_port u.setup) (sets_address u.setup) (sets_descriptor u.setup) other)
    (apart_own (u.bus == t.bus) (u.device == t.device) (u.device == 0) (resets_port u.setup) (changes_state u.setup) other)
  where
    by : (a m s : Bool) → a ≡ false → m ≡ false → s ≡ false
        → (if a then Some (state_at t.device) else if m then None else if s then with_change known u before else before) ≡ before
    by false false false e f g = refl
    by true m s e f g = absurd (let w : ⊥ = cc in w)
    by false true s e f g = absurd (let w : ⊥ = cc in w)
    by false false true e f g = absurd (let w : ⊥ = cc in w)

state_beside : (t : ControlTransfer) (between before : List ControlTransfer) → AllByRecursion (λ u. is_of_another t u ≡ true) between
    → state_known (asked_of t) (between ++ before) ≡ state_known (asked_of t) before
state_beside t [] before each = refl
state_beside t (u ∷ between) before each =
    state_past t u (λ a. said a (between ++ before)) (state_known (asked_of t) (between ++ before)) each.0 ∙ state_beside t between before each.1

pub of_one_device : (before between : List ControlTransfer) (t : ControlTransfer) → AllByRecursion (λ u. is_of_another t u ≡ true) between
    → findings (between ++ before) t ≡ findings before t
of_one_device before between t each =
    sym (found_of (between ++ before) t)
    ∙ looks_in (λ asked. said asked (between ++ before)) (state_known (asked_of t) (between ++ before)) t
    ∙ ap (λ (known : Asked → List ℕ). found_in known (state_known (asked_of t) (between ++ before)) t)
    (funext (λ asked. said (of_device t asked) (between ++ before)) (λ asked. said (of_device t asked) before) (λ asked. said_beside t asked between before each))
    ∙ ap (λ state. found_in (λ asked. said (of_device t asked) before) state t) (state_beside t between before each)
    ∙ sym (looks_in (λ asked. said asked before) (state_known (asked_of t) before) t)
    ∙ found_of before t

-- what is kept of the devices that have their addresses now came
current_all : (P : ControlTransfer → Type 0) (kept transfers : List ControlTransfer) → All P kept → All (λ t. is_reading t ≡ true → P t) transfers → All P (current_after kept transfers)
current_all P kept [] each later = each
current_all P kept (t ∷ transfers) each later =
    let left = filter (λ old. not (is_past (is_other_device t kept) t old)) kept in
    current_all P (current_with t kept) transfers
    (one_more P t left (All-filter (λ old. not (is_past (is_other_device t kept) t old)) P kept each) (All-head (λ t. is_reading t ≡ true → P t) t transfers later))
    (All-tail (λ t. is_reading t ≡ true → P t) t transfers later)

pub current_came : (transfers : List ControlTransfer) → All (λ t. Contains transfers t × (is_reading t ≡ true)) (current_after [] transfers)
current_came transfers =
    current_all (λ t. Contains transfers t × (is_reading t ≡ true)) [] transfers (All-nil (λ t. Contains transfers t × (is_reading t ≡ true)))
    (All-weaker (Contains transfers) (λ t. is_reading t ≡ true → Contains transfers t × (is_reading t ≡ true)) (λ t c r. (c, r)) transfers (All-contains_itself transfers))

-- what is found is one of the list, and passes
found_one : (P : ControlTransfer → Type 0) (p : ControlTransfer → Bool) (xs : List ControlTransfer) (t : ControlTransfer) → All P xs → find p xs ≡ Some t → P t × (p t ≡ true)
found_one P p [] t each e = absurd (let w : ⊥ = cc in w)
found_one P p (x ∷ xs) t each e = by (p x) refl e (found_one P p xs t (All-tail P x xs each))
  where
    by : (b : Bool) → p x ≡ b → cond b (Some x) (find p xs) ≡ Some t → (find p xs ≡ Some t → P t × (p t ≡ true)) → P t × (p t ≡ true)
    by true is e later =
        let same : x ≡ t = cc in
        (subst P same (All-head P x xs each), ap p (sym same) ∙ is)
    by false is e later = later e

-- Descriptors one after another are readings, each of what was asked for.
abbrev pub Are : List ControlTransfer → List Asked → List ℕ → Type 0
Are kept asked b = (ts : List ControlTransfer) × (b ≡ flat_map data_of ts) × (map asked_of ts ≡ asked) × AllByRecursion (Contains kept) ts

pub parts_are : (kept : List ControlTransfer) (asked : List Asked) (b : List ℕ) → parts kept asked ≡ Some b → Are kept asked b
parts_are kept [] b e = let same : b ≡ [] = cc in ([], same, refl, tt)
parts_are kept (one ∷ asked) b e = by (reading_of kept one) (parts kept asked) refl refl e (parts_are kept asked)
  where
    by : (r : Option ControlTransfer) (more : Option (List ℕ)) → reading_of kept one ≡ r → parts kept asked ≡ more
        → option_and_then (λ c. option_map (λ rest. c ++ rest) more) (option_map data_of r) ≡ Some b
        → ((rest : List ℕ) → parts kept asked ≡ Some rest → Are kept asked rest) → Are kept (one ∷ asked) b
    by None more is so e later = absurd (let w : ⊥ = cc in w)
    by (Some t) None is so e later = absurd (let w : ⊥ = cc in w)
    by (Some t) (Some rest) is so e later =
        let h = found_one (Contains kept) (λ t. is_same (asked_of t) one) kept t (All-contains_itself kept) is in
        let l = later rest so in
        let whole : t.data ++ rest ≡ b = cc in
        (t ∷ l.0, sym whole ∙ ap (λ x. t.data ++ x) l.1, ap (λ a. a ∷ map asked_of l.0) (same_asked (asked_of t) one h.1) ∙ ap (λ xs. one ∷ xs) l.2, (h.0, l.3))
