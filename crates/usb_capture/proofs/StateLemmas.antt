-- What devices' configurations and states are, by what is held of them.
use Rattle.std.proofs.Common.{◌≡◌, ℕ, suc, ◌+◌, ◌-◌, ◌<◌, ◌≤◌, Bool, true, false, not, List, [], ◌∷◌, length, nat_lt, refl, sym, ◌∙◌, ap, arith}
use Rattle.std.specs.Prelude.{Option, Some, None, filter, map, cond, ◌==◌, ◌&&◌, ◌||◌, slice_index, if◌then◌else◌}
use Rattle.std.specs.Int.{bit_at}
use Rattle.std.specs.List.{find, list_all, list_any, range_with_len}
use Rattle.std.specs.Option.{option_map, option_or}
use Rattle.std.proofs.lemmas.Bool.Decides.{nat_tests}
use Rattle.std.proofs.lemmas.List.Folds.{find-append}
use Rattle.std.proofs.lemmas.Nat.Bits.{bit_at-lt}
use Rattle.usb_device.specs.declared.state.State.{State}
use Rattle.usb_device.specs.Offers.{SetOffer}
use Rattle.usb_device.specs.Requests.{has_value}
use Rattle.usb_capture.specs.declared.asked.Asked.{Asked}
use Rattle.usb_capture.specs.declared.control_transfer.ControlTransfer.{ControlTransfer}
use Rattle.usb_capture.specs.declared.known_state.KnownState.{KnownState}
use Rattle.usb_capture.specs.Conversations.{addressed, assigns, changes, in_state, is_of_device, leaves, next_state, state_of, states_after, with_next}
use Rattle.usb_capture.specs.DeviceStates.{changes_state, set_said, settings_said, state_after, state_at, takes_address, with_change}
use Rattle.usb_capture.specs.Findings.{asked_of, configuration, gives_address, may_change, resets_port, sets_address, sets_descriptor}
use Rattle.usb_capture.specs.Readings.{is_done}
use Rattle.usb_capture.proofs.FilterLemmas.{none_left, still_there}

-- a test of what a map makes
pub any_of : {X Y : Type 0} (p : Y → Bool) (f : X → Y) (xs : List X) → list_any p (map f xs) ≡ list_any (λ x. p (f x)) xs
any_of p f [] = refl
any_of p f (x ∷ xs) = ap (λ b. p (f x) || b) (any_of p f xs)

pub all_of : {X Y : Type 0} (p : Y → Bool) (f : X → Y) (xs : List X) → list_all p (map f xs) ≡ list_all (λ x. p (f x)) xs
all_of p f [] = refl
all_of p f (x ∷ xs) = ap (λ b. p (f x) && b) (all_of p f xs)

-- The configuration of a value, as a search goes on.

abbrev pub sets_from : (Asked → List ℕ) → Asked → ℕ → ℕ → List SetOffer
sets_from known asked first count = map (λ i. set_said (configuration known asked i)) (range_with_len first count)

one_left : (i n : ℕ) → i < n → n - i ≡ suc (n - (i + 1))
one_left i n less = omega (arith, less)

same_number : (a b : ℕ) → (a == b) ≡ true → a ≡ b
same_number a b e = grind (arith, nat_tests)

has_it : (byte its value : ℕ) → byte ≡ its → byte ≡ value → (its == value) ≡ true
has_it byte its value e same = grind (arith, nat_tests)

has_another : (byte its value : ℕ) → byte ≡ its → (byte ≡ value → ⊥) → (its == value) ≡ false
has_another byte its value e differs = by (its == value) refl
  where
    by : (b : Bool) → (its == value) ≡ b → b ≡ false
    by false f = refl
    by true f = absurd (differs (e ∙ same_number its value f))

pub set_next : (known : Asked → List ℕ) (asked : Asked) (value i n byte : ℕ) → i < n
    → byte ≡ slice_index (configuration known asked i) 5 → (byte ≡ value → ⊥)
    → find (has_value value) (sets_from known asked (i + 1) (n - (i + 1))) ≡ find (has_value value) (sets_from known asked i (n - i))
set_next known asked value i n byte less e differs =
    sym (ap (λ k. find (has_value value) (sets_from known asked i k)) (one_left i n less)
    ∙ ap (λ b. cond b (Some (set_said (configuration known asked i))) (find (has_value value) (sets_from known asked (i + 1) (n - (i + 1)))))
    (has_another byte (slice_index (configuration known asked i) 5) value e differs))

pub set_here : (known : Asked → List ℕ) (asked : Asked) (value i n byte : ℕ) → i < n
    → byte ≡ slice_index (configuration known asked i) 5 → byte ≡ value
    → find (has_value value) (sets_from known asked i (n - i)) ≡ Some (set_said (configuration known asked i))
set_here known asked value i n byte less e same =
    ap (λ k. find (has_value value) (sets_from known asked i k)) (one_left i n less)
    ∙ ap (λ b. cond b (Some (set_said (configuration known asked i))) (find (has_value value) (sets_from known asked (i + 1) (n - (i + 1)))))
    (has_it byte (slice_index (configuration known asked i) 5) value e same)

pub set_nowhere : (known : Asked → List ℕ) (asked : Asked) (value i n : ℕ) → n ≤ i → find (has_value value) (sets_from known asked i (n - i)) ≡ None
set_nowhere known asked value i n past =
    let none : n - i ≡ 0 = omega (arith, past) in
    ap (λ k. find (has_value value) (sets_from known asked i k)) none

-- what is said of no configuration
pub no_settings : settings_said (length {A = ℕ} []) [] ≡ []
unfolding settings_said
no_settings = refl

-- a bit is 1 or 0
pub halted_or_not : (halts place : ℕ) → cond (bit_at halts place == 1) 1 0 ≡ bit_at halts place
halted_or_not halts place = by (bit_at halts place) (bit_at-lt halts place)
  where
    by : (b : ℕ) → b < 2 → cond (b == 1) 1 0 ≡ b
    by b less = grind (arith, nat_tests)

-- What is left of the states after a transfer.

both_same : (a b c d : ℕ) → (a == b && c == d) ≡ true → (a ≡ b) × (c ≡ d)
both_same a b c d e = (grind (arith, nat_tests), grind (arith, nat_tests))

-- whether the state of the device with this bus and address is left
abbrev leaves_at : ControlTransfer → ℕ → ℕ → Bool
leaves_at t bus device =
    may_change t (record { bus = bus; device = device; value = 256; index = 0 }) || (changes_state t.setup && (bus == t.bus && device == t.device))

left_same : (t : ControlTransfer) (asked : Asked) (one : KnownState) → is_of_device asked one ≡ true → leaves t one ≡ leaves_at t asked.bus asked.device
left_same t asked one e =
    let h = both_same one.bus asked.bus one.device asked.device e in
    ap (λ n. leaves_at t n one.device) h.0 ∙ ap (leaves_at t asked.bus) h.1

left_of : (t : ControlTransfer) (states : List KnownState) (asked : Asked) (b : Bool) → leaves_at t asked.bus asked.device ≡ b
    → find (is_of_device asked) (filter (λ one. not (leaves t one)) states) ≡ (if b then None else find (is_of_device asked) states)
left_of t states asked true e = none_left (is_of_device asked) (λ one. not (leaves t one)) (λ one same. ap not (left_same t asked one same) ∙ ap not e) states
left_of t states asked false e = still_there (is_of_device asked) (λ one. not (leaves t one)) (λ one same. ap not (left_same t asked one same) ∙ ap not e) states

-- What is added.

abbrev found : Asked → Option KnownState → Option KnownState
found asked next = find (is_of_device asked) (with_next next)

-- another device's state
not_found : (asked : Asked) (t : ControlTransfer) (state : Option State) → (t.bus == asked.bus && t.device == asked.device) ≡ false
    → found asked (option_map (in_state t) state) ≡ None
not_found asked t None e = refl
not_found asked t (Some state) e = ap (λ b. cond b (Some (in_state t state)) None) e

-- this device's
found_now : (asked : Asked) (t : ControlTransfer) (state : Option State) → (t.bus == asked.bus && t.device == asked.device) ≡ true
    → option_map (λ one. one.state) (found asked (option_map (in_state t) state)) ≡ state
found_now asked t None e = refl
found_now asked t (Some state) e = ap (λ b. option_map (λ one. one.state) (cond b (Some (in_state t state)) None)) e

or_none : (o : Option KnownState) → option_or o None ≡ o
or_none (Some one) = refl
or_none None = refl

-- What a transfer is to a device.

assigned : (d g z : Bool) (bus own value device : ℕ) → (d && g && bus == own && z && value == device && nat_lt 0 device) ≡ true
    → ((d && g && z && nat_lt 0 value) ≡ true) × ((bus == own && value == device) ≡ true) × (z ≡ true)
assigned true true true bus own value device e = (grind (arith, nat_tests), grind (arith, nat_tests), refl)
assigned true true false bus own value device e = absurd (grind (arith, nat_tests))
assigned true false z bus own value device e = absurd (let w : ⊥ = cc in w)
assigned false g z bus own value device e = absurd (let w : ⊥ = cc in w)

assigned_another : (d g z : Bool) (bus own value device : ℕ) → (d && g && z && nat_lt 0 value) ≡ true
    → (d && g && bus == own && z && value == device && nat_lt 0 device) ≡ false → (bus == own && value == device) ≡ false
assigned_another true true true bus own value device is isnt = grind (arith, nat_tests)
assigned_another true true false bus own value device is isnt = absurd (let w : ⊥ = cc in w)
assigned_another true false z bus own value device is isnt = absurd (let w : ⊥ = cc in w)
assigned_another false g z bus own value device is isnt = absurd (let w : ⊥ = cc in w)

-- the bus is another one where nothing may change by a device with address 0
assigned_beside : (d g z w b v r x : Bool) → (d && g && z && w) ≡ true → (b && (z || r || x)) ≡ false → (b && v) ≡ false
assigned_beside d g z w false v r x is isnt = refl
assigned_beside true true true true true v r x is isnt = absurd (let no : ⊥ = cc in no)
assigned_beside true true true false true v r x is isnt = absurd (let no : ⊥ = cc in no)
assigned_beside true true false w true v r x is isnt = absurd (let no : ⊥ = cc in no)
assigned_beside true false z w true v r x is isnt = absurd (let no : ⊥ = cc in no)
assigned_beside false g z w true v r x is isnt = absurd (let no : ⊥ = cc in no)

reset : (b v z r x y : Bool) → (b && v) ≡ true → z ≡ true → ((b && (z || r || x)) || y) ≡ true
reset true v true r x y is zero = refl
reset true v false r x y is zero = absurd (let no : ⊥ = cc in no)
reset false v z r x y is zero = absurd (let no : ⊥ = cc in no)

and_both : (a b : Bool) → (a && b) ≡ true → (a ≡ true) × (b ≡ true)
and_both true true e = (refl, refl)
and_both true false e = absurd (let no : ⊥ = cc in no)
and_both false b e = absurd (let no : ⊥ = cc in no)

and_three : (a b c : Bool) → (a && b && c) ≡ true → ((a && b) ≡ true) × (c ≡ true)
and_three true true true e = (refl, refl)
and_three true true false e = absurd (let no : ⊥ = cc in no)
and_three true false c e = absurd (let no : ⊥ = cc in no)
and_three false b c e = absurd (let no : ⊥ = cc in no)

and_not : (a b c : Bool) → (a && b && c) ≡ false → c ≡ true → (a && b) ≡ false
and_not true true true e is = absurd (let no : ⊥ = cc in no)
and_not true true false e is = absurd (let no : ⊥ = cc in no)
and_not true false c e is = refl
and_not false b c e is = refl

is_false : (b : Bool) → not b ≡ true → b ≡ false
is_false true e = absurd (let no : ⊥ = cc in no)
is_false false e = refl

not_both : (b : Bool) → b ≡ true → b ≡ false → ⊥
not_both b e f = let no : ⊥ = cc in no

own : (c m : Bool) (bus device bus' device' : ℕ) → c ≡ true → (bus == bus' && device == device') ≡ true → (m || (c && (bus' == bus && device' == device))) ≡ true
own true true bus device bus' device' is same = refl
own true false bus device bus' device' is same = grind (arith, nat_tests)
own false m bus device bus' device' is same = absurd (let no : ⊥ = cc in no)

others : (c m : Bool) (bus device bus' device' : ℕ) → m ≡ false → (bus == bus' && device == device' && c) ≡ false → (m || (c && (bus' == bus && device' == device))) ≡ false
others c true bus device bus' device' is isnt = absurd (let no : ⊥ = cc in no)
others true false bus device bus' device' is isnt = grind (arith, nat_tests)
others false false bus device bus' device' is isnt = refl

same_change : (t : ControlTransfer) (asked : Asked) → (t.bus == asked.bus && t.device == asked.device) ≡ true → may_change t asked ≡ may_change t (asked_of t)
same_change t asked e =
    let h = both_same t.bus asked.bus t.device asked.device e in
    let at : ℕ → ℕ → Bool = λ bus device. may_change t (record { bus = bus; device = device; value = 256; index = 0 }) in
    ap (λ n. at n asked.device) (sym h.0) ∙ ap (at t.bus) (sym h.1)

same_state : (t : ControlTransfer) (states : List KnownState) (asked : Asked) → (t.bus == asked.bus && t.device == asked.device) ≡ true
    → state_of states (asked_of t) ≡ state_of states asked
same_state t states asked e =
    let h = both_same t.bus asked.bus t.device asked.device e in
    let at : ℕ → ℕ → Option State = λ bus device. state_of states (record { bus = bus; device = device; value = 256; index = 0 }) in
    ap (λ n. at n t.device) h.0 ∙ ap (at asked.bus) h.1

-- where nothing is added for a device
none_added : (t : ControlTransfer) (known : Asked → List ℕ) (before : Option State) (asked : Asked)
    → (assigns t ≡ true → (t.bus == asked.bus && t.setup.value == asked.device) ≡ false)
    → (changes t ≡ true → (t.bus == asked.bus && t.device == asked.device) ≡ false)
    → found asked (next_state known t before) ≡ None
none_added t known before asked first second = by (assigns t) (changes t) refl refl
  where
    by : (a c : Bool) → assigns t ≡ a → changes t ≡ c
        → found asked (if a then Some (addressed t) else if c then option_map (in_state t) (with_change known t before) else None) ≡ None
    by true c e f = ap (λ b. cond b (Some (addressed t)) None) (first e)
    by false true e f = not_found asked t (with_change known t before) (second f)
    by false false e f = refl

abbrev joined : Asked → Option KnownState → Option KnownState → Option State
joined asked left added = option_map (λ one. one.state) (option_or left added)

-- what is held is the state after the transfer
pub changed_states : (t : ControlTransfer) (known : Asked → List ℕ) (states : List KnownState) (asked : Asked)
    → state_of (states_after t (next_state known t (state_of states (asked_of t))) states) asked ≡ state_after known t asked (state_of states asked)
changed_states t known states asked =
    ap (option_map (λ one. one.state)) (find-append (is_of_device asked) (filter (λ one. not (leaves t one)) states) (with_next next))
    ∙ by (takes_address t asked) (may_change t asked) (t.bus == asked.bus && t.device == asked.device && changes_state t.setup) refl refl refl
  where
    next : Option KnownState
    next = next_state known t (state_of states (asked_of t))

    left : Option KnownState
    left = find (is_of_device asked) (filter (λ one. not (leaves t one)) states)

    gone : leaves_at t asked.bus asked.device ≡ true → joined asked left (found asked next) ≡ joined asked None (found asked next)
    gone e = ap (λ l. joined asked l (found asked next)) (left_of t states asked true e)

    unadded : (l : Option KnownState) → found asked next ≡ None → joined asked l (found asked next) ≡ joined asked l None
    unadded l e = ap (joined asked l) e

    taken : takes_address t asked ≡ true → joined asked left (found asked next) ≡ Some (state_at asked.device)
    taken e =
        let h = assigned (is_done t.ending) (gives_address t.setup) (t.device == 0) t.bus asked.bus t.setup.value asked.device e in
        let same = both_same t.bus asked.bus t.setup.value asked.device h.1 in
        let after : next ≡ Some (addressed t) =
        ap (λ b. if b then Some (addressed t) else if changes t then option_map (in_state t) (with_change known t (state_of states (asked_of t))) else None) h.0 in
        gone (reset (t.bus == asked.bus) (t.setup.value == asked.device) (t.device == 0) (resets_port t.setup)
        (t.device == asked.device && (sets_address t.setup || sets_descriptor t.setup))
        (changes_state t.setup && (asked.bus == t.bus && asked.device == t.device)) h.1 h.2)
        ∙ ap (λ n. joined asked None (found asked n)) after
        ∙ ap (λ b. joined asked None (cond b (Some (addressed t)) None)) h.1
        ∙ ap (λ n. Some (state_at n)) same.1

    lost : takes_address t asked ≡ false → may_change t asked ≡ true → joined asked left (found asked next) ≡ None
    lost e m =
        gone (ap (λ b. b || (changes_state t.setup && (asked.bus == t.bus && asked.device == t.device))) m)
        ∙ unadded None (none_added t known (state_of states (asked_of t)) asked
        (λ is. assigned_another (is_done t.ending) (gives_address t.setup) (t.device == 0) t.bus asked.bus t.setup.value asked.device is e)
        (λ is. another (t.bus == asked.bus && t.device == asked.device) refl is))
      where
        another : (b : Bool) → (t.bus == asked.bus && t.device == asked.device) ≡ b → changes t ≡ true → b ≡ false
        another false f is = refl
        another true f is =
            absurd (not_both (may_change t asked) m (same_change t asked f ∙ is_false (may_change t (asked_of t)) (and_both (changes_state t.setup) (not (may_change t (asked_of t))) is).1))

    led : may_change t asked ≡ false → (t.bus == asked.bus && t.device == asked.device && changes_state t.setup) ≡ true
        → joined asked left (found asked next) ≡ with_change known t (state_of states asked)
    led m s =
        let h = and_three (t.bus == asked.bus) (t.device == asked.device) (changes_state t.setup) s in
        let stays : may_change t (asked_of t) ≡ false = sym (same_change t asked h.0) ∙ m in
        let does : changes t ≡ true = ap (λ b. b && not (may_change t (asked_of t))) h.1 ∙ ap not stays in
        gone (own (changes_state t.setup) (may_change t asked) t.bus t.device asked.bus asked.device h.1 h.0)
        ∙ ap (λ n. joined asked None (found asked n)) (after (assigns t) refl does h.0)
        ∙ found_now asked t (with_change known t (state_of states (asked_of t))) h.0
        ∙ ap (with_change known t) (same_state t states asked h.0)
      where
        after : (a : Bool) → assigns t ≡ a → changes t ≡ true → (t.bus == asked.bus && t.device == asked.device) ≡ true
            → next ≡ option_map (in_state t) (with_change known t (state_of states (asked_of t)))
        after false e does same =
            ap (λ b. if b then Some (addressed t) else if changes t then option_map (in_state t) (with_change known t (state_of states (asked_of t))) else None) e
            ∙ ap (λ b. if b then option_map (in_state t) (with_change known t (state_of states (asked_of t))) else None) does
        after true e does same =
            absurd (not_both (t.bus == asked.bus && t.device == asked.device) same
            (assigned_beside (is_done t.ending) (gives_address t.setup) (t.device == 0) (nat_lt 0 t.setup.value) (t.bus == asked.bus) (t.device == asked.device)
            (resets_port t.setup) (t.device == asked.device && (sets_address t.setup || sets_descriptor t.setup)) e m))

    kept : may_change t asked ≡ false → (t.bus == asked.bus && t.device == asked.device && changes_state t.setup) ≡ false
        → joined asked left (found asked next) ≡ state_of states asked
    kept m s =
        ap (λ l. joined asked l (found asked next))
        (left_of t states asked false (others (changes_state t.setup) (may_change t asked) t.bus t.device asked.bus asked.device m s))
        ∙ unadded (find (is_of_device asked) states) (none_added t known (state_of states (asked_of t)) asked
        (λ is. assigned_beside (is_done t.ending) (gives_address t.setup) (t.device == 0) (nat_lt 0 t.setup.value) (t.bus == asked.bus) (t.setup.value == asked.device)
        (resets_port t.setup) (t.device == asked.device && (sets_address t.setup || sets_descriptor t.setup)) is m)
        (λ is. and_not (t.bus == asked.bus) (t.device == asked.device) (changes_state t.setup) s (and_both (changes_state t.setup) (not (may_change t (asked_of t))) is).0))
        ∙ ap (option_map (λ one. one.state)) (or_none (find (is_of_device asked) states))

    by : (a m s : Bool) → takes_address t asked ≡ a → may_change t asked ≡ m → (t.bus == asked.bus && t.device == asked.device && changes_state t.setup) ≡ s
        → joined asked left (found asked next)
        ≡ (if a then Some (state_at asked.device) else if m then None else if s then with_change known t (state_of states asked) else state_of states asked)
    by true m s ea em es = taken ea
    by false true s ea em es = lost ea em
    by false false true ea em es = led em es
    by false false false ea em es = kept em es
