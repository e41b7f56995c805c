-- Going over lists, and what is before a place.
use Rattle.std.proofs.Common.{◌≡◌, ℕ, zero, suc, inl, inr, ◌+◌, ◌<◌, ◌≤◌, ◌==◌, ◌&&◌, ◌||◌, not, nat_lt, Bool, true, false, List, [], ◌∷◌, ◌++◌, refl, ap, sym, ◌∙◌, length, map, get_or, take, drop, arith, append_assoc, length-append}
use Rattle.std.specs.List.{flat_map, list_any, range_with_len}
use Rattle.std.proofs.lemmas.Bool.{cases_lt}
use Rattle.std.proofs.lemmas.Bool.Decides.{nat_tests}
use Rattle.std.proofs.lemmas.List.{get_or-map, get_or_default, length-map, map-append}
use Rattle.std.proofs.lemmas.List.Folds.{list_any_at}
use Rattle.std.proofs.lemmas.Grind.{common_steps, flat_map-append}
use Rattle.usb_fields.specs.Marks.{IsNextAbsent, marked}
use Rattle.usb_fields.proofs.Cells.{funext}
use Rattle.usb_set.specs.declared.extra.Association.{Association}
use Rattle.usb_set.specs.declared.tree.Endpoint.{Endpoint}
use Rattle.usb_set.specs.declared.tree.Setting.{Setting}
use Rattle.usb_file_data.specs.declared.cause.Cause.TheVariants as causes
use Rattle.usb_file_data.specs.Places.{at_each, is_among, when}
use Rattle.usb_file_data.specs.Findings.{association_count, endpoint_associations}
use Rattle.usb_set.specs.declared.extra.Extra.{Extra}
use Rattle.usb_set.specs.Owners.{association_in}
use Rattle.usb_file_data.specs.declared.place.Place.{Place}
use Rattle.usb_file_data.specs.Rules.{address_of, has_elsewhere, is_first, interface_numbers, number_of, wrong_endpoint_count}
use Rattle.usb_file_data.specs.inside.Addresses.{owned, owned_at}
use Rattle.usb_file_data.specs.inside.Interfaces.{NoneBreaksV3OrV4, AreEntered, AreNew, Entered, first_at, first_of, misses_some, pair_too, compared_with, has_alternate}
use Rattle.usb_file_data.specs.declared.interfaces.Interface.{Interface}
use Rattle.usb_file_data.specs.inside.Walk.{broken, in_interface, shared_with}

-- a loop's next place
pub at_each_next : {A B : Type 0} (f : ℕ → A → List B) (xs : List A) (i : ℕ) (x : A) (old new whole : List B)
    → i < length xs → x ≡ get_or xs i x → old ++ at_each f i (drop i xs) ≡ whole → new ≡ old ++ f i x
    → new ++ at_each f (i + 1) (drop (i + 1) xs) ≡ whole
at_each_next f xs i x old new whole below is whole_is new_is =
    let here : drop i xs ≡ x ∷ drop (i + 1) xs = grind (arith, common_steps) in
    let step : at_each f i (drop i xs) ≡ f i x ++ at_each f (i + 1) (drop (i + 1) xs) = ap (at_each f i) here in
    let joined = append_assoc old (f i x) (at_each f (i + 1) (drop (i + 1) xs)) in
    cc

-- how many associations there are
count_append : (xs ys : List Extra) → association_count (xs ++ ys) ≡ association_count xs + association_count ys
count_append xs ys = ap length (flat_map-append association_in xs ys) ∙ length-append (flat_map association_in xs) (flat_map association_in ys)

pub ends_next : (xs : List Endpoint) (i n m total : ℕ) (x : Endpoint) → i < length xs → x ≡ get_or xs i x
    → n + association_count (flat_map (λ e. e.extras) (drop i xs)) ≡ total → m ≡ n + endpoint_associations x
    → m + association_count (flat_map (λ e. e.extras) (drop (i + 1) xs)) ≡ total
ends_next xs i n m total x below is total_is m_is =
    let here : drop i xs ≡ x ∷ drop (i + 1) xs = grind (arith, common_steps) in
    let sum : association_count (flat_map (λ e. e.extras) (drop i xs)) ≡ association_count x.extras + association_count (flat_map (λ e. e.extras) (drop (i + 1) xs)) =
    ap (λ l. association_count (flat_map (λ (e : Endpoint). e.extras) l)) here ∙ count_append x.extras (flat_map (λ e. e.extras) (drop (i + 1) xs)) in
    omega (arith, sum, total_is, m_is)

-- ---- what is before

pub take_more : {A : Type 0} (xs : List A) (i : ℕ) (x : A) → i < length xs → x ≡ get_or xs i x → take (i + 1) xs ≡ take i xs ++ x ∷ []
take_more xs i x below is = grind (arith, common_steps)

pub take_all : {A : Type 0} (xs : List A) (i : ℕ) → length xs ≤ i → take i xs ≡ xs
take_all xs i h = grind (arith, common_steps)

or_turn : (a b c : Bool) → (a || (b || c)) ≡ (b || (a || c))
or_turn true true c = refl
or_turn true false c = refl
or_turn false b c = refl

any_more : {A : Type 0} (p : A → Bool) (xs : List A) (x : A) → list_any p (xs ++ x ∷ []) ≡ (p x || list_any p xs)
any_more p [] x = refl
any_more p (y ∷ xs) x = ap (λ b. p y || b) (any_more p xs x) ∙ or_turn (p y) (p x) (list_any p xs)

-- one key more
pub stands_more : {A : Type 0} (key : A → ℕ) (xs : List A) (i : ℕ) (x : A) → i < length xs → x ≡ get_or xs i x
    → is_among (map key (take (i + 1) xs)) ≡ marked (is_among (map key (take i xs))) (key x)
unfolding marked
stands_more key xs i x below is =
    ap (λ ys. is_among (map key ys)) (take_more xs i x below is)
    ∙ ap is_among (map-append key (take i xs) (x ∷ []))
    ∙ funext _ _ (λ n. any_more (λ k. k == n) (map key (take i xs)) (key x))

-- one setting more
pub alternate_more : (settings : List Setting) (j : ℕ) (s : Setting) → j < length settings → s ≡ get_or settings j s
    → has_alternate (take (j + 1) settings) ≡ pair_too s.number s.alternate (has_alternate (take j settings))
unfolding pair_too
alternate_more settings j s below is =
    ap has_alternate (take_more settings j s below is)
    ∙ funext _ _ (λ n. funext _ _ (λ a. any_more (λ t. (t.number == n) && (t.alternate == a)) (take j settings) s))

-- a setting more has its addresses
pub shared_more : (settings : List Setting) (j : ℕ) (s : Setting) → j < length settings → s ≡ get_or settings j s
    → shared_with (take (j + 1) settings) ≡ owned s.number s.endpoints (shared_with (take j settings))
unfolding owned
shared_more settings j s below is =
    ap shared_with (take_more settings j s below is)
    ∙ funext _ _ (λ b. funext _ _ (λ m. any_more (has_elsewhere m b) (take j settings) s))

-- an endpoint more has its address
or_again : (here t : Bool) → (here || (false || t)) ≡ ((here || false) || t)
or_again true t = refl
or_again false t = refl

owned_by : (not_n in_before here t : Bool) → ((not_n && here) || ((not_n && in_before) || t)) ≡ ((not_n && (here || in_before)) || t)
owned_by true true true t = refl
owned_by true true false t = refl
owned_by true false here t = or_again here t
owned_by false b h t = refl

pub owned_more : (n : ℕ) (t : ℕ → ℕ → Bool) (endpoints : List Endpoint) (k : ℕ) (e : Endpoint) → k < length endpoints → e ≡ get_or endpoints k e
    → owned n (take (k + 1) endpoints) t ≡ owned_at n (owned n (take k endpoints) t) e.address
unfolding owned owned_at marked
owned_more n t endpoints k e below is =
    funext _ _ (λ b. funext _ _ (λ m.
    ap (λ f. (not (n == m) && f b) || t b m) (stands_more address_of endpoints k e below is)
    ∙ sym (owned_by (not (n == m)) (is_among (map address_of (take k endpoints)) b) (e.address == b) (t b m))))

none_or : (a t : Bool) → ((a && false) || t) ≡ t
none_or true t = refl
none_or false t = refl

pub owned_none : (n : ℕ) (t : ℕ → ℕ → Bool) → owned n [] t ≡ t
unfolding owned
owned_none n t = funext _ _ (λ b. funext _ _ (λ m. none_or (not (n == m)) (t b m)))

-- under its own number nothing changes
pub owned_same : (n : ℕ) (t : ℕ → ℕ → Bool) (endpoints : List Endpoint) (b : ℕ) → owned n endpoints t b n ≡ t b n
unfolding owned
owned_same n t endpoints b = grind (arith, nat_tests)

-- ---- how many interfaces there are

count_first : (b : Bool) (n j : ℕ) (ns : List ℕ) (xs : List (ℕ × ℕ)) → length xs ≡ length ns → length (when b (n, j) ++ xs) ≡ length (when b n ++ ns)
count_first true n j ns xs is = omega (arith, is)
count_first false n j ns xs is = is

count_firsts : (all : List Setting) (j : ℕ) (settings : List Setting)
    → length (at_each (first_at all) j settings) ≡ length (at_each (λ i s. when (is_first (take i all) s) s.number) j settings)
count_firsts all j [] = refl
count_firsts all j (s ∷ settings) = count_first (is_first (take j all) s) s.number j _ _ (count_firsts all (j + 1) settings)

pub count_is : (settings : List Setting) (e : Entered) (list : List Interface) → AreEntered settings e → map first_of list ≡ e.firsts
    → length list ≡ length (interface_numbers settings)
count_is settings e list entered are = sym (length-map list first_of) ∙ ap length (are ∙ entered.firsts) ∙ count_firsts settings 0 settings

-- ---- numbers that are absent

is_within : (next from n : ℕ) → next ≡ from → true ≡ nat_lt next (from + suc n)
is_within next from n here = grind (arith, nat_tests)

-- one of this many numbers from a number on is absent just where the first absent one is among them
pub some_absent : (stands : ℕ → Bool) (from next n : ℕ) → IsNextAbsent stands from next
    → list_any (λ m. not (stands m)) (range_with_len from n) ≡ nat_lt next (from + n)
some_absent stands from next zero absent = let h = absent.least in grind (arith, nat_tests)
some_absent stands from next (suc n) absent =
    elim (cases_lt from next) [
      | inl below ↦
          ap (λ b. not b || list_any (λ m. not (stands m)) (range_with_len (from + 1) n)) (absent.before from (omega arith) below)
          ∙ some_absent stands (from + 1) next n (record { least = omega (arith, below); before = λ m h k. absent.before m (omega (arith, h)) k; absent = absent.absent })
          ∙ ap (nat_lt next) (let e : from + 1 + n ≡ from + suc n = omega arith in e)
      | inr above ↦
          let here : next ≡ from = omega (arith, absent.least, above) in
          ap (λ b. not b || list_any (λ m. not (stands m)) (range_with_len (from + 1) n)) (ap stands (sym here) ∙ absent.absent)
          ∙ is_within next from n here
    ]

zero_not : (k : ℕ) → (k ≡ 0 → ⊥) → false ≡ (k == 0)
zero_not k some = grind (arith, nat_tests)

pub misses_else : (stands : ℕ → Bool) (a : Association) (next : ℕ) → IsNextAbsent stands a.first next → (a.count ≡ 0 → ⊥) → nat_lt next (a.first + a.count) ≡ misses_some stands a
misses_else stands a next absent some =
    sym (some_absent stands a.first next a.count absent) ∙ ap (λ b. b || list_any (λ m. not (stands m)) (range_with_len a.first a.count)) (zero_not a.count some)

-- ---- the findings of a rule

-- a setting more that repeats none
pub new_more : (settings : List Setting) (j : ℕ) (s : Setting) (repeated again : Bool) → j < length settings → s ≡ get_or settings j s → repeated ≡ has_alternate (take j settings) s.number s.alternate
    → (again ≡ false → AreNew settings j) → (again || repeated) ≡ false → AreNew settings (j + 1)
new_more settings j s repeated again small is reported old none k below t at =
    let before : again ≡ false = grind arith in
    let here : repeated ≡ false = grind arith in
    elim (cases_lt k j) [
      | inl less ↦ old before k less t at
      | inr more ↦
          let same : k ≡ j = omega (arith, below, more) in
          let one : t ≡ s = at ∙ ap (λ i. get_or settings i t) same ∙ get_or_default settings j t s small ∙ sym is in
          ap (λ i. has_alternate (take i settings) t.number t.alternate) same ∙ ap (λ u. has_alternate (take j settings) u.number u.alternate) one ∙ sym reported ∙ here
    ]

-- ---- V3 and V4 where no setting breaks them

neither : (stands default : Bool) → default ≡ true → (not stands && not default) ≡ false
neither true default h = refl
neither false default h = ap not h

-- a setting is in its set
its_number : (settings : List Setting) (j : ℕ) (s : Setting) → j < length settings → s ≡ get_or settings j s → is_among (map number_of settings) s.number ≡ true
its_number settings j s below is =
    list_any_at (λ n. n == s.number) (map number_of settings) j s.number (omega (arith, below, length-map settings number_of))
    (ap (λ n. n == s.number) (get_or-map number_of settings j s s.number below ∙ ap number_of (sym is)) ∙ (let e : (s.number == s.number) ≡ true = grind (arith, nat_tests) in e))

pub interface_seen : (may_break : Bool) (at : Place) (settings : List Setting) (j : ℕ) (s : Setting) (e : Entered) → j < length settings → s ≡ get_or settings j s
    → (may_break ≡ true → e.numbers ≡ is_among (map number_of (take j settings))) → (may_break ≡ true → e.alternates ≡ has_alternate (take j settings)) → (may_break ≡ false → NoneBreaksV3OrV4 settings)
    → in_interface at (has_alternate settings) (compared_with may_break e).numbers (compared_with may_break e).alternates s ≡ in_interface at (has_alternate settings) (is_among (map number_of (take j settings))) (has_alternate (take j settings)) s
interface_seen true at settings j s e below is numbers alternates keep =
    ap (λ f. in_interface at (has_alternate settings) f e.alternates s) (numbers refl) ∙ ap (λ f. in_interface at (has_alternate settings) (is_among (map number_of (take j settings))) f s) (alternates refl)
interface_seen false at settings j s e below is numbers alternates keep =
    let none = keep refl in
    let before = is_among (map number_of (take j settings)) s.number in
    let count = when (wrong_endpoint_count s) (broken (causes.EndpointCount s.declared_endpoints (length s.endpoints)) at) in
    let v4 = neither before (has_alternate settings s.number 0) (none.defaults s.number (its_number settings j s below is)) in
    ap (λ b. when b (broken causes.RepeatedSetting at) ++ when (not true && not (has_alternate settings s.number 0)) (broken causes.NoDefaultSetting at) ++ count) (sym (none.repeated j below s is))
    ∙ ap (λ b. when (has_alternate (take j settings) s.number s.alternate) (broken causes.RepeatedSetting at) ++ when b (broken causes.NoDefaultSetting at) ++ count) (sym v4)
