-- A set with one more descriptor has it after its own.
use Rattle.std.proofs.Common.{◌≡◌, ℕ, suc, ◌+◌, ◌*◌, ◌/◌, ◌%◌, ◌<◌, ◌≤◌, Bool, true, false, cond, ltb, eqb, ◌||◌, List, [], ◌∷◌, ◌++◌, length, map, Option, Some, None, refl, sym, ap, subst, ◌∙◌, append_assoc, length-append, ◌⊎◌, arith, inl, inr}
use Rattle.std.specs.List.{flat_map, list_any}
use Rattle.std.proofs.lemmas.Bool.{le-ltb, ltb-false, eqb-false, eqb-true, ne_eqb, eq-eqb, cond-true, cond-false, cases_Bool, cases_eq, or_parts, or_from, or_right}
use Rattle.std.proofs.lemmas.List.{append-nil, map-append, nil_from_length}
use Rattle.std.proofs.lemmas.List.Concat.{flat_map-append}
use Rattle.std.proofs.lemmas.List.Folds.{list_any-append}
use Rattle.usb_set.specs.declared.extra.Extra.{Extra}
use Rattle.usb_set.specs.declared.fault.SetWhy.{SetWhy}
use Rattle.usb_set.specs.declared.fault.SetWhy.TheVariants.{ItemLength, Over, Nested, ItemShort, Stray}
use Rattle.usb_set.specs.declared.tree.Endpoint.{Endpoint}
use Rattle.usb_set.specs.declared.tree.Setting.{Setting}
use Rattle.usb_set.specs.declared.tree.Configuration.{Configuration}
use Rattle.usb_fields.specs.Bytes.{AreBytes}
use Rattle.usb_set.specs.Descriptors.{Descriptor, descriptor_bytes, extra_descriptor, extra_of, endpoint_descriptor, interface_descriptor, configuration_descriptor}
use Rattle.usb_set.specs.Owners.{setting_extras, extras_of}
use Rattle.usb_set.specs.Layout.{endpoint_descriptors, setting_descriptors, later_descriptors, is_long, has_long_descriptor, is_typed_raw, has_typed_raw}
use Rattle.usb_set.specs.Faults.{item_fault, is_interface, is_set_type, least_length}
use Rattle.usb_set.specs.Building.{has_setting}
use Rattle.usb_set.specs.inside.Reading.{with_last, setting_of, endpoint_of, endpoint_with_extra, setting_with_extra, setting_with_endpoint, set_with_extra, attach}
use Rattle.usb_set.proofs.ExtraLemmas.{IsOwnerless, extra_again, not_typed}

-- ---- lists

pub flat_map-snoc : {A B : Type 0} (g : A → List B) (xs : List A) (x : A) → flat_map g (xs ++ x ∷ []) ≡ flat_map g xs ++ g x
flat_map-snoc g xs x = flat_map-append g xs (x ∷ []) ∙ ap (λ (ys : List _). flat_map g xs ++ ys) (append-nil (g x))

flat_map-with_last : {A B : Type 0} (g : A → List B) (f : A → A) (ys : List B) → ((x : A) → g (f x) ≡ g x ++ ys) → (xs : List A) → 0 < length xs → flat_map g (with_last f xs) ≡ flat_map g xs ++ ys
flat_map-with_last g f ys h [] some = absurd (omega arith)
flat_map-with_last g f ys h (x ∷ []) some = append-nil (g (f x)) ∙ h x ∙ ap (λ (zs : List _). zs ++ ys) (sym (append-nil (g x)))
flat_map-with_last g f ys h (x ∷ y ∷ xs) some =
    ap (λ (zs : List _). g x ++ zs) (flat_map-with_last g f ys h (y ∷ xs) (omega arith)) ∙ sym (append_assoc (g x) (flat_map g (y ∷ xs)) ys)

pub list_any-snoc : {A : Type 0} (p : A → Bool) (xs : List A) (x : A) → list_any p xs ≡ false → p x ≡ false → list_any p (xs ++ x ∷ []) ≡ false
list_any-snoc p xs x e h = list_any-append p xs (x ∷ []) ∙ or_from (list_any p xs) (p x || false) e (or_from (p x) false h refl)

length-with_last : {A : Type 0} (f : A → A) (xs : List A) → length (with_last f xs) ≡ length xs
length-with_last f [] = refl
length-with_last f (x ∷ []) = refl
length-with_last f (x ∷ y ∷ xs) = ap (λ n. suc n) (length-with_last f (y ∷ xs))

-- an element goes before what is not there
swap_nothing : {A : Type 0} (a b y : List A) → b ≡ [] → (a ++ y) ++ b ≡ (a ++ b) ++ y
swap_nothing a b y e = rw (e, append-nil, append-nil) refl

no_length : {A : Type 0} (xs : List A) → eqb (length xs) 0 ≡ true → xs ≡ []
no_length xs e = nil_from_length xs (eqb-true (length xs) 0 e)

some_length : {A : Type 0} (xs : List A) → eqb (length xs) 0 ≡ false → 0 < length xs
some_length [] e = absurd cc
some_length (x ∷ xs) e = omega arith

-- ---- one more extra

endpoint_descriptors-extra : (x : Extra) (e : Endpoint) → endpoint_descriptors (endpoint_with_extra x e) ≡ endpoint_descriptors e ++ extra_descriptor x ∷ []
unfolding endpoint_with_extra
endpoint_descriptors-extra x e = ap (λ (zs : List Descriptor). endpoint_descriptor e ∷ zs) (map-append extra_descriptor e.extras (x ∷ []))

setting_descriptors-extra : (x : Extra) (s : Setting) → setting_descriptors (setting_with_extra x s) ≡ setting_descriptors s ++ extra_descriptor x ∷ []
unfolding setting_with_extra
setting_descriptors-extra x s =
    elim (cases_Bool (eqb (length s.endpoints) 0)) [
      | inl y ↦
          ap setting_descriptors (cond-true (eqb (length s.endpoints) 0) _ _ y)
          ∙ ap (λ (zs : List Descriptor). (interface_descriptor s ∷ zs) ++ flat_map endpoint_descriptors s.endpoints) (map-append extra_descriptor s.extras (x ∷ []))
          ∙ swap_nothing (interface_descriptor s ∷ map extra_descriptor s.extras) (flat_map endpoint_descriptors s.endpoints) (extra_descriptor x ∷ []) (ap (flat_map endpoint_descriptors) (no_length s.endpoints y))
      | inr n ↦
          ap setting_descriptors (cond-false (eqb (length s.endpoints) 0) _ _ n)
          ∙ ap (λ (zs : List Descriptor). (interface_descriptor s ∷ map extra_descriptor s.extras) ++ zs)
          (flat_map-with_last endpoint_descriptors (endpoint_with_extra x) (extra_descriptor x ∷ []) (endpoint_descriptors-extra x) s.endpoints (some_length s.endpoints n))
          ∙ sym (append_assoc (interface_descriptor s ∷ map extra_descriptor s.extras) (flat_map endpoint_descriptors s.endpoints) (extra_descriptor x ∷ []))
    ]

later_descriptors-extra : (x : Extra) (c : Configuration) → later_descriptors (set_with_extra x c) ≡ later_descriptors c ++ extra_descriptor x ∷ []
unfolding set_with_extra
later_descriptors-extra x c =
    elim (cases_Bool (eqb (length c.settings) 0)) [
      | inl y ↦
          ap later_descriptors (cond-true (eqb (length c.settings) 0) _ _ y)
          ∙ ap (λ (zs : List Descriptor). zs ++ flat_map setting_descriptors c.settings) (map-append extra_descriptor c.extras (x ∷ []))
          ∙ swap_nothing (map extra_descriptor c.extras) (flat_map setting_descriptors c.settings) (extra_descriptor x ∷ []) (ap (flat_map setting_descriptors) (no_length c.settings y))
      | inr n ↦
          ap later_descriptors (cond-false (eqb (length c.settings) 0) _ _ n)
          ∙ ap (λ (zs : List Descriptor). map extra_descriptor c.extras ++ zs)
          (flat_map-with_last setting_descriptors (setting_with_extra x) (extra_descriptor x ∷ []) (setting_descriptors-extra x) c.settings (some_length c.settings n))
          ∙ sym (append_assoc (map extra_descriptor c.extras) (flat_map setting_descriptors c.settings) (extra_descriptor x ∷ []))
    ]

endpoint_extras-extra : (x : Extra) (e : Endpoint) → (endpoint_with_extra x e).extras ≡ e.extras ++ x ∷ []
unfolding endpoint_with_extra
endpoint_extras-extra x e = refl

setting_extras-extra : (x : Extra) (s : Setting) → setting_extras (setting_with_extra x s) ≡ setting_extras s ++ x ∷ []
unfolding setting_with_extra
setting_extras-extra x s =
    elim (cases_Bool (eqb (length s.endpoints) 0)) [
      | inl y ↦
          ap setting_extras (cond-true (eqb (length s.endpoints) 0) _ _ y)
          ∙ swap_nothing s.extras (flat_map (λ (e : Endpoint). e.extras) s.endpoints) (x ∷ []) (ap (flat_map (λ (e : Endpoint). e.extras)) (no_length s.endpoints y))
      | inr n ↦
          ap setting_extras (cond-false (eqb (length s.endpoints) 0) _ _ n)
          ∙ ap (λ (zs : List Extra). s.extras ++ zs) (flat_map-with_last (λ (e : Endpoint). e.extras) (endpoint_with_extra x) (x ∷ []) (endpoint_extras-extra x) s.endpoints (some_length s.endpoints n))
          ∙ sym (append_assoc s.extras (flat_map (λ (e : Endpoint). e.extras) s.endpoints) (x ∷ []))
    ]

extras_of-extra : (x : Extra) (c : Configuration) → extras_of (set_with_extra x c) ≡ extras_of c ++ x ∷ []
unfolding set_with_extra
extras_of-extra x c =
    elim (cases_Bool (eqb (length c.settings) 0)) [
      | inl y ↦
          ap extras_of (cond-true (eqb (length c.settings) 0) _ _ y)
          ∙ swap_nothing c.extras (flat_map setting_extras c.settings) (x ∷ []) (ap (flat_map setting_extras) (no_length c.settings y))
      | inr n ↦
          ap extras_of (cond-false (eqb (length c.settings) 0) _ _ n)
          ∙ ap (λ (zs : List Extra). c.extras ++ zs) (flat_map-with_last setting_extras (setting_with_extra x) (x ∷ []) (setting_extras-extra x) c.settings (some_length c.settings n))
          ∙ sym (append_assoc c.extras (flat_map setting_extras c.settings) (x ∷ []))
    ]

-- ---- one more endpoint

setting_descriptors-endpoint : (e : Endpoint) (s : Setting) → setting_descriptors (setting_with_endpoint e s) ≡ setting_descriptors s ++ endpoint_descriptors e
unfolding setting_with_endpoint
setting_descriptors-endpoint e s =
    ap (λ (zs : List Descriptor). (interface_descriptor s ∷ map extra_descriptor s.extras) ++ zs) (flat_map-snoc endpoint_descriptors s.endpoints e)
    ∙ sym (append_assoc (interface_descriptor s ∷ map extra_descriptor s.extras) (flat_map endpoint_descriptors s.endpoints) (endpoint_descriptors e))

setting_extras-endpoint : (e : Endpoint) (s : Setting) → setting_extras (setting_with_endpoint e s) ≡ setting_extras s ++ e.extras
unfolding setting_with_endpoint
setting_extras-endpoint e s =
    ap (λ (zs : List Extra). s.extras ++ zs) (flat_map-snoc (λ (x : Endpoint). x.extras) s.endpoints e)
    ∙ sym (append_assoc s.extras (flat_map (λ (x : Endpoint). x.extras) s.endpoints) e.extras)

-- ---- what a descriptor without fault has

-- the tests of its type, where none of those before shows a fault
tests_passed : (no_length over nested short : Bool) (stray : Option SetWhy)
    → cond no_length (Some ItemLength) (cond over (Some Over) (cond nested (Some Nested) (cond short (Some ItemShort) stray))) ≡ None
    → (nested ≡ false) × ((short ≡ false) × (stray ≡ None))
tests_passed false false false false stray e = (refl, (refl, e))
tests_passed no_length over nested short stray e = cc

fault_passed : (room : ℕ) (in_setting : Bool) (item : Descriptor) → item_fault room in_setting (descriptor_bytes item) ≡ None
    → (is_set_type item.kind ≡ false) × ((ltb (2 + length item.body) (least_length item.kind) ≡ false) × (cond (eqb item.kind 5) (cond in_setting None (Some Stray)) None ≡ None))
fault_passed room in_setting item e = tests_passed (ltb (2 + length item.body) 2) (ltb room (2 + length item.body)) (is_set_type item.kind) (ltb (2 + length item.body) (least_length item.kind)) _ e

pub fault_long : (room : ℕ) (in_setting : Bool) (item : Descriptor) → item_fault room in_setting (descriptor_bytes item) ≡ None → least_length item.kind ≤ 2 + length item.body
fault_long room in_setting item e = ltb-false (2 + length item.body) (least_length item.kind) (fault_passed room in_setting item e).1.0

fault_belongs : (room : ℕ) (in_setting : Bool) (item : Descriptor) → item_fault room in_setting (descriptor_bytes item) ≡ None → item.kind ≡ 5 → in_setting ≡ true
fault_belongs room in_setting item e h = cases in_setting (sym (cond-true (eqb item.kind 5) _ _ (eq-eqb item.kind 5 h)) ∙ (fault_passed room in_setting item e).1.1)
  where
    cases : (b : Bool) → cond b None (Some Stray) ≡ None → b ≡ true
    cases true e = refl
    cases false e = cc

fault_ownerless : (room : ℕ) (in_setting : Bool) (item : Descriptor) → item_fault room in_setting (descriptor_bytes item) ≡ None → (item.kind ≡ 4 → ⊥) × (item.kind ≡ 5 → ⊥) → IsOwnerless item.kind
fault_ownerless room in_setting item e neither =
    let set = or_parts (eqb item.kind 2) (eqb item.kind 7) (fault_passed room in_setting item e).0 in
    record { two = eqb-false item.kind 2 set.0; four = neither.0; five = neither.1; seven = eqb-false item.kind 7 set.1 }

-- ---- descriptors with fields

pub low_byte : (low high : ℕ) → low < 256 → (low + 256 * high) % 256 ≡ low
low_byte low high lt = omega arith

pub high_byte : (low high : ℕ) → low < 256 → (low + 256 * high) / 256 ≡ high
high_byte low high lt = omega arith

interface_again : (body : List ℕ) → 7 ≤ length body → setting_descriptors (setting_of body) ≡ record { kind = 4; body = body } ∷ []
interface_again [] n = absurd (omega arith)
interface_again (a ∷ []) n = absurd (omega arith)
interface_again (a ∷ b ∷ []) n = absurd (omega arith)
interface_again (a ∷ b ∷ c ∷ []) n = absurd (omega arith)
interface_again (a ∷ b ∷ c ∷ d ∷ []) n = absurd (omega arith)
interface_again (a ∷ b ∷ c ∷ d ∷ e ∷ []) n = absurd (omega arith)
interface_again (a ∷ b ∷ c ∷ d ∷ e ∷ f ∷ []) n = absurd (omega arith)
interface_again (a ∷ b ∷ c ∷ d ∷ e ∷ f ∷ g ∷ tail) n = refl

endpoint_again : (body : List ℕ) → 5 ≤ length body → AreBytes body → endpoint_descriptors (endpoint_of body) ≡ record { kind = 5; body = body } ∷ []
endpoint_again [] n fits = absurd (omega arith)
endpoint_again (a ∷ []) n fits = absurd (omega arith)
endpoint_again (a ∷ b ∷ []) n fits = absurd (omega arith)
endpoint_again (a ∷ b ∷ c ∷ []) n fits = absurd (omega arith)
endpoint_again (a ∷ b ∷ c ∷ d ∷ []) n fits = absurd (omega arith)
endpoint_again (a ∷ b ∷ low ∷ high ∷ i ∷ tail) n fits = rw (low_byte low high fits.1.1.0, high_byte low high fits.1.1.0) refl

-- ---- one more descriptor

pub attach-interface : (c : Configuration) (item : Descriptor) → item.kind ≡ 4 → attach c item ≡ record c { settings = c.settings ++ setting_of item.body ∷ [] }
unfolding attach
attach-interface c item e = cond-true (eqb item.kind 4) _ _ (eq-eqb item.kind 4 e)

pub attach-endpoint : (c : Configuration) (item : Descriptor) → item.kind ≡ 5 → attach c item ≡ record c { settings = with_last (setting_with_endpoint (endpoint_of item.body)) c.settings }
unfolding attach
attach-endpoint c item e = cond-false (eqb item.kind 4) _ _ (ne_eqb item.kind 4 (λ h. omega arith)) ∙ cond-true (eqb item.kind 5) _ _ (eq-eqb item.kind 5 e)

pub attach-extra : (c : Configuration) (item : Descriptor) → (item.kind ≡ 4 → ⊥) → (item.kind ≡ 5 → ⊥) → attach c item ≡ set_with_extra (extra_of item) c
unfolding attach
attach-extra c item n4 n5 = cond-false (eqb item.kind 4) _ _ (ne_eqb item.kind 4 n4) ∙ cond-false (eqb item.kind 5) _ _ (ne_eqb item.kind 5 n5)

setting_some : (c : Configuration) → has_setting c ≡ true → 0 < length c.settings
setting_some c e = elim (cases_Bool (eqb (length c.settings) 0)) [
  | inl y ↦ absurd (let h : false ≡ true = sym (cond-true (eqb (length c.settings) 0) false true y) ∙ e in cc)
  | inr n ↦ some_length c.settings n
]

kind_cases : (kind : ℕ) → (kind ≡ 4) ⊎ ((kind ≡ 5) ⊎ ((kind ≡ 4 → ⊥) × (kind ≡ 5 → ⊥)))
kind_cases kind = elim (cases_eq kind 4) [
  | inl y ↦ inl y
  | inr n ↦ elim (cases_eq kind 5) [ inl y ↦ inr (inl y) | inr m ↦ inr (inr (n, m)) ]
]

pub later_descriptors-attach : (c : Configuration) (room : ℕ) (item : Descriptor) → item_fault room (has_setting c) (descriptor_bytes item) ≡ None → AreBytes item.body
    → later_descriptors (attach c item) ≡ later_descriptors c ++ item ∷ []
later_descriptors-attach c room item fine fits =
    elim (kind_cases item.kind) [
      | inl four ↦
          let least : 9 ≤ 2 + length item.body = subst (λ n. least_length n ≤ 2 + length item.body) four (fault_long room (has_setting c) item fine) in
          let long : 7 ≤ length item.body = omega arith in
          ap later_descriptors (attach-interface c item four)
          ∙ ap (λ (zs : List Descriptor). map extra_descriptor c.extras ++ zs) (flat_map-snoc setting_descriptors c.settings (setting_of item.body))
          ∙ sym (append_assoc (map extra_descriptor c.extras) (flat_map setting_descriptors c.settings) (setting_descriptors (setting_of item.body)))
          ∙ ap (λ (zs : List Descriptor). later_descriptors c ++ zs) (interface_again item.body long)
          ∙ ap (λ n. later_descriptors c ++ record { kind = n; body = item.body } ∷ []) (sym four)
      | inr other ↦ elim other [
        | inl five ↦
            let least : 7 ≤ 2 + length item.body = subst (λ n. least_length n ≤ 2 + length item.body) five (fault_long room (has_setting c) item fine) in
            let long : 5 ≤ length item.body = omega arith in
            let some : 0 < length c.settings = setting_some c (fault_belongs room (has_setting c) item fine five) in
            ap later_descriptors (attach-endpoint c item five)
            ∙ ap (λ (zs : List Descriptor). map extra_descriptor c.extras ++ zs)
            (flat_map-with_last setting_descriptors (setting_with_endpoint (endpoint_of item.body)) (endpoint_descriptors (endpoint_of item.body)) (setting_descriptors-endpoint (endpoint_of item.body)) c.settings some)
            ∙ sym (append_assoc (map extra_descriptor c.extras) (flat_map setting_descriptors c.settings) (endpoint_descriptors (endpoint_of item.body)))
            ∙ ap (λ (zs : List Descriptor). later_descriptors c ++ zs) (endpoint_again item.body long fits)
            ∙ ap (λ n. later_descriptors c ++ record { kind = n; body = item.body } ∷ []) (sym five)
        | inr neither ↦
            ap later_descriptors (attach-extra c item neither.0 neither.1) ∙ later_descriptors-extra (extra_of item) c
            ∙ ap (λ (d : Descriptor). later_descriptors c ++ d ∷ []) (extra_again item (fault_long room (has_setting c) item fine) fits)
      ]
    ]

-- the first descriptor stays
set_with_extra-head : (x : Extra) (c : Configuration) (total : ℕ) → configuration_descriptor (set_with_extra x c) total ≡ configuration_descriptor c total
unfolding set_with_extra
set_with_extra-head x c total =
    elim (cases_Bool (eqb (length c.settings) 0)) [
      | inl y ↦ ap (λ (z : Configuration). configuration_descriptor z total) (cond-true (eqb (length c.settings) 0) (record c { extras = c.extras ++ x ∷ [] }) (record c { settings = with_last (setting_with_extra x) c.settings }) y)
      | inr n ↦ ap (λ (z : Configuration). configuration_descriptor z total) (cond-false (eqb (length c.settings) 0) (record c { extras = c.extras ++ x ∷ [] }) (record c { settings = with_last (setting_with_extra x) c.settings }) n)
    ]

pub attach-head : (c : Configuration) (item : Descriptor) (total : ℕ) → configuration_descriptor (attach c item) total ≡ configuration_descriptor c total
attach-head c item total = elim (kind_cases item.kind) [
  | inl four ↦ ap (λ (z : Configuration). configuration_descriptor z total) (attach-interface c item four)
  | inr other ↦ elim other [
    | inl five ↦ ap (λ (z : Configuration). configuration_descriptor z total) (attach-endpoint c item five)
    | inr neither ↦ ap (λ (z : Configuration). configuration_descriptor z total) (attach-extra c item neither.0 neither.1) ∙ set_with_extra-head (extra_of item) c total
  ]
]

-- ---- no descriptor is too long, and no raw one has a type of its own

-- the set so far keeps to the rules of a layout
pub record IsLegal (c : Configuration) : Type 0 where
  pub within_255 : has_long_descriptor c ≡ false
  pub raws_are_raw : has_typed_raw c ≡ false

pub not_long : (n m : ℕ) → n ≤ m → ltb m n ≡ false
not_long n m le = le-ltb m n le

pub typed-attach : (c : Configuration) (room : ℕ) (item : Descriptor) → has_typed_raw c ≡ false → item_fault room (has_setting c) (descriptor_bytes item) ≡ None → has_typed_raw (attach c item) ≡ false
typed-attach c room item typed fine =
    elim (kind_cases item.kind) [
      | inl four ↦
          ap has_typed_raw (attach-interface c item four)
          ∙ ap (λ (zs : List Extra). list_any is_typed_raw (c.extras ++ zs)) (flat_map-snoc setting_extras c.settings (setting_of item.body) ∙ append-nil (flat_map setting_extras c.settings))
          ∙ typed
      | inr other ↦ elim other [
        | inl five ↦
            let some : 0 < length c.settings = setting_some c (fault_belongs room (has_setting c) item fine five) in
            ap has_typed_raw (attach-endpoint c item five)
            ∙ ap (λ (zs : List Extra). list_any is_typed_raw (c.extras ++ zs))
            (flat_map-with_last setting_extras (setting_with_endpoint (endpoint_of item.body)) [] (setting_extras-endpoint (endpoint_of item.body)) c.settings some ∙ append-nil (flat_map setting_extras c.settings))
            ∙ typed
        | inr neither ↦
            ap has_typed_raw (attach-extra c item neither.0 neither.1)
            ∙ ap (list_any is_typed_raw) (extras_of-extra (extra_of item) c)
            ∙ list_any-snoc is_typed_raw (extras_of c) (extra_of item) typed
            (not_typed item (fault_ownerless room (has_setting c) item fine neither))
      ]
    ]

pub legal-attach : (c : Configuration) (room : ℕ) (item : Descriptor) → IsLegal c → item_fault room (has_setting c) (descriptor_bytes item) ≡ None → AreBytes item.body → length item.body ≤ 253 → IsLegal (attach c item)
legal-attach c room item legal fine fits short =
    let parts = or_parts (is_long (configuration_descriptor c 0)) (list_any is_long (later_descriptors c)) legal.within_255 in
    record {
      within_255 = or_from (is_long (configuration_descriptor (attach c item) 0)) (list_any is_long (later_descriptors (attach c item)))
          (ap is_long (attach-head c item 0) ∙ parts.0)
          (ap (list_any is_long) (later_descriptors-attach c room item fine fits) ∙ list_any-snoc is_long (later_descriptors c) item parts.1 (not_long (length item.body) 253 short));
      raws_are_raw = typed-attach c room item legal.raws_are_raw fine;
    }

-- ---- an interface came before

some_setting : (n : ℕ) → 0 < n → cond (eqb n 0) false true ≡ true
some_setting n lt = cond-false (eqb n 0) false true (ne_eqb n 0 (λ e. omega arith))

same_settings : (x : Extra) (c : Configuration) → has_setting (set_with_extra x c) ≡ has_setting c
unfolding set_with_extra
same_settings x c =
    elim (cases_Bool (eqb (length c.settings) 0)) [
      | inl y ↦ ap has_setting (cond-true (eqb (length c.settings) 0) (record c { extras = c.extras ++ x ∷ [] }) (record c { settings = with_last (setting_with_extra x) c.settings }) y)
      | inr n ↦ ap has_setting (cond-false (eqb (length c.settings) 0) (record c { extras = c.extras ++ x ∷ [] }) (record c { settings = with_last (setting_with_extra x) c.settings }) n)
          ∙ ap (λ n. cond (eqb n 0) false true) (length-with_last (setting_with_extra x) c.settings)
    ]

not_there : (a b : Bool) → b ≡ false → a ≡ (a || b)
not_there true b e = refl
not_there false b e = sym e

pub has_setting-attach : (c : Configuration) (item : Descriptor) → has_setting (attach c item) ≡ (has_setting c || is_interface item)
has_setting-attach c item =
    elim (kind_cases item.kind) [
      | inl four ↦
          ap has_setting (attach-interface c item four)
          ∙ some_setting (length (c.settings ++ setting_of item.body ∷ [])) (omega (arith, length-append c.settings (setting_of item.body ∷ [])))
          ∙ sym (or_right (has_setting c) (is_interface item) (eq-eqb item.kind 4 four))
      | inr other ↦ elim other [
        | inl five ↦
            ap has_setting (attach-endpoint c item five)
            ∙ ap (λ n. cond (eqb n 0) false true) (length-with_last (setting_with_endpoint (endpoint_of item.body)) c.settings)
            ∙ not_there (has_setting c) (is_interface item) (ne_eqb item.kind 4 (λ h. omega arith))
        | inr neither ↦
            ap has_setting (attach-extra c item neither.0 neither.1)
            ∙ same_settings (extra_of item) c
            ∙ not_there (has_setting c) (is_interface item) (ne_eqb item.kind 4 neither.0)
      ]
    ]
