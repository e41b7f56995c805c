-- A layout is read as its set.
use Rattle.std.proofs.Common.{◌≡◌, ℕ, suc, ◌+◌, ◌-◌, ◌*◌, ◌/◌, ◌%◌, ◌≤◌, Bool, true, false, cond, ltb, eqb, ◌||◌, List, [], ◌∷◌, ◌++◌, length, map, Some, None, refl, sym, ap, ◌∙◌, length-append, arith, inl, inr}
use Rattle.std.specs.List.{flat_map, list_any}
use Rattle.std.proofs.lemmas.Bool.{le-ltb, eqb-true, ne_eqb, eq-eqb, cond-true, cond-false, cases_Bool, or_parts, or_from}
use Rattle.usb_set.specs.declared.tree.SetKind.{SetKind}
use Rattle.usb_set.specs.declared.tree.SetKind.TheVariants as kinds
use Rattle.usb_set.specs.declared.extra.Extra.{Extra}
use Rattle.usb_set.specs.declared.tree.Endpoint.{Endpoint}
use Rattle.usb_set.specs.declared.tree.Setting.{Setting}
use Rattle.usb_set.specs.declared.tree.Configuration.{Configuration}
use Rattle.usb_set.specs.declared.fault.SetWhy.{SetWhy}
use Rattle.usb_set.specs.Descriptors.{Descriptor, descriptor_bytes, extra_descriptor, endpoint_descriptor, interface_descriptor, configuration_descriptor, type_number}
use Rattle.usb_set.specs.Layout.{endpoint_descriptors, setting_descriptors, later_descriptors, is_typed_raw, has_typed_raw}
use Rattle.usb_set.specs.inside.Trees.{is_endpoint_typed, is_setting_typed}
use Rattle.usb_set.specs.Faults.{is_set_type, least_length, item_fault, total_of, is_interface, joined, IsHeader, AreItems, Begins}
use Rattle.usb_set.specs.inside.Reading.{Reading, later, whole, reads, reading_of, goes_on, configuration_of}
use Rattle.usb_set.proofs.ByteByByte.{reads-whole}
use Rattle.usb_set.proofs.Complete.{attached, reaches_there}
use Rattle.usb_set.proofs.Trees.{setting_typed_parts, typed_parts}
use Rattle.usb_set.proofs.ExtraLemmas.{is_extra}
use Rattle.usb_set.proofs.Items.{bare, items_again, two_bytes}

-- a descriptor that has no fault where it has room
pub record Fine (in_setting : Bool) (item : Descriptor) : Type 0 where
  pub type_fits : is_set_type item.kind ≡ false
  pub long : least_length item.kind ≤ 2 + length item.body
  pub belongs : (item.kind ≡ 5) → in_setting ≡ true

belongs_none : (in_setting : Bool) (kind : ℕ) (some : SetWhy) → (kind ≡ 5 → in_setting ≡ true) → cond (eqb kind 5) (cond in_setting None (Some some)) None ≡ None
belongs_none in_setting kind some h =
    elim (cases_Bool (eqb kind 5)) [
      | inl y ↦ cond-true (eqb kind 5) _ _ y ∙ cond-true in_setting _ _ (h (eqb-true kind 5 y))
      | inr n ↦ cond-false (eqb kind 5) _ _ n
    ]

pub fine_fault : (room : ℕ) (in_setting : Bool) (item : Descriptor) → Fine in_setting item → 2 + length item.body ≤ room → item_fault room in_setting (descriptor_bytes item) ≡ None
fine_fault room in_setting item h le =
    cond-false (ltb (2 + length item.body) 2) _ _ (le-ltb (2 + length item.body) 2 (omega arith))
    ∙ cond-false (ltb room (2 + length item.body)) _ _ (le-ltb room (2 + length item.body) le)
    ∙ cond-false (is_set_type item.kind) _ _ h.type_fits
    ∙ cond-false (ltb (2 + length item.body) (least_length item.kind)) _ _ (le-ltb (2 + length item.body) (least_length item.kind) h.long)
    ∙ belongs_none in_setting item.kind _ h.belongs

abbrev pub AllFine : Bool → List Descriptor → Type 0
AllFine in_setting [] = Unit {0}
AllFine in_setting (item ∷ items) = Fine in_setting item × AllFine (in_setting || is_interface item) items

are_items : (room : ℕ) (in_setting : Bool) (items : List Descriptor) → AllFine in_setting items → length (joined items) ≤ room → AreItems room in_setting items
are_items room in_setting [] h le = tt
are_items room in_setting (item ∷ items) h le =
    let n : length (joined (item ∷ items)) ≡ length (descriptor_bytes item) + length (joined items) = length-append (descriptor_bytes item) (joined items) in
    (fine_fault room in_setting item h.0 (omega arith), are_items (room - length (descriptor_bytes item)) (in_setting || is_interface item) items h.1 (omega arith))

stays_true : (a b : Bool) → a ≡ true → (a || b) ≡ true
stays_true a b e = ap (λ x. x || b) e

-- whatever came before: these need an interface before them only at endpoints, and there is one
fine_append : (s : Bool) (xs ys : List Descriptor) → AllFine s xs → ((t : Bool) → (s ≡ true → t ≡ true) → AllFine t ys) → AllFine s (xs ++ ys)
fine_append s [] ys hx hy = hy s (λ e. e)
fine_append s (x ∷ xs) ys hx hy = (hx.0, fine_append (s || is_interface x) xs ys hx.1 (λ t f. hy t (λ e. f (stays_true s (is_interface x) e))))

fine_extra : (s : Bool) (x : Extra) → is_typed_raw x ≡ false → Fine s (extra_descriptor x)
fine_extra s x e =
    let is = is_extra x e in
    let kind = (extra_descriptor x).kind in
    record { type_fits = or_from (eqb kind 2) (eqb kind 7) (ne_eqb kind 2 is.ownerless.two) (ne_eqb kind 7 is.ownerless.seven); long = is.long; belongs = λ h. absurd (is.ownerless.five h) }

fine_extras : (s : Bool) (xs : List Extra) → list_any is_typed_raw xs ≡ false → AllFine s (map extra_descriptor xs)
fine_extras s [] e = tt
fine_extras s (x ∷ xs) e =
    let parts = or_parts (is_typed_raw x) (list_any is_typed_raw xs) e in
    (fine_extra s x parts.0, fine_extras (s || is_interface (extra_descriptor x)) xs parts.1)

fine_endpoints : (s : Bool) (es : List Endpoint) → s ≡ true → list_any is_endpoint_typed es ≡ false → AllFine s (flat_map endpoint_descriptors es)
fine_endpoints s [] h e = tt
fine_endpoints s (x ∷ es) h e =
    let parts = or_parts (is_endpoint_typed x) (list_any is_endpoint_typed es) e in
    let one : Fine s (endpoint_descriptor x) = record { type_fits = refl; long = omega arith; belongs = λ _. h } in (
      one,
      fine_append (s || false) (map extra_descriptor x.extras) (flat_map endpoint_descriptors es) (fine_extras (s || false) x.extras parts.0)
          (λ t f. fine_endpoints t es (f (stays_true s false h)) parts.1),
    )

or_true : (s : Bool) → (s || true) ≡ true
or_true true = refl
or_true false = refl

fine_settings : (s : Bool) (ss : List Setting) → list_any is_setting_typed ss ≡ false → AllFine s (flat_map setting_descriptors ss)
fine_settings s [] e = tt
fine_settings s (x ∷ ss) e =
    let parts = or_parts (is_setting_typed x) (list_any is_setting_typed ss) e in
    let inner = setting_typed_parts x parts.0 in
    let one : Fine s (interface_descriptor x) = record { type_fits = refl; long = omega arith; belongs = λ h. absurd (omega arith) } in (
      one,
      fine_append (s || true) (map extra_descriptor x.extras ++ flat_map endpoint_descriptors x.endpoints) (flat_map setting_descriptors ss)
          (fine_append (s || true) (map extra_descriptor x.extras) (flat_map endpoint_descriptors x.endpoints) (fine_extras (s || true) x.extras inner.0) (λ t f. fine_endpoints t x.endpoints (f (or_true s)) inner.1))
          (λ t f. fine_settings t ss parts.1),
    )

pub fine_items : (c : Configuration) → has_typed_raw c ≡ false → AllFine false (later_descriptors c)
fine_items c e =
    let parts = typed_parts c e in
    fine_append false (map extra_descriptor c.extras) (flat_map setting_descriptors c.settings) (fine_extras false c.extras parts.0) (λ t f. fine_settings t c.settings parts.1)

-- ---- the first descriptor

kind_again : (k : SetKind) → cond (eqb (type_number k) 2) kinds.Configuration kinds.OtherSpeed ≡ k
kind_again kinds.Configuration = refl
kind_again kinds.OtherSpeed = refl

pub type_again : (k : SetKind) → is_set_type (type_number k) ≡ true
type_again kinds.Configuration = refl
type_again kinds.OtherSpeed = refl

-- the first descriptor's bytes
abbrev head_bytes : Configuration → ℕ → List ℕ
head_bytes c total = descriptor_bytes (configuration_descriptor c total)

pub configuration_again : (c : Configuration) (total : ℕ) → configuration_of (head_bytes c total) ≡ bare c
configuration_again c total = ap (λ (k : SetKind). record (bare c) { kind = k }) (kind_again c.kind)

header_again : (c : Configuration) (total : ℕ) → length (head_bytes c total) ≤ total → IsHeader (head_bytes c total)
header_again c total room =
    record {
      whole = eq-eqb _ _ (omega arith);
      no_fault = cond-false (ltb (2 + suc (suc (suc (suc (suc (suc (suc (length c.tail)))))))) 9) _ _ (le-ltb _ 9 (omega arith))
          ∙ cond-true (is_set_type (type_number c.kind)) _ _ (type_again c.kind)
          ∙ cond-false (ltb (total % 256 + 256 * (total / 256)) (2 + suc (suc (suc (suc (suc (suc (suc (length c.tail))))))))) _ _ (le-ltb _ _ (omega (arith, two_bytes total)));
    }

pub complete_done : (b : List ℕ) (c : Configuration) (place : ℕ) → Begins b c place → reading_of b ≡ whole c place
unfolding goes_on
complete_done b c place h =
    let total : ℕ = length h.front in
    let bytes : h.front ≡ head_bytes c (length h.front) ++ joined (later_descriptors c) = h.layout.bytes in
    let lengths : length h.front ≡ length (head_bytes c (length h.front)) + length (joined (later_descriptors c)) = ap length bytes ∙ length-append (head_bytes c (length h.front)) (joined (later_descriptors c)) in
    let is_total : total_of (head_bytes c (length h.front)) ≡ length h.front = two_bytes (length h.front) in
    let header : IsHeader (head_bytes c (length h.front)) = header_again c (length h.front) (omega arith) in
    let items : AreItems (total_of (head_bytes c (length h.front)) - length (head_bytes c (length h.front))) false (later_descriptors c) =
    are_items _ false (later_descriptors c) (fine_items c h.layout.raws_are_raw) (omega arith) in
    let again : attached (configuration_of (head_bytes c (length h.front))) (later_descriptors c) ≡ c =
    ap (λ (x : Configuration). attached x (later_descriptors c)) (configuration_again c (length h.front)) ∙ items_again c h.layout.raws_are_raw in
    reaches_there b (head_bytes c (length h.front)) (later_descriptors c) h.rest header items (h.parts ∙ ap (λ (z : List ℕ). z ++ h.rest) bytes)
    ∙ ap (λ (x : Configuration). reads (goes_on x (total_of (head_bytes c (length h.front))) (length (head_bytes c (length h.front)) + length (joined (later_descriptors c)))) h.rest) again
    ∙ ap (λ n. reads (goes_on c n (length (head_bytes c (length h.front)) + length (joined (later_descriptors c)))) h.rest) is_total
    ∙ ap (λ n. reads (goes_on c (length h.front) n) h.rest) (sym lengths)
    ∙ ap (λ (r : Reading). reads r h.rest) (cond-true (eqb (length h.front) (length h.front)) (whole c (length h.front)) (later c (length h.front) (length h.front) []) (eq-eqb (length h.front) (length h.front) refl))
    ∙ reads-whole c (length h.front) h.rest
    ∙ ap (whole c) h.ends
