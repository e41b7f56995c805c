-- The lines of a set are those of its descriptors.
use Rattle.std.proofs.Common.{append-nil, ◌≡◌, ℕ, false, List, [], ◌∷◌, ◌++◌, map, refl, sym, ap, ◌∙◌, append_assoc, arith}
use Rattle.std.specs.List.{flat_map, list_any}
use Rattle.std.proofs.lemmas.Bool.{or_parts}
use Rattle.std.proofs.lemmas.Bool.Decides.{nat_tests}
use Rattle.std.proofs.lemmas.List.Concat.{flat_map-append}
use Rattle.std.proofs.lemmas.List.Folds.{list_any-append}
use Rattle.usb_set.specs.declared.tree.SetKind.{SetKind}
use Rattle.usb_set.specs.declared.tree.SetKind.TheVariants as kinds
use Rattle.usb_set.specs.declared.extra.Extra.{Extra}
use Rattle.usb_set.specs.declared.extra.Extra.TheVariants as extras
use Rattle.usb_set.specs.declared.tree.Endpoint.{Endpoint}
use Rattle.usb_set.specs.declared.tree.Setting.{Setting}
use Rattle.usb_set.specs.declared.tree.Configuration.{Configuration}
use Rattle.usb_set.specs.Descriptors.{Descriptor, configuration_descriptor, endpoint_descriptor, extra_descriptor, interface_descriptor}
use Rattle.usb_set.specs.Owners.{setting_extras}
use Rattle.usb_set.specs.Layout.{endpoint_descriptors, has_typed_raw, is_typed, is_typed_raw, later_descriptors, set_descriptors, setting_descriptors}
use Rattle.usb_listing.specs.Listing.{configuration_line, endpoint_line, endpoint_lines, extra_line, interface_line, set_lines, setting_lines}
use Rattle.usb_listing.specs.Table.{descriptor_line, raw_row, row_of}

pub configuration_is : (c : Configuration) (total : ℕ) → configuration_line c ≡ descriptor_line (configuration_descriptor c total)
unfolding configuration_line
configuration_is c total = cases c.kind refl
  where
    cases : (kind : SetKind) → c.kind ≡ kind → configuration_line c ≡ descriptor_line (configuration_descriptor c total)
    cases kinds.Configuration e = rw e refl
    cases kinds.OtherSpeed e = rw e refl

interface_is : (s : Setting) → interface_line s ≡ descriptor_line (interface_descriptor s)
unfolding interface_line
interface_is s = refl

endpoint_is : (e : Endpoint) → endpoint_line e ≡ descriptor_line (endpoint_descriptor e)
unfolding endpoint_line
endpoint_is e = refl

-- a type whose lines are not `raw` is one that a set gives a meaning
row_typed : (kind : ℕ) → is_typed kind ≡ false → row_of kind ≡ raw_row
row_typed kind e = grind (arith, nat_tests)

extra_is : (x : Extra) → is_typed_raw x ≡ false → extra_line x ≡ descriptor_line (extra_descriptor x)
unfolding extra_line
extra_is (extras.Raw r) e = rw (row_typed r.kind e) refl
extra_is x e = refl

-- ---- and of lists of them

extras_are : (xs : List Extra) → list_any is_typed_raw xs ≡ false → flat_map extra_line xs ≡ flat_map descriptor_line (map extra_descriptor xs)
extras_are [] e = refl
extras_are (x ∷ xs) e =
    let parts = or_parts (is_typed_raw x) (list_any is_typed_raw xs) e in
    rw (extra_is x parts.0, extras_are xs parts.1) refl

endpoint_are : (e : Endpoint) → list_any is_typed_raw e.extras ≡ false → endpoint_lines e ≡ flat_map descriptor_line (endpoint_descriptors e)
endpoint_are e h = rw (endpoint_is e, extras_are e.extras h) refl

-- no extra of parts is raw and typed, where none of all is
any_parts : {A : Type 0} (g : A → List Extra) (x : A) (xs : List A) → list_any is_typed_raw (flat_map g (x ∷ xs)) ≡ false
    → (list_any is_typed_raw (g x) ≡ false) × (list_any is_typed_raw (flat_map g xs) ≡ false)
any_parts g x xs e = or_parts (list_any is_typed_raw (g x)) (list_any is_typed_raw (flat_map g xs)) (sym (list_any-append is_typed_raw (g x) (flat_map g xs)) ∙ e)

endpoints_are : (es : List Endpoint) → list_any is_typed_raw (flat_map (λ (e : Endpoint). e.extras) es) ≡ false → flat_map endpoint_lines es ≡ flat_map descriptor_line (flat_map endpoint_descriptors es)
endpoints_are [] h = refl
endpoints_are (e ∷ es) h =
    let parts = any_parts (λ (e : Endpoint). e.extras) e es h in
    rw (endpoint_are e parts.0, endpoints_are es parts.1) (sym (flat_map-append descriptor_line (endpoint_descriptors e) (flat_map endpoint_descriptors es)))

setting_are : (s : Setting) → list_any is_typed_raw (setting_extras s) ≡ false → setting_lines s ≡ flat_map descriptor_line (setting_descriptors s)
setting_are s h =
    let inner = flat_map (λ (e : Endpoint). e.extras) s.endpoints in
    let parts = or_parts (list_any is_typed_raw s.extras) (list_any is_typed_raw inner) (sym (list_any-append is_typed_raw s.extras inner) ∙ h) in
    rw (interface_is s, extras_are s.extras parts.0, endpoints_are s.endpoints parts.1)
    (append_assoc (descriptor_line (interface_descriptor s)) (flat_map descriptor_line (map extra_descriptor s.extras)) (flat_map descriptor_line (flat_map endpoint_descriptors s.endpoints))
    ∙ ap (λ (xs : List ℕ). descriptor_line (interface_descriptor s) ++ xs)
    (sym (flat_map-append descriptor_line (map extra_descriptor s.extras) (flat_map endpoint_descriptors s.endpoints))))

settings_are : (ss : List Setting) → list_any is_typed_raw (flat_map setting_extras ss) ≡ false → flat_map setting_lines ss ≡ flat_map descriptor_line (flat_map setting_descriptors ss)
settings_are [] h = refl
settings_are (s ∷ ss) h =
    let parts = any_parts setting_extras s ss h in
    rw (setting_are s parts.0, settings_are ss parts.1) (sym (flat_map-append descriptor_line (setting_descriptors s) (flat_map setting_descriptors ss)))

pub set_is : (c : Configuration) (total : ℕ) → has_typed_raw c ≡ false → set_lines c ≡ flat_map descriptor_line (set_descriptors c total)
set_is c total h =
    let inner = flat_map setting_extras c.settings in
    let parts = or_parts (list_any is_typed_raw c.extras) (list_any is_typed_raw inner) (sym (list_any-append is_typed_raw c.extras inner) ∙ h) in
    rw (configuration_is c total, extras_are c.extras parts.0, settings_are c.settings parts.1)
    (append_assoc (descriptor_line (configuration_descriptor c total)) (flat_map descriptor_line (map extra_descriptor c.extras)) (flat_map descriptor_line (flat_map setting_descriptors c.settings))
    ∙ ap (λ (xs : List ℕ). descriptor_line (configuration_descriptor c total) ++ xs)
    (sym (flat_map-append descriptor_line (map extra_descriptor c.extras) (flat_map setting_descriptors c.settings))))

pub line_more : (c d : Configuration) (item : Descriptor) → has_typed_raw c ≡ false → has_typed_raw d ≡ false → configuration_descriptor d 0 ≡ configuration_descriptor c 0
    → later_descriptors d ≡ later_descriptors c ++ item ∷ [] → set_lines d ≡ set_lines c ++ descriptor_line item
line_more c d item hc hd head later =
    set_is d 0 hd
    ∙ ap (λ (x : Descriptor). flat_map descriptor_line (x ∷ later_descriptors d)) head
    ∙ ap (λ (xs : List Descriptor). flat_map descriptor_line (configuration_descriptor c 0 ∷ xs)) later
    ∙ flat_map-append descriptor_line (set_descriptors c 0) (item ∷ [])
    ∙ ap (λ (xs : List ℕ). flat_map descriptor_line (set_descriptors c 0) ++ xs) (append-nil (descriptor_line item))
    ∙ ap (λ (xs : List ℕ). xs ++ descriptor_line item) (sym (set_is c 0 hc))
