-- A set whose raw descriptors become what their types say keeps its bytes.
use Rattle.std.proofs.Common.{◌≡◌, ℕ, ◌+◌, Bool, false, eqb, ltb, ◌||◌, List, [], ◌∷◌, ◌++◌, length, map, refl, sym, ap, ◌∙◌, arith}
use Rattle.std.specs.List.{flat_map, list_any}
use Rattle.std.proofs.lemmas.Bool.{eqb-false, le-ltb, ltb-false, or_parts, or_from}
use Rattle.std.proofs.lemmas.List.{map-append}
use Rattle.std.proofs.lemmas.List.Folds.{list_any-append}
use Rattle.usb_fields.specs.Bytes.{AreBytes}
use Rattle.usb_set.specs.declared.extra.Extra.{Extra}
use Rattle.usb_set.specs.declared.extra.Extra.TheVariants as extras
use Rattle.usb_set.specs.declared.tree.Endpoint.{Endpoint}
use Rattle.usb_set.specs.declared.tree.Setting.{Setting}
use Rattle.usb_set.specs.declared.tree.Configuration.{Configuration}
use Rattle.usb_set.specs.Descriptors.{Descriptor, descriptor_bytes, raw_descriptor, extra_descriptor, endpoint_descriptor, interface_descriptor, configuration_descriptor}
use Rattle.usb_set.specs.Owners.{setting_extras, extras_of}
use Rattle.usb_set.specs.Layout.{endpoint_descriptors, setting_descriptors, later_descriptors, is_long, is_typed_raw, Layout}
use Rattle.usb_set.specs.RawSets.{is_read_raw, RawLayout, lift_extra, lift_endpoint, lift_setting, lift, is_cut}
use Rattle.usb_set.specs.Faults.{least_length}
use Rattle.usb_set.proofs.ExtraLemmas.{extra_again, not_typed}

any_parts : {A : Type 0} (p : A → Bool) (xs ys : List A) → list_any p (xs ++ ys) ≡ false → (list_any p xs ≡ false) × (list_any p ys ≡ false)
any_parts p xs ys h = or_parts (list_any p xs) (list_any p ys) (sym (list_any-append p xs ys) ∙ h)

-- whether a number is no byte
over : List ℕ → Bool
over xs = list_any (ltb 255) xs

-- ---- the descriptors stay

-- whether a number of it is no byte
is_over : Extra → Bool
is_over x = over (extra_descriptor x).body

over_bytes : (xs : List ℕ) → over xs ≡ false → AreBytes xs
unfolding over
over_bytes [] h = tt
over_bytes (x ∷ xs) h = let p = or_parts (ltb 255 x) (over xs) h in (let n = ltb-false 255 x p.0 in omega arith, over_bytes xs p.1)

bytes_over : (xs : List ℕ) → AreBytes xs → over xs ≡ false
unfolding over
bytes_over [] h = refl
bytes_over (x ∷ xs) h = or_from (ltb 255 x) (over xs) (le-ltb 255 x (let n = h.0 in omega arith)) (bytes_over xs h.1)

-- an extra that keeps its descriptor
is_unread : Extra → Bool
is_unread x = is_cut x || is_over x

same_extra : (x : Extra) → is_unread x ≡ false → extra_descriptor (lift_extra x) ≡ extra_descriptor x
unfolding is_unread is_over
same_extra (extras.Raw r) h =
    let p = or_parts (is_cut (extras.Raw r)) (over r.body) h in extra_again (raw_descriptor r) (ltb-false (2 + length r.body) (least_length r.kind) p.0) (over_bytes r.body p.1)
same_extra x h = refl

same_extras : (xs : List Extra) → list_any is_unread xs ≡ false → map extra_descriptor (map lift_extra xs) ≡ map extra_descriptor xs
same_extras [] h = refl
same_extras (x ∷ xs) h =
    let parts = or_parts (is_unread x) (list_any is_unread xs) h in
    ap (λ (d : Descriptor). d ∷ map extra_descriptor (map lift_extra xs)) (same_extra x parts.0) ∙ ap (λ (ds : List Descriptor). extra_descriptor x ∷ ds) (same_extras xs parts.1)

same_endpoints : (es : List Endpoint) → list_any is_unread (flat_map (λ (e : Endpoint). e.extras) es) ≡ false → flat_map endpoint_descriptors (map lift_endpoint es) ≡ flat_map endpoint_descriptors es
same_endpoints [] h = refl
same_endpoints (e ∷ es) h =
    let parts = any_parts is_unread e.extras (flat_map (λ (x : Endpoint). x.extras) es) h in
    ap (λ (ds : List Descriptor). (endpoint_descriptor e ∷ ds) ++ flat_map endpoint_descriptors (map lift_endpoint es)) (same_extras e.extras parts.0)
    ∙ ap (λ (ds : List Descriptor). endpoint_descriptors e ++ ds) (same_endpoints es parts.1)

same_setting : (s : Setting) → list_any is_unread (setting_extras s) ≡ false → setting_descriptors (lift_setting s) ≡ setting_descriptors s
same_setting s h =
    let parts = any_parts is_unread s.extras (flat_map (λ (e : Endpoint). e.extras) s.endpoints) h in
    ap (λ (ds : List Descriptor). (interface_descriptor s ∷ ds) ++ flat_map endpoint_descriptors (map lift_endpoint s.endpoints)) (same_extras s.extras parts.0)
    ∙ ap (λ (ds : List Descriptor). (interface_descriptor s ∷ map extra_descriptor s.extras) ++ ds) (same_endpoints s.endpoints parts.1)

same_settings : (ss : List Setting) → list_any is_unread (flat_map setting_extras ss) ≡ false → flat_map setting_descriptors (map lift_setting ss) ≡ flat_map setting_descriptors ss
same_settings [] h = refl
same_settings (s ∷ ss) h =
    let parts = any_parts is_unread (setting_extras s) (flat_map setting_extras ss) h in
    ap (λ (ds : List Descriptor). ds ++ flat_map setting_descriptors (map lift_setting ss)) (same_setting s parts.0)
    ∙ ap (λ (ds : List Descriptor). setting_descriptors s ++ ds) (same_settings ss parts.1)

same_later : (c : Configuration) → list_any is_unread (extras_of c) ≡ false → later_descriptors (lift c) ≡ later_descriptors c
same_later c h =
    let parts = any_parts is_unread c.extras (flat_map setting_extras c.settings) h in
    ap (λ (ds : List Descriptor). ds ++ flat_map setting_descriptors (map lift_setting c.settings)) (same_extras c.extras parts.0)
    ∙ ap (λ (ds : List Descriptor). map extra_descriptor c.extras ++ ds) (same_settings c.settings parts.1)

-- ---- bytes

descriptors_over : (ds : List Descriptor) → over (flat_map descriptor_bytes ds) ≡ false → list_any (λ (d : Descriptor). over d.body) ds ≡ false
unfolding over
descriptors_over [] h = refl
descriptors_over (d ∷ ds) h =
    let p = any_parts (ltb 255) (descriptor_bytes d) (flat_map descriptor_bytes ds) h in
    let body = or_parts (ltb 255 d.kind) (over d.body) (or_parts (ltb 255 (2 + length d.body)) (ltb 255 d.kind || over d.body) p.0).1 in
    or_from (over d.body) (list_any (λ (x : Descriptor). over x.body) ds) body.1 (descriptors_over ds p.1)

any_over : List Descriptor → Bool
any_over ds = list_any (λ (d : Descriptor). over d.body) ds

over_parts : (xs ys : List Descriptor) → any_over (xs ++ ys) ≡ false → (any_over xs ≡ false) × (any_over ys ≡ false)
unfolding any_over
over_parts xs ys h = any_parts (λ (d : Descriptor). over d.body) xs ys h

both : (xs ys : List Extra) → list_any is_over xs ≡ false → list_any is_over ys ≡ false → list_any is_over (xs ++ ys) ≡ false
both xs ys a b = list_any-append is_over xs ys ∙ or_from (list_any is_over xs) (list_any is_over ys) a b

extras_over : (xs : List Extra) → any_over (map extra_descriptor xs) ≡ false → list_any is_over xs ≡ false
unfolding any_over is_over
extras_over [] h = refl
extras_over (x ∷ xs) h =
    let p = or_parts (over (extra_descriptor x).body) (any_over (map extra_descriptor xs)) h in or_from (is_over x) (list_any is_over xs) p.0 (extras_over xs p.1)

behind : (d : Descriptor) (ds : List Descriptor) → any_over (d ∷ ds) ≡ false → any_over ds ≡ false
unfolding any_over
behind d ds h = (or_parts (over d.body) (list_any (λ (x : Descriptor). over x.body) ds) h).1

endpoints_over : (es : List Endpoint) → any_over (flat_map endpoint_descriptors es) ≡ false → list_any is_over (flat_map (λ (e : Endpoint). e.extras) es) ≡ false
endpoints_over [] h = refl
endpoints_over (e ∷ es) h =
    let p = over_parts (endpoint_descriptors e) (flat_map endpoint_descriptors es) h in
    both e.extras (flat_map (λ (x : Endpoint). x.extras) es) (extras_over e.extras (behind (endpoint_descriptor e) (map extra_descriptor e.extras) p.0)) (endpoints_over es p.1)

settings_over : (ss : List Setting) → any_over (flat_map setting_descriptors ss) ≡ false → list_any is_over (flat_map setting_extras ss) ≡ false
settings_over [] h = refl
settings_over (s ∷ ss) h =
    let p = over_parts (setting_descriptors s) (flat_map setting_descriptors ss) h in
    let own = over_parts (map extra_descriptor s.extras) (flat_map endpoint_descriptors s.endpoints) (behind (interface_descriptor s) (map extra_descriptor s.extras ++ flat_map endpoint_descriptors s.endpoints) p.0) in
    both (setting_extras s) (flat_map setting_extras ss)
    (both s.extras (flat_map (λ (e : Endpoint). e.extras) s.endpoints) (extras_over s.extras own.0) (endpoints_over s.endpoints own.1)) (settings_over ss p.1)

set_over : (c : Configuration) → any_over (later_descriptors c) ≡ false → list_any is_over (extras_of c) ≡ false
set_over c h =
    let p = over_parts (map extra_descriptor c.extras) (flat_map setting_descriptors c.settings) h in
    both c.extras (flat_map setting_extras c.settings) (extras_over c.extras p.0) (settings_over c.settings p.1)

any_either : (xs : List Extra) → list_any is_cut xs ≡ false → list_any is_over xs ≡ false → list_any is_unread xs ≡ false
unfolding is_unread
any_either [] a b = refl
any_either (x ∷ xs) a b =
    let p = or_parts (is_cut x) (list_any is_cut xs) a in
    let q = or_parts (is_over x) (list_any is_over xs) b in
    or_from (is_unread x) (list_any is_unread xs) (or_from (is_cut x) (is_over x) p.0 q.0) (any_either xs p.1 q.1)

unread : (c : Configuration) (b : List ℕ) → RawLayout c b → list_any is_cut (extras_of c) ≡ false → list_any is_unread (extras_of c) ≡ false
unfolding any_over
unread c b h whole =
    let all = descriptors_over (configuration_descriptor c (length b) ∷ later_descriptors c) (sym (ap over h.bytes) ∙ bytes_over b h.fits) in
    any_either (extras_of c) whole (set_over c (behind (configuration_descriptor c (length b)) (later_descriptors c) all))

-- ---- no raw descriptor has a typed kind

lifted_endpoints : (es : List Endpoint) → flat_map (λ (e : Endpoint). e.extras) (map lift_endpoint es) ≡ map lift_extra (flat_map (λ (e : Endpoint). e.extras) es)
lifted_endpoints [] = refl
lifted_endpoints (e ∷ es) =
    ap (λ (xs : List Extra). map lift_extra e.extras ++ xs) (lifted_endpoints es) ∙ sym (map-append lift_extra e.extras (flat_map (λ (x : Endpoint). x.extras) es))

lifted_setting : (s : Setting) → setting_extras (lift_setting s) ≡ map lift_extra (setting_extras s)
lifted_setting s =
    ap (λ (xs : List Extra). map lift_extra s.extras ++ xs) (lifted_endpoints s.endpoints) ∙ sym (map-append lift_extra s.extras (flat_map (λ (e : Endpoint). e.extras) s.endpoints))

lifted_settings : (ss : List Setting) → flat_map setting_extras (map lift_setting ss) ≡ map lift_extra (flat_map setting_extras ss)
lifted_settings [] = refl
lifted_settings (s ∷ ss) =
    ap (λ (xs : List Extra). xs ++ flat_map setting_extras (map lift_setting ss)) (lifted_setting s)
    ∙ ap (λ (xs : List Extra). map lift_extra (setting_extras s) ++ xs) (lifted_settings ss)
    ∙ sym (map-append lift_extra (setting_extras s) (flat_map setting_extras ss))

lifted_extras : (c : Configuration) → extras_of (lift c) ≡ map lift_extra (extras_of c)
lifted_extras c =
    ap (λ (xs : List Extra). map lift_extra c.extras ++ xs) (lifted_settings c.settings) ∙ sym (map-append lift_extra c.extras (flat_map setting_extras c.settings))

untyped_extra : (x : Extra) → is_read_raw x ≡ false → is_typed_raw (lift_extra x) ≡ false
untyped_extra (extras.Raw r) h =
    let k = r.kind in
    let c = or_parts (eqb k 2 || eqb k 4 || eqb k 5) (eqb k 7) h in
    let b = or_parts (eqb k 2 || eqb k 4) (eqb k 5) c.0 in
    let a = or_parts (eqb k 2) (eqb k 4) b.0 in
    not_typed (raw_descriptor r) (record { two = eqb-false k 2 a.0; four = eqb-false k 4 a.1; five = eqb-false k 5 b.1; seven = eqb-false k 7 c.1 })
untyped_extra x h = refl

untyped_extras : (xs : List Extra) → list_any is_read_raw xs ≡ false → list_any is_typed_raw (map lift_extra xs) ≡ false
untyped_extras [] h = refl
untyped_extras (x ∷ xs) h =
    let parts = or_parts (is_read_raw x) (list_any is_read_raw xs) h in
    or_from (is_typed_raw (lift_extra x)) (list_any is_typed_raw (map lift_extra xs)) (untyped_extra x parts.0) (untyped_extras xs parts.1)

-- ---- the layout

pub keeps_bytes : (c : Configuration) (b : List ℕ) → RawLayout c b → list_any is_cut (extras_of c) ≡ false → Layout (lift c) b
keeps_bytes c b h whole =
    let later : later_descriptors (lift c) ≡ later_descriptors c = same_later c (unread c b h whole) in
    record {
      bytes = h.bytes ∙ sym (ap (λ (ds : List Descriptor). flat_map descriptor_bytes (configuration_descriptor c (length b) ∷ ds)) later);
      fits = h.fits;
      within_255 = ap (λ (ds : List Descriptor). list_any is_long (configuration_descriptor c 0 ∷ ds)) later ∙ h.within_255;
      raws_are_raw = ap (list_any is_typed_raw) (lifted_extras c) ∙ untyped_extras (extras_of c) h.raws_are_raw;
      short = h.short;
    }
