-- The lists of a set, by the parts of its tree.
use Rattle.std.proofs.Common.{◌≡◌, ℕ, Bool, true, false, ◌||◌, List, [], ◌∷◌, ◌++◌, map, refl, sym, ap, ◌∙◌, append_assoc}
use Rattle.std.specs.List.{flat_map, list_any}
use Rattle.std.proofs.lemmas.Bool.{or_parts}
use Rattle.std.proofs.lemmas.List.Concat.{flat_map-append}
use Rattle.std.proofs.lemmas.List.Folds.{list_any-append, flat_map-map}
use Rattle.usb_set.specs.declared.tree.Endpoint.{Endpoint}
use Rattle.usb_set.specs.declared.tree.Setting.{Setting}
use Rattle.usb_set.specs.declared.tree.Configuration.{Configuration}
use Rattle.usb_set.specs.Descriptors.{descriptor_bytes, extra_descriptor, endpoint_descriptor, interface_descriptor, configuration_descriptor}
use Rattle.usb_set.specs.Owners.{setting_extras}
use Rattle.usb_set.specs.Layout.{endpoint_descriptors, setting_descriptors, set_bytes, is_long, has_long_descriptor, is_typed_raw, has_typed_raw}
use Rattle.usb_set.specs.inside.Trees.{extra_bytes, endpoint_bytes, setting_bytes, tree_bytes, is_extra_long, is_endpoint_long, is_setting_long, is_tree_long, is_endpoint_typed, is_setting_typed, is_tree_typed}

-- ---- bytes

endpoints_bytes : (es : List Endpoint) → flat_map descriptor_bytes (flat_map endpoint_descriptors es) ≡ flat_map endpoint_bytes es
endpoints_bytes [] = refl
endpoints_bytes (e ∷ es) =
    flat_map-append descriptor_bytes (endpoint_descriptors e) (flat_map endpoint_descriptors es)
    ∙ ap (λ (z : List ℕ). (descriptor_bytes (endpoint_descriptor e) ++ z) ++ flat_map descriptor_bytes (flat_map endpoint_descriptors es)) (flat_map-map descriptor_bytes extra_descriptor e.extras)
    ∙ ap (λ (z : List ℕ). endpoint_bytes e ++ z) (endpoints_bytes es)

setting_bytes_is : (s : Setting) → flat_map descriptor_bytes (setting_descriptors s) ≡ setting_bytes s
setting_bytes_is s =
    ap (λ (z : List ℕ). descriptor_bytes (interface_descriptor s) ++ z)
    (flat_map-append descriptor_bytes (map extra_descriptor s.extras) (flat_map endpoint_descriptors s.endpoints)
    ∙ ap (λ (z : List ℕ). z ++ flat_map descriptor_bytes (flat_map endpoint_descriptors s.endpoints)) (flat_map-map descriptor_bytes extra_descriptor s.extras)
    ∙ ap (λ (z : List ℕ). flat_map extra_bytes s.extras ++ z) (endpoints_bytes s.endpoints))
    ∙ sym (append_assoc (descriptor_bytes (interface_descriptor s)) (flat_map extra_bytes s.extras) (flat_map endpoint_bytes s.endpoints))

settings_bytes : (ss : List Setting) → flat_map descriptor_bytes (flat_map setting_descriptors ss) ≡ flat_map setting_bytes ss
settings_bytes [] = refl
settings_bytes (s ∷ ss) =
    flat_map-append descriptor_bytes (setting_descriptors s) (flat_map setting_descriptors ss)
    ∙ ap (λ (z : List ℕ). z ++ flat_map descriptor_bytes (flat_map setting_descriptors ss)) (setting_bytes_is s)
    ∙ ap (λ (z : List ℕ). setting_bytes s ++ z) (settings_bytes ss)

pub set_bytes_is : (c : Configuration) (total : ℕ) → set_bytes c total ≡ tree_bytes c total
set_bytes_is c total =
    ap (λ (z : List ℕ). descriptor_bytes (configuration_descriptor c total) ++ z)
    (flat_map-append descriptor_bytes (map extra_descriptor c.extras) (flat_map setting_descriptors c.settings)
    ∙ ap (λ (z : List ℕ). z ++ flat_map descriptor_bytes (flat_map setting_descriptors c.settings)) (flat_map-map descriptor_bytes extra_descriptor c.extras)
    ∙ ap (λ (z : List ℕ). flat_map extra_bytes c.extras ++ z) (settings_bytes c.settings))
    ∙ sym (append_assoc (descriptor_bytes (configuration_descriptor c total)) (flat_map extra_bytes c.extras) (flat_map setting_bytes c.settings))

-- ---- no descriptor over 255 bytes

list_any-map : {A B : Type 0} (p : B → Bool) (f : A → B) (xs : List A) → list_any p (map f xs) ≡ list_any (λ x. p (f x)) xs
list_any-map p f [] = refl
list_any-map p f (x ∷ xs) = ap (λ b. p (f x) || b) (list_any-map p f xs)

or_assoc : (a b c : Bool) → (a || (b || c)) ≡ ((a || b) || c)
or_assoc true b c = refl
or_assoc false b c = refl

endpoints_long : (es : List Endpoint) → list_any is_long (flat_map endpoint_descriptors es) ≡ list_any is_endpoint_long es
endpoints_long [] = refl
endpoints_long (e ∷ es) =
    list_any-append is_long (endpoint_descriptors e) (flat_map endpoint_descriptors es)
    ∙ ap (λ b. (is_long (endpoint_descriptor e) || b) || list_any is_long (flat_map endpoint_descriptors es)) (list_any-map is_long extra_descriptor e.extras)
    ∙ ap (λ b. is_endpoint_long e || b) (endpoints_long es)

setting_long : (s : Setting) → list_any is_long (setting_descriptors s) ≡ is_setting_long s
setting_long s =
    ap (λ b. is_long (interface_descriptor s) || b)
    (list_any-append is_long (map extra_descriptor s.extras) (flat_map endpoint_descriptors s.endpoints)
    ∙ ap (λ b. b || list_any is_long (flat_map endpoint_descriptors s.endpoints)) (list_any-map is_long extra_descriptor s.extras)
    ∙ ap (λ b. list_any is_extra_long s.extras || b) (endpoints_long s.endpoints))
    ∙ or_assoc (is_long (interface_descriptor s)) (list_any is_extra_long s.extras) (list_any is_endpoint_long s.endpoints)

settings_long : (ss : List Setting) → list_any is_long (flat_map setting_descriptors ss) ≡ list_any is_setting_long ss
settings_long [] = refl
settings_long (s ∷ ss) =
    list_any-append is_long (setting_descriptors s) (flat_map setting_descriptors ss)
    ∙ ap (λ b. b || list_any is_long (flat_map setting_descriptors ss)) (setting_long s)
    ∙ ap (λ b. is_setting_long s || b) (settings_long ss)

pub has_long_is : (c : Configuration) → has_long_descriptor c ≡ is_tree_long c
has_long_is c =
    ap (λ b. is_long (configuration_descriptor c 0) || b)
    (list_any-append is_long (map extra_descriptor c.extras) (flat_map setting_descriptors c.settings)
    ∙ ap (λ b. b || list_any is_long (flat_map setting_descriptors c.settings)) (list_any-map is_long extra_descriptor c.extras)
    ∙ ap (λ b. list_any is_extra_long c.extras || b) (settings_long c.settings))
    ∙ or_assoc (is_long (configuration_descriptor c 0)) (list_any is_extra_long c.extras) (list_any is_setting_long c.settings)

-- ---- no raw descriptor of a typed kind

endpoints_typed : (es : List Endpoint) → list_any is_typed_raw (flat_map (λ (e : Endpoint). e.extras) es) ≡ list_any is_endpoint_typed es
endpoints_typed [] = refl
endpoints_typed (e ∷ es) =
    list_any-append is_typed_raw e.extras (flat_map (λ (x : Endpoint). x.extras) es) ∙ ap (λ b. is_endpoint_typed e || b) (endpoints_typed es)

setting_typed : (s : Setting) → list_any is_typed_raw (setting_extras s) ≡ is_setting_typed s
setting_typed s =
    list_any-append is_typed_raw s.extras (flat_map (λ (e : Endpoint). e.extras) s.endpoints) ∙ ap (λ b. list_any is_typed_raw s.extras || b) (endpoints_typed s.endpoints)

settings_typed : (ss : List Setting) → list_any is_typed_raw (flat_map setting_extras ss) ≡ list_any is_setting_typed ss
settings_typed [] = refl
settings_typed (s ∷ ss) =
    list_any-append is_typed_raw (setting_extras s) (flat_map setting_extras ss)
    ∙ ap (λ b. b || list_any is_typed_raw (flat_map setting_extras ss)) (setting_typed s)
    ∙ ap (λ b. is_setting_typed s || b) (settings_typed ss)

pub has_typed_is : (c : Configuration) → has_typed_raw c ≡ is_tree_typed c
has_typed_is c =
    list_any-append is_typed_raw c.extras (flat_map setting_extras c.settings) ∙ ap (λ b. list_any is_typed_raw c.extras || b) (settings_typed c.settings)

pub setting_typed_parts : (s : Setting) → is_setting_typed s ≡ false → (list_any is_typed_raw s.extras ≡ false) × (list_any is_endpoint_typed s.endpoints ≡ false)
setting_typed_parts s h = or_parts (list_any is_typed_raw s.extras) (list_any is_endpoint_typed s.endpoints) h

pub typed_parts : (c : Configuration) → has_typed_raw c ≡ false → (list_any is_typed_raw c.extras ≡ false) × (list_any is_setting_typed c.settings ≡ false)
typed_parts c h = or_parts (list_any is_typed_raw c.extras) (list_any is_setting_typed c.settings) (sym (has_typed_is c) ∙ h)
