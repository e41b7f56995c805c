-- The strings that the descriptors of a tree name.
use Rattle.std.proofs.Common.{◌≡◌, ℕ, ◌+◌, ◌==◌, ◌||◌, List, [], ◌∷◌, ◌++◌, Bool, true, false, map, Option, Some, None, refl, sym, ap, ap₂, subst, ◌∙◌, append_assoc}
use Rattle.std.specs.Prelude.{fold}
use Rattle.std.specs.List.{flat_map}
use Rattle.std.proofs.lemmas.Grind.{flat_map-append}
use Rattle.std.proofs.lemmas.List.{map-append}
use Rattle.std.proofs.lemmas.List.Folds.{list_any-append}
use Rattle.usb_set.specs.declared.extra.Extra.{Extra}
use Rattle.usb_set.specs.declared.extra.Extra.TheVariants as extras
use Rattle.usb_set.specs.declared.tree.Endpoint.{Endpoint}
use Rattle.usb_set.specs.declared.tree.Setting.{Setting}
use Rattle.usb_set.specs.declared.tree.Configuration.{Configuration}
use Rattle.usb_set.specs.Layout.{set_length}
use Rattle.usb_set.specs.Owners.{association_in, extras_of, setting_extras}
use Rattle.usb_file_data.specs.declared.file.DescriptorFile.{DescriptorFile}
use Rattle.usb_file_data.specs.declared.file.Other.{Other}
use Rattle.usb_file_data.specs.declared.finding.Part.{Part}
use Rattle.usb_file_data.specs.declared.finding.Part.TheVariants as parts
use Rattle.usb_file_data.specs.File.{association_string_index, device_string_indices, interface_string_index, other_sets, set_string_indices, string_indices}
use Rattle.usb_file_data.specs.Places.{at_each}
use Rattle.usb_file_data.proofs.Folds.{fold_append}
use Rattle.usb_walk.specs.declared.owner.DescriptorOwner.{DescriptorOwner}
use Rattle.usb_walk.specs.Owners.{of_set as owner_of_set}
use Rattle.usb_walk.specs.Trees.{TreeDescriptor, endpoint_descriptors, extra_descriptors, other_descriptors, set_descriptors, set_descriptors_by, setting_descriptors}
use Rattle.usb_walk.specs.NamedStrings.{with_index}
use Rattle.usb_walk.proofs.NamedIndices.{has_index}
use Rattle.usb_walk.proofs.StringItems.{strings_from}

-- these descriptors are no strings, and name strings of these indices
abbrev pub Names : List TreeDescriptor → List ℕ → Type 0
Names ts names =
    (words list : List ℕ) (number : ℕ) (later : List TreeDescriptor)
    → strings_from words list number (ts ++ later) ≡ strings_from (fold with_index words names) list number later

no_names : Names [] []
no_names words list number later = refl

joined : (xs ys : List TreeDescriptor) (m n : List ℕ) → Names xs m → Names ys n → Names (xs ++ ys) (m ++ n)
joined xs ys m n one two words list number later =
    ap (strings_from words list number) (append_assoc xs ys later)
    ∙ one words list number (ys ++ later)
    ∙ two (fold with_index words m) list number later
    ∙ ap (λ words. strings_from words list number later) (sym (fold_append with_index words m n))

-- the indices that extras name
abbrev extra_names : List Extra → List ℕ
extra_names xs = map association_string_index (flat_map association_in xs)

extra_names_joined : (xs ys : List Extra) → extra_names (xs ++ ys) ≡ extra_names xs ++ extra_names ys
extra_names_joined xs ys =
    ap (λ l. map association_string_index l) (flat_map-append association_in xs ys) ∙ map-append association_string_index (flat_map association_in xs) (flat_map association_in ys)

-- those that a setting, its extras and those of its endpoints name
abbrev setting_names : Setting → List ℕ
setting_names s = s.text ∷ extra_names (setting_extras s)

-- those that a set names, in the order of its bytes
abbrev pub set_names : Configuration → List ℕ
set_names c = c.text ∷ extra_names c.extras ++ flat_map setting_names c.settings

-- those that a file names
abbrev pub file_names : DescriptorFile → List ℕ
file_names f = device_string_indices f.device ++ flat_map set_names f.sets ++ flat_map set_names (other_sets f.other)

of_extras : (depth : ℕ) (owner : DescriptorOwner) (xs : List Extra) → Names (extra_descriptors depth owner xs) (extra_names xs)
of_extras depth owner [] words list number later = refl
of_extras depth owner (extras.Raw r ∷ xs) words list number later = of_extras _ _ xs words list number later
of_extras depth owner (extras.Association a ∷ xs) words list number later = of_extras _ _ xs (with_index words a.text) list number later

of_endpoint : (interface : DescriptorOwner) (e : Endpoint) → Names (endpoint_descriptors interface e) (extra_names e.extras)
of_endpoint interface e words list number later = of_extras _ _ e.extras words list number later

of_endpoints : (interface : DescriptorOwner) (es : List Endpoint) → Names (flat_map (endpoint_descriptors interface) es) (extra_names (flat_map (λ e. e.extras) es))
of_endpoints interface [] = no_names
of_endpoints interface (e ∷ es) =
    subst (Names (flat_map (endpoint_descriptors interface) (e ∷ es))) (sym (extra_names_joined e.extras (flat_map (λ e. e.extras) es)))
    (joined (endpoint_descriptors interface e) (flat_map (endpoint_descriptors interface) es) (extra_names e.extras) (extra_names (flat_map (λ e. e.extras) es))
    (of_endpoint interface e) (of_endpoints interface es))

-- what comes after the descriptor of a setting
of_parts : (depth : ℕ) (owner : DescriptorOwner) (s : Setting)
    → Names (extra_descriptors depth owner s.extras ++ flat_map (endpoint_descriptors owner) s.endpoints) (extra_names (setting_extras s))
of_parts depth owner s =
    subst (Names (extra_descriptors depth owner s.extras ++ flat_map (endpoint_descriptors owner) s.endpoints))
    (sym (extra_names_joined s.extras (flat_map (λ e. e.extras) s.endpoints)))
    (joined (extra_descriptors depth owner s.extras) (flat_map (endpoint_descriptors owner) s.endpoints) (extra_names s.extras) (extra_names (flat_map (λ e. e.extras) s.endpoints))
    (of_extras depth owner s.extras) (of_endpoints owner s.endpoints))

of_setting : (set : DescriptorOwner) (s : Setting) → Names (setting_descriptors set s) (setting_names s)
of_setting set s words list number later = of_parts _ _ s (with_index words s.text) list number later

of_settings : (set : DescriptorOwner) (ss : List Setting) → Names (flat_map (setting_descriptors set) ss) (flat_map setting_names ss)
of_settings set [] = no_names
of_settings set (s ∷ ss) =
    joined (setting_descriptors set s) (flat_map (setting_descriptors set) ss) (setting_names s) (flat_map setting_names ss) (of_setting set s) (of_settings set ss)

pub of_set : (owner : DescriptorOwner) (c : Configuration) (total : ℕ) → Names (set_descriptors_by owner c total) (set_names c)
of_set owner c total words list number later =
    joined (extra_descriptors _ _ c.extras) (flat_map (setting_descriptors owner) c.settings) (extra_names c.extras) (flat_map setting_names c.settings)
    (of_extras _ _ c.extras) (of_settings owner c.settings) (with_index words c.text) list number later

pub of_sets : (part : Part) (i : ℕ) (cs : List Configuration) → Names (at_each (set_descriptors part) i cs) (flat_map set_names cs)
of_sets part i [] = no_names
of_sets part i (c ∷ cs) =
    joined (set_descriptors part i c) (at_each (set_descriptors part) (i + 1) cs) (set_names c) (flat_map set_names cs) (of_set (owner_of_set part i) c (set_length c)) (of_sets part (i + 1) cs)

of_other : (o : Option Other) → Names (other_descriptors o) (flat_map set_names (other_sets o))
of_other None words list number later = refl
of_other (Some o) words list number later = of_sets parts.Other 0 o.sets words list number later

-- those before the list of languages and the strings, behind the device
pub of_both_parts : (f : DescriptorFile)
    → Names (at_each (set_descriptors parts.Main) 0 f.sets ++ other_descriptors f.other) (flat_map set_names f.sets ++ flat_map set_names (other_sets f.other))
of_both_parts f =
    joined (at_each (set_descriptors parts.Main) 0 f.sets) (other_descriptors f.other) (flat_map set_names f.sets) (flat_map set_names (other_sets f.other))
    (of_sets parts.Main 0 f.sets) (of_other f.other)

-- ---- they are those of the file

or_between : (a n b c : Bool) → (a || (n || (b || c))) ≡ ((a || b) || (n || c))
or_between true n b c = refl
or_between false true true c = refl
or_between false true false c = refl
or_between false false b c = refl

or_later : (e a b : Bool) → (e || (a || b)) ≡ (a || (e || b))
or_later true true b = refl
or_later true false b = refl
or_later false a b = refl

settings_name : (k : ℕ) (ss : List Setting)
    → has_index k (flat_map setting_names ss) ≡ (has_index k (map interface_string_index ss) || has_index k (extra_names (flat_map setting_extras ss)))
settings_name k [] = refl
settings_name k (s ∷ ss) =
    let own = has_index k (extra_names (setting_extras s)) in
    let texts = has_index k (map interface_string_index ss) in
    let rest = has_index k (extra_names (flat_map setting_extras ss)) in
    ap (λ b. (s.text == k) || b)
    (list_any-append (λ index. index == k) (extra_names (setting_extras s)) (flat_map setting_names ss) ∙ ap (λ b. own || b) (settings_name k ss))
    ∙ or_between (s.text == k) own texts rest
    ∙ ap (λ b. ((s.text == k) || texts) || b)
    (sym (ap (has_index k) (extra_names_joined (setting_extras s) (flat_map setting_extras ss))
    ∙ list_any-append (λ index. index == k) (extra_names (setting_extras s)) (extra_names (flat_map setting_extras ss))))

set_names_same : (k : ℕ) (c : Configuration) → has_index k (set_names c) ≡ has_index k (set_string_indices c)
set_names_same k c =
    let p = λ (index : ℕ). index == k in
    let own = has_index k (extra_names c.extras) in
    let texts = has_index k (map interface_string_index c.settings) in
    let rest = has_index k (extra_names (flat_map setting_extras c.settings)) in
    ap (λ b. (c.text == k) || b)
    (list_any-append p (extra_names c.extras) (flat_map setting_names c.settings)
    ∙ ap (λ b. own || b) (settings_name k c.settings)
    ∙ or_later own texts rest
    ∙ ap (λ b. texts || b)
    (sym (ap (has_index k) (extra_names_joined c.extras (flat_map setting_extras c.settings)) ∙ list_any-append p (extra_names c.extras) (extra_names (flat_map setting_extras c.settings))))
    ∙ sym (list_any-append p (map interface_string_index c.settings) (extra_names (extras_of c))))

sets_names_same : (k : ℕ) (cs : List Configuration) → has_index k (flat_map set_names cs) ≡ has_index k (flat_map set_string_indices cs)
sets_names_same k [] = refl
sets_names_same k (c ∷ cs) =
    let p = λ (index : ℕ). index == k in
    list_any-append p (set_names c) (flat_map set_names cs)
    ∙ ap₂ ◌||◌ (set_names_same k c) (sets_names_same k cs)
    ∙ sym (list_any-append p (set_string_indices c) (flat_map set_string_indices cs))

pub file_names_same : (f : DescriptorFile) (k : ℕ) → has_index k (file_names f) ≡ has_index k (string_indices f)
file_names_same f k =
    let p = λ (index : ℕ). index == k in
    let others = other_sets f.other in
    list_any-append p (device_string_indices f.device) (flat_map set_names f.sets ++ flat_map set_names others)
    ∙ ap (λ b. has_index k (device_string_indices f.device) || b)
    (list_any-append p (flat_map set_names f.sets) (flat_map set_names others)
    ∙ ap₂ ◌||◌ (sets_names_same k f.sets) (sets_names_same k others)
    ∙ sym (list_any-append p (flat_map set_string_indices f.sets) (flat_map set_string_indices others)))
    ∙ sym (list_any-append p (device_string_indices f.device) (flat_map set_string_indices f.sets ++ flat_map set_string_indices others))
