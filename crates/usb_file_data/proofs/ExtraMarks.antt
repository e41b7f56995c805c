-- The indices of strings that the associations of a set name.
use Rattle.std.proofs.Common.{◌≡◌, ℕ, List, [], ◌∷◌, ◌++◌, Bool, map, refl, ap, ◌∙◌}
use Rattle.std.specs.Prelude.{fold}
use Rattle.std.specs.List.{flat_map}
use Rattle.std.proofs.lemmas.List.{map-append}
use Rattle.std.proofs.lemmas.List.Concat.{flat_map-append}
use Rattle.usb_set.specs.declared.extra.Extra.{Extra}
use Rattle.usb_set.specs.declared.tree.Endpoint.{Endpoint}
use Rattle.usb_set.specs.declared.tree.Setting.{Setting}
use Rattle.usb_set.specs.declared.tree.Configuration.{Configuration}
use Rattle.usb_set.specs.Owners.{association_in, associations_of, extras_of, setting_extras}
use Rattle.usb_file_data.specs.File.{association_string_index, interface_string_index, set_string_indices}
use Rattle.usb_file_data.specs.inside.Walk.{endpoint_extra_indices, extra_indices, setting_extra_indices}
use Rattle.usb_fields.specs.Marks.{marked}
use Rattle.usb_file_data.proofs.Folds.{fold_append}

of_extras : (xs : List Extra) → map association_string_index (flat_map association_in xs) ≡ flat_map extra_indices xs
of_extras [] = refl
of_extras (x ∷ xs) = map-append association_string_index (association_in x) (flat_map association_in xs) ∙ ap (λ l. extra_indices x ++ l) (of_extras xs)

of_endpoints : (es : List Endpoint) → flat_map extra_indices (flat_map (λ e. e.extras) es) ≡ flat_map endpoint_extra_indices es
of_endpoints [] = refl
of_endpoints (e ∷ es) = flat_map-append extra_indices e.extras (flat_map (λ e. e.extras) es) ∙ ap (λ l. endpoint_extra_indices e ++ l) (of_endpoints es)

of_setting : (s : Setting) → flat_map extra_indices (setting_extras s) ≡ setting_extra_indices s
of_setting s = flat_map-append extra_indices s.extras (flat_map (λ e. e.extras) s.endpoints) ∙ ap (λ l. flat_map extra_indices s.extras ++ l) (of_endpoints s.endpoints)

of_settings : (ss : List Setting) → flat_map extra_indices (flat_map setting_extras ss) ≡ flat_map setting_extra_indices ss
of_settings [] = refl
of_settings (s ∷ ss) =
    flat_map-append extra_indices (setting_extras s) (flat_map setting_extras ss) ∙ ap (λ l. l ++ flat_map extra_indices (flat_map setting_extras ss)) (of_setting s)
    ∙ ap (λ l. setting_extra_indices s ++ l) (of_settings ss)

of_set : (c : Configuration) → map association_string_index (associations_of c) ≡ flat_map extra_indices c.extras ++ flat_map setting_extra_indices c.settings
of_set c =
    of_extras (extras_of c) ∙ flat_map-append extra_indices c.extras (flat_map setting_extras c.settings)
    ∙ ap (λ l. flat_map extra_indices c.extras ++ l) (of_settings c.settings)

-- the index of the set, those of its settings, those of its own extras, and those of its settings' extras
pub fold_set : (marks : ℕ → Bool) (c : Configuration)
    → fold marked marks (set_string_indices c)
    ≡ fold marked (fold marked (fold marked (marked marks c.text) (map interface_string_index c.settings)) (flat_map extra_indices c.extras)) (flat_map setting_extra_indices c.settings)
fold_set marks c =
    let first = marked marks c.text in
    let settings = map interface_string_index c.settings in
    fold_append marked first settings (map association_string_index (associations_of c))
    ∙ ap (fold marked (fold marked first settings)) (of_set c)
    ∙ fold_append marked (fold marked first settings) (flat_map extra_indices c.extras) (flat_map setting_extra_indices c.settings)
