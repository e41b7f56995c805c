-- The endpoints of a tree, each with its setting.
use Rattle.std.proofs.Common.{◌≡◌, ℕ, ◌+◌, List, [], ◌∷◌, ◌++◌, map, Option, Some, None, refl, sym, ap, ap₂, ◌∙◌}
use Rattle.std.specs.List.{flat_map}
use Rattle.std.proofs.lemmas.Grind.{flat_map-append}
use Rattle.std.proofs.lemmas.List.{map-append}
use Rattle.usb_set.specs.declared.extra.Extra.{Extra}
use Rattle.usb_set.specs.declared.extra.Extra.TheVariants as extras
use Rattle.usb_set.specs.declared.tree.Configuration.{Configuration}
use Rattle.usb_set.specs.declared.tree.Endpoint.{Endpoint}
use Rattle.usb_set.specs.declared.tree.Setting.{Setting}
use Rattle.usb_set.specs.Owners.{endpoints_in}
use Rattle.usb_file_data.specs.declared.file.Input.{Input}
use Rattle.usb_file_data.specs.declared.file.Input.TheVariants as inputs
use Rattle.usb_file_data.specs.declared.file.Other.{Other}
use Rattle.usb_file_data.specs.declared.file.Strings.{Strings}
use Rattle.usb_file_data.specs.declared.finding.Part.{Part}
use Rattle.usb_file_data.specs.declared.finding.Part.TheVariants as parts
use Rattle.usb_file_data.specs.File.{other_sets}
use Rattle.usb_file_data.specs.Findings.{found_in_order, part_of_kind}
use Rattle.usb_file_data.specs.Places.{at_each}
use Rattle.usb_walk.specs.declared.owner.DescriptorOwner.{DescriptorOwner}
use Rattle.usb_remarks.specs.OutlineLaws.{as_in_tree}
use Rattle.usb_remarks.specs.Outline.{Described, outline}
use Rattle.usb_remarks.specs.OwnedEndpoints.{OwnedEndpoint, WholeShowsEndpoints, endpoint_by_role, endpoint_shown, input_endpoints, owned_endpoint, set_endpoints}
use Rattle.usb_walk.specs.Owners.{of_interface, of_set}
use Rattle.usb_walk.specs.Trees.{TreeDescriptor, endpoint_descriptors, extra_descriptors, other_descriptors, set_descriptors, setting_descriptors, string_descriptors, text_descriptor, tree_descriptors}
use Rattle.usb_remarks.proofs.rest.Inputs.{whole_shows}

-- the endpoint that a descriptor of a tree is, if it is one
abbrev endpoint_in : TreeDescriptor → List OwnedEndpoint
endpoint_in d = endpoint_by_role d.role d.owner d.bytes

abbrev pub among : List TreeDescriptor → List OwnedEndpoint
among ds = flat_map endpoint_in ds

in_both : (xs ys : List TreeDescriptor) → among (xs ++ ys) ≡ among xs ++ among ys
in_both xs ys = flat_map-append endpoint_in xs ys

-- no extra is one
none_in_extras : (depth : ℕ) (owner : DescriptorOwner) (xs : List Extra) → among (extra_descriptors depth owner xs) ≡ []
none_in_extras depth owner [] = refl
none_in_extras depth owner (extras.Raw r ∷ xs) = none_in_extras depth owner xs
none_in_extras depth owner (extras.Association a ∷ xs) = none_in_extras depth owner xs

in_endpoints : (set : DescriptorOwner) (s : Setting) (es : List Endpoint)
    → among (flat_map (endpoint_descriptors (of_interface set s.number s.alternate)) es) ≡ map (owned_endpoint set) (map (λ e. (s, e)) es)
in_endpoints set s [] = refl
in_endpoints set s (e ∷ es) =
    let one = owned_endpoint set (s, e) in
    let more = flat_map (endpoint_descriptors (of_interface set s.number s.alternate)) es in
    ap (λ l. one ∷ l) (in_both (extra_descriptors 4 _ e.extras) more ∙ ap₂ ◌++◌ (none_in_extras 4 _ e.extras) (in_endpoints set s es))

in_setting : (set : DescriptorOwner) (s : Setting) → among (setting_descriptors set s) ≡ map (owned_endpoint set) (endpoints_in s)
in_setting set s =
    let owner = of_interface set s.number s.alternate in
    in_both (extra_descriptors 3 owner s.extras) (flat_map (endpoint_descriptors owner) s.endpoints)
    ∙ ap₂ ◌++◌ (none_in_extras 3 owner s.extras) (in_endpoints set s s.endpoints)

in_settings : (set : DescriptorOwner) (ss : List Setting) → among (flat_map (setting_descriptors set) ss) ≡ map (owned_endpoint set) (flat_map endpoints_in ss)
in_settings set [] = refl
in_settings set (s ∷ ss) =
    in_both (setting_descriptors set s) (flat_map (setting_descriptors set) ss) ∙ ap₂ ◌++◌ (in_setting set s) (in_settings set ss)
    ∙ sym (map-append (owned_endpoint set) (endpoints_in s) (flat_map endpoints_in ss))

in_set : (part : Part) (i : ℕ) (c : Configuration) → among (set_descriptors part i c) ≡ set_endpoints part i c
in_set part i c =
    let set = of_set part i in
    in_both (extra_descriptors 2 set c.extras) (flat_map (setting_descriptors set) c.settings) ∙ ap₂ ◌++◌ (none_in_extras 2 set c.extras) (in_settings set c.settings)

in_sets : (part : Part) (i : ℕ) (cs : List Configuration) → among (at_each (set_descriptors part) i cs) ≡ at_each (set_endpoints part) i cs
in_sets part i [] = refl
in_sets part i (c ∷ cs) =
    in_both (set_descriptors part i c) (at_each (set_descriptors part) (i + 1) cs) ∙ ap₂ ◌++◌ (in_set part i c) (in_sets part (i + 1) cs)

in_other : (other : Option Other) → among (other_descriptors other) ≡ at_each (set_endpoints parts.Other) 0 (other_sets other)
in_other None = refl
in_other (Some o) = in_sets parts.Other 0 o.sets

none_in_texts : (texts : List (List ℕ)) → among (map text_descriptor texts) ≡ []
none_in_texts [] = refl
none_in_texts (u ∷ texts) = none_in_texts texts

none_in_strings : (strings : Option Strings) → among (string_descriptors strings) ≡ []
none_in_strings None = refl
none_in_strings (Some s) = none_in_texts s.texts

nil_behind : (xs : List OwnedEndpoint) → xs ++ [] ≡ xs
nil_behind [] = refl
nil_behind (x ∷ xs) = ap (λ l. x ∷ l) (nil_behind xs)

pub in_tree : (input : Input) → among (tree_descriptors input) ≡ input_endpoints input
in_tree (inputs.Set c) = in_set (part_of_kind c.kind) 0 c
in_tree (inputs.File f) =
    let main = at_each (set_descriptors parts.Main) 0 f.sets in
    in_both (main ++ other_descriptors f.other) (string_descriptors f.strings)
    ∙ ap₂ ◌++◌ (in_both main (other_descriptors f.other) ∙ ap₂ ◌++◌ (in_sets parts.Main 0 f.sets) (in_other f.other)) (none_in_strings f.strings)
    ∙ nil_behind (at_each (set_endpoints parts.Main) 0 f.sets ++ at_each (set_endpoints parts.Other) 0 (other_sets f.other))
in_tree (inputs.Dump f) = in_sets parts.Main 0 f.sets

in_outline : (ds : List Described) → flat_map endpoint_shown ds ≡ among (map as_in_tree ds)
in_outline [] = refl
in_outline (d ∷ ds) = ap (λ l. endpoint_shown d ++ l) (in_outline ds)

pub whole_shows_endpoints : WholeShowsEndpoints
whole_shows_endpoints running input b is =
    in_outline (outline running (found_in_order input) b) ∙ ap among (whole_shows running input b is) ∙ in_tree input
