-- The strings of a walk over an input are those of the input.
use Rattle.std.proofs.Common.{◌≡◌, ◌≤◌, ◌<◌, ℕ, ◌*◌, ◌/◌, List, [], false, length, map, Option, Some, None, refl, sym, ap, ◌∙◌, arith}
use Rattle.std.specs.Prelude.{fold, zip}
use Rattle.std.specs.List.{flat_map}
use Rattle.std.proofs.lemmas.Nat.{div_below}
use Rattle.std.proofs.lemmas.List.{append-nil}
use Rattle.std.proofs.lemmas.Bool.{or_parts}
use Rattle.std.proofs.lemmas.Bool.Decides.{nat_tests}
use Rattle.usb_fields.specs.Units.{units_bytes}
use Rattle.usb_file_data.specs.declared.file.DescriptorFile.{DescriptorFile}
use Rattle.usb_file_data.specs.declared.file.Input.{Input}
use Rattle.usb_file_data.specs.declared.file.Input.TheVariants as inputs
use Rattle.usb_file_data.specs.declared.file.Strings.{Strings}
use Rattle.usb_file_data.specs.declared.finding.Part.TheVariants as parts
use Rattle.usb_file_data.specs.File.{are_wrong_strings, device_string_indices, is_long_string, named_indices, string_indices}
use Rattle.usb_file_data.specs.Findings.{part_of_kind}
use Rattle.usb_file_data.specs.Inputs.{IsInput}
use Rattle.usb_file_data.specs.Places.{at_each}
use Rattle.usb_file_data.proofs.Counts.{AllStrings, all_strings}
use Rattle.usb_walk.specs.Owners.{of_set as owner_of_set}
use Rattle.usb_set.specs.Layout.{set_length}
use Rattle.usb_walk.specs.Trees.{TreeDescriptor, set_descriptors, string_descriptors, text_descriptor, tree_descriptors}
use Rattle.usb_walk.specs.NamedStrings.{indices_in, list_at, string_among, with_index}
use Rattle.usb_walk.specs.WalkedDescriptors.{nothing}
use Rattle.usb_walk.specs.WalkedStrings.{indexed, indexed_strings, strings_of, strings_walked, string_places}
use Rattle.usb_walk.proofs.NamedIndices.{indices_named}
use Rattle.usb_walk.proofs.StringItems.{strings_by_positions, strings_from}
use Rattle.usb_walk.proofs.StringTexts.{among_is, count_places, places_are, texts_by}
use Rattle.usb_walk.proofs.StringTrees.{Names, file_names, file_names_same, of_both_parts, of_set, of_sets, set_names}
use Rattle.usb_walk.proofs.TreeWalks.{by_tree}
use Rattle.usb_walk.proofs.WalkSteps.{numbered}

-- ---- the strings of a file

texts_are : (words : List ℕ) (s : Strings) (indices : List ℕ) → indices_in words ≡ indices → AllStrings (length indices) s
    → strings_from words (units_bytes s.languages) 0 (map text_descriptor s.texts) ≡ map indexed (zip (string_places indices s.languages) s.texts)
texts_are words s indices e all =
    let many = count_places indices s.languages in
    let few : length s.languages ≤ 126 = few_languages s.languages (or_parts (is_long_string s.languages) _ all.follow.short).0 in
    texts_by words (units_bytes s.languages) (string_places indices s.languages) 0 s.texts
    (λ j below.
    ap (λ indices. string_among indices (units_bytes s.languages) j) e
    ∙ among_is indices s.languages j all.follow.named (row_below j indices s.languages all.follow.named (omega (arith, below, many))) few
    ∙ sym (places_are indices s.languages j all.follow.named (omega (arith, below, many))))
    (omega (arith, many, all.whole))
  where
    few_languages : (l : List ℕ) → is_long_string l ≡ false → length l ≤ 126
    few_languages l e = grind (arith, nat_tests)

    row_below : (j : ℕ) (indices languages : List ℕ) → 0 < length indices → j < length languages * length indices → j / length indices < length languages
    row_below j indices languages some below = div_below j (length indices) (length languages) some below

-- behind all descriptors that name strings
rest_are : (words list : List ℕ) (indices : List ℕ) (s : Option Strings) → indices_in words ≡ indices → are_wrong_strings (length indices) s ≡ false
    → strings_from words list 0 (string_descriptors s) ≡ indexed_strings indices s
rest_are words list indices None e right = refl
rest_are words list indices (Some s) e right = texts_are words s indices e (all_strings (length indices) s right)

in_file : (f : DescriptorFile) (list : List ℕ) → are_wrong_strings (length (named_indices f)) f.strings ≡ false
    → strings_from nothing.named list 0 (tree_descriptors (inputs.File f)) ≡ indexed_strings (named_indices f) f.strings
in_file f list right =
    let first = fold with_index nothing.named (device_string_indices f.device) in
    of_both_parts f first list 0 (string_descriptors f.strings)
    ∙ rest_are (fold with_index nothing.named (file_names f)) list (named_indices f) f.strings
    (indices_named (file_names f) (string_indices f) (file_names_same f)) right

none_in_sets : (ts : List TreeDescriptor) (names list : List ℕ) → Names ts names → (words : List ℕ) → strings_from words list 0 ts ≡ []
none_in_sets ts names list has words =
    ap (λ l. strings_from words list 0 l) (sym (append-nil ts)) ∙ has words list 0 []

in_input : (input : Input) (b list : List ℕ) → IsInput input b → strings_from nothing.named list 0 (tree_descriptors input) ≡ strings_of input
in_input (inputs.Set set) b list is = none_in_sets (set_descriptors (part_of_kind set.kind) 0 set) (set_names set) list (of_set (owner_of_set (part_of_kind set.kind) 0) set (set_length set)) nothing.named
in_input (inputs.File f) b list is = in_file f list is.texts
in_input (inputs.Dump f) b list is =
    none_in_sets (at_each (set_descriptors parts.Main) 0 f.sets) (flat_map set_names f.sets) list (of_sets parts.Main 0 f.sets)
    (fold with_index nothing.named (device_string_indices f.device))

-- where the descriptors by their positions are those of the input's tree
pub strings_by_tree : (input : Input) (b : List ℕ) → IsInput input b → map by_tree (numbered b) ≡ tree_descriptors input → strings_walked b ≡ strings_of input
strings_by_tree input b is same =
    strings_by_positions b
    ∙ ap (strings_from nothing.named (list_at b 0) 0) same
    ∙ in_input input b (list_at b 0) is
