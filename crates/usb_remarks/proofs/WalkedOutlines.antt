-- A walk over an input has the descriptors of its outline, and so those of its tree.
use Rattle.std.proofs.Common.{◌≡◌, ℕ, List, [], ◌∷◌, length, map, Option, None, refl, sym, ap, ◌∙◌}
use Rattle.usb_file_data.specs.declared.cause.Found.{Found}
use Rattle.usb_file_data.specs.declared.file.Input.{Input}
use Rattle.usb_file_data.specs.Findings.{found_in_order}
use Rattle.usb_file_data.specs.Inputs.{IsInput}
use Rattle.usb_walk.specs.Trees.{tree_descriptors}
use Rattle.usb_walk.specs.WalkedDescriptors.{all_as_numbers, nothing}
use Rattle.usb_walk.specs.WalkedStrings.{WalkHasStrings}
use Rattle.usb_walk.specs.WalkedTrees.{WalkIsTree, tree_numbers}
use Rattle.usb_walk.proofs.InputStrings.{strings_by_tree}
use Rattle.usb_walk.proofs.TreeWalks.{by_tree, walk_by_tree}
use Rattle.usb_fields.proofs.Unfolded.{unfolded_map}
use Rattle.usb_walk.proofs.WalkSteps.{next_numbered, numbered, pass_numbered}
use Rattle.usb_walk.proofs.Walking.{walk_by_positions}
use Rattle.usb_remarks.specs.declared.speed.SetSpeed.{SetSpeed}
use Rattle.usb_remarks.specs.Outline.{Entry, entries, next_ahead, pass_ahead}
use Rattle.usb_remarks.specs.OutlineStates.{start}
use Rattle.usb_remarks.specs.WalkedOutlines.{WalkIsOutline, by_position}
use Rattle.usb_remarks.proofs.Outlines.{entry_in_tree, tree_same}
use Rattle.usb_remarks.proofs.rest.Inputs.{whole_shows}

-- ---- by their positions the descriptors of an outline are those of the bytes

pub outline_numbered : (running : Option SetSpeed) (found : List Found) (b : List ℕ) → map by_position (entries running found b) ≡ numbered b
unfolding start
outline_numbered running found b =
    unfolded_map by_position (λ here. (here.0.position, here.2)) next_ahead (pass_ahead running) next_numbered pass_numbered
    (λ here. refl) (λ here next is. refl) (length b) (start, found, b)

pub walk_is_outline : WalkIsOutline
walk_is_outline running found b = walk_by_positions b ∙ ap (all_as_numbers b nothing) (sym (outline_numbered running found b))

-- ---- and those of an input are its tree's

entries_in_tree : (es : List Entry) → map by_tree (map by_position es) ≡ map entry_in_tree es
entries_in_tree [] = refl
entries_in_tree (e ∷ es) = ap (λ l. entry_in_tree e ∷ l) (entries_in_tree es)

pub numbered_tree : (input : Input) (b : List ℕ) → IsInput input b → map by_tree (numbered b) ≡ tree_descriptors input
numbered_tree input b is =
    let found = found_in_order input in
    let es = entries None found b in
    ap (λ ns. map by_tree ns) (sym (outline_numbered None found b)) ∙ entries_in_tree es ∙ sym (tree_same None es) ∙ whole_shows None input b is

pub walk_is_tree : WalkIsTree
walk_is_tree input b is = walk_by_tree b ∙ ap (tree_numbers []) (numbered_tree input b is)

pub walk_has_strings : WalkHasStrings
walk_has_strings input b is = strings_by_tree input b is (numbered_tree input b is)
