-- How a walk goes on behind a descriptor.
use Rattle.std.proofs.Common.{◌≡◌, ◌≤◌, ◌<◌, ℕ, ◌+◌, ◌==◌, ◌||◌, List, [], ◌∷◌, ◌++◌, if◌then◌else◌, length, take, drop, nat_le, nat_lt, Option, Some, None, option_and_then, sym, ap, subst, ◌∙◌, arith, append_assoc, length-append}
use Rattle.std.specs.Option.{option_map}
use Rattle.std.proofs.lemmas.Bool.{cond-false, cond-true, le-leb, ne_eqb}
use Rattle.std.proofs.lemmas.Bool.Decides.{nat_tests}
use Rattle.std.proofs.Math.Seq.{drop-append_seam, take-append_seam}
use Rattle.usb_walk.specs.Trees.{descriptor_length, tree_descriptor}
use Rattle.usb_walk.specs.declared.role.Role.{Role}
use Rattle.usb_remarks.specs.declared.outline_state.OutlineState.{OutlineState}
use Rattle.usb_walk.specs.Surroundings.{depth_of}
use Rattle.usb_walk.specs.Owners.{owner_of}
use Rattle.usb_walk.specs.declared.owner.DescriptorOwner.{DescriptorOwner}
use Rattle.usb_remarks.specs.SetStart.{entered}
use Rattle.usb_remarks.specs.OutlineStates.{passed}
use Rattle.usb_walk.specs.Roles.{inner_role, next_role, role_of}
use Rattle.usb_remarks.specs.declared.speed.SetSpeed.{SetSpeed}
use Rattle.usb_remarks.specs.Outline.{Entry}
use Rattle.usb_remarks.specs.Findings.{found_at}
use Rattle.usb_remarks.specs.OutlineLaws.{HasItsOwnFindings}
use Rattle.usb_file_data.specs.declared.cause.Found.{Found}
use Rattle.usb_remarks.proofs.Outlines.{entry_in_tree}
use Rattle.usb_remarks.proofs.Spans.{Aim, adding}
use Rattle.usb_remarks.proofs.rest.Walks.{Ends, ends_behind}

pub four_parts : {A : Type 0} (a b c d : List A) → ((a ++ b) ++ c) ++ d ≡ a ++ (b ++ (c ++ d))
four_parts a b c d = append_assoc (a ++ b) c d ∙ append_assoc a b (c ++ d)

-- ---- one descriptor

-- the two tests of descriptor_length
length_when : (len m : ℕ) → 2 ≤ len → len ≤ m → (if nat_lt len 2 || nat_lt m len then None else Some len) ≡ Some len
length_when len m least most = grind (arith, nat_tests)

-- its bLength counts all of it
pub length_is : (len kind : ℕ) (body behind : List ℕ) → len ≡ 2 + length body
    → descriptor_length ((len ∷ kind ∷ body) ++ behind) ≡ Some (length (len ∷ kind ∷ body))
length_is len kind body behind e =
    length_when len (length (kind ∷ body ++ behind) + 1) (omega (arith, e)) (omega (arith, e, length-append body behind))
    ∙ ap Some (omega (arith, e))

-- so it is the next one, if it has a role here
next_at : (s : OutlineState) (d behind : List ℕ) (role : Role) → descriptor_length (d ++ behind) ≡ Some (length d) → role_of s.position d ≡ Some role
    → next_role s.position (d ++ behind) ≡ Some (role, length d)
unfolding next_role
next_at s d behind role e is =
    ap (λ o. option_and_then (λ n. option_map (λ role. (role, n)) (role_of s.position (take n (d ++ behind)))) o) e
    ∙ ap (λ l. option_map (λ role. (role, length d)) (role_of s.position l)) (take-append_seam d behind)
    ∙ ap (λ o. option_map (λ role. (role, length d)) o) is

-- where it stands behind a descriptor of this role, and the findings that are left there
abbrev pub behind_one : Option SetSpeed → OutlineState → Role → List ℕ → List ℕ → OutlineState
behind_one running s role d behind = passed role d (entered role running (d ++ behind) s)

abbrev pub left_one : Option SetSpeed → OutlineState → List Found → Role → List ℕ → List ℕ → List Found
left_one running s fs role d behind = drop (length (found_at (entered role running (d ++ behind) s) fs)) fs

-- a descriptor of this role where it is shown
abbrev pub shown_at : Option SetSpeed → OutlineState → List Found → Role → List ℕ → List ℕ → List ℕ → Entry
shown_at running s fs role ahead d behind = record { state = entered role running ahead s; role = role; bytes = d; after = behind; found = fs }

-- behind it a walk ends so, where it has this descriptor
abbrev EndsBehind : Aim → Option SetSpeed → OutlineState → List Found → Role → List ℕ → List ℕ → List ℕ → Type 0
EndsBehind E running s fs role ahead d behind =
    Ends (adding E (entry_in_tree (shown_at running s fs role ahead d behind) ∷ [])) running
    (passed role d (entered role running ahead s)) (drop (length (found_at (entered role running ahead s) fs)) fs) behind

ends_on : (E : Aim) (running : Option SetSpeed) (s : OutlineState) (fs : List Found) (d behind : List ℕ) (role : Role) → descriptor_length (d ++ behind) ≡ Some (length d)
    → role_of s.position d ≡ Some role → HasItsOwnFindings (shown_at running s fs role (d ++ behind) d behind) → EndsBehind E running s fs role (d ++ behind) d behind → Ends E running s fs (d ++ behind)
ends_on E running s fs d behind role e is own onward =
    ends_behind E running s fs (d ++ behind) (role, length d) (next_at s d behind role e is) own
    (subst (λ l. EndsBehind E running s fs role (d ++ behind) l (drop (length d) (d ++ behind))) (sym (take-append_seam d behind))
    (subst (λ l. EndsBehind E running s fs role (d ++ behind) d l) (sym (drop-append_seam d behind)) onward))

-- behind a descriptor of this role, depth and owner the walk goes on
pub goes_on : (E : Aim) (running : Option SetSpeed) (s : OutlineState) (fs : List Found) (d behind : List ℕ) (role : Role) (depth : ℕ) (owner : Option DescriptorOwner)
    → descriptor_length (d ++ behind) ≡ Some (length d) → role_of s.position d ≡ Some role → depth_of (entered role running (d ++ behind) s).position role ≡ depth
    → owner_of (entered role running (d ++ behind) s).position role d ≡ owner → HasItsOwnFindings (shown_at running s fs role (d ++ behind) d behind)
    → Ends (adding E (tree_descriptor role depth owner d ∷ [])) running (behind_one running s role d behind) (left_one running s fs role d behind) behind
    → Ends E running s fs (d ++ behind)
goes_on E running s fs d behind role depth owner e is deep belongs own onward =
    let begun = entered role running (d ++ behind) s in
    let next = behind_one running s role d behind in
    let gs = left_one running s fs role d behind in
    ends_on E running s fs d behind role e is own
    (subst (λ n. Ends (adding E (tree_descriptor role n (owner_of begun.position role d) d ∷ [])) running next gs behind) (sym deep)
    (subst (λ o. Ends (adding E (tree_descriptor role depth o d ∷ [])) running next gs behind) (sym belongs) onward))

-- where so much of a set is left, a descriptor that has room stands in the set
pub inner_at : (s : OutlineState) (d : List ℕ) (n : ℕ) → s.position.left ≡ n → 0 < length d → length d ≤ n → role_of s.position d ≡ inner_role s.position d
unfolding role_of
inner_at s d n e some room =
    cond-false (s.position.left == 0) _ _ (ne_eqb s.position.left 0 (λ none. omega (arith, e, some, room, none)))
    ∙ cond-true (nat_le (length d) s.position.left) _ _ (le-leb (length d) s.position.left (omega (arith, e, room)))
