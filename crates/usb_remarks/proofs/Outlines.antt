-- An outline, descriptor by descriptor.
use Rattle.std.proofs.Common.{◌≡◌, ◌<◌, inl, inr, ℕ, ◌+◌, List, [], ◌∷◌, ◌++◌, flat_map, length, map, take, drop, Option, Some, None, refl, ap, arith, length-drop}
use Rattle.usb_file_data.specs.declared.cause.Found.{Found}
use Rattle.usb_walk.specs.declared.role.Role.{Role}
use Rattle.usb_remarks.specs.declared.speed.SetSpeed.{SetSpeed}
use Rattle.usb_remarks.specs.declared.outline_state.OutlineState.{OutlineState}
use Rattle.usb_walk.specs.Surroundings.{depth_of}
use Rattle.usb_remarks.specs.OutlineLaws.{Span, as_in_tree, span_of}
use Rattle.usb_remarks.specs.Outline.{Ahead, Entry, after_next, bytes_of, describe, entry_next, findings_of, here, left_next, next_ahead, outline_from, pass_ahead}
use Rattle.usb_walk.specs.Owners.{owner_of}
use Rattle.usb_walk.specs.Roles.{next_role}
use Rattle.usb_walk.specs.Trees.{TreeDescriptor, tree_descriptor}
use Rattle.usb_remarks.specs.OutlineStates.{AreCounted}
use Rattle.usb_remarks.proofs.OutlineStates.{counted_entered}
use Rattle.usb_walk.proofs.NextRoles.{next_bounds}
use Rattle.usb_walk.proofs.Positions.{counted_noted}
use Rattle.usb_fields.proofs.Unfolded.{unfolded_enough, unfolded_none}
use Rattle.usb_walk.proofs.WalkSteps.{step_of}

-- ---- one step

-- a descriptor has two bytes at least
fewer_ahead : (running : Option SetSpeed) (here : Ahead) (next : Role × ℕ) → next_ahead here ≡ Some next → length (drop next.1 here.2) < length here.2
fewer_ahead running here next e =
    let b = next_bounds here.0.position here.2 next e in
    omega (arith, b.0, b.1, length-drop next.1 here.2)

pub outline_next : (running : Option SetSpeed) (s : OutlineState) (found : List Found) (ahead : List ℕ) (next : Role × ℕ) → next_role s.position ahead ≡ Some next
    → outline_from running s found ahead
    ≡ describe running (entry_next running s found ahead next) ∷ outline_from running (after_next running s ahead next) (left_next running s found ahead next) (drop next.1 ahead)
outline_next running s found ahead next e =
    ap (λ l. map (describe running) l)
    (unfolded_enough next_ahead (pass_ahead running) (λ here. length here.2) (fewer_ahead running) (length ahead) (s, found, ahead) next e (omega arith))

pub outline_none : (running : Option SetSpeed) (s : OutlineState) (found : List Found) (ahead : List ℕ) → next_role s.position ahead ≡ None → outline_from running s found ahead ≡ []
outline_none running s found ahead e = ap (λ l. map (describe running) l) (unfolded_none next_ahead (pass_ahead running) (length ahead) (s, found, ahead) (inr e))

pub outline_nil : (running : Option SetSpeed) (s : OutlineState) (found : List Found) → outline_from running s found [] ≡ []
outline_nil running s found = ap (λ l. map (describe running) l) (unfolded_none next_ahead (pass_ahead running) 0 (s, found, []) (inl refl))

-- from the same state the same is left
pub left_same : (running : Option SetSpeed) (s t : OutlineState) (fs gs : List Found) (a b : List ℕ) → s ≡ t → fs ≡ gs → a ≡ b
    → outline_from running s fs a ≡ outline_from running t gs b
left_same running s t fs gs a b e f g = cc

-- ---- what is kept from one descriptor to the next

pub stays_counted : (running : Option SetSpeed) (s : OutlineState) (ahead : List ℕ) (next : Role × ℕ) → next_role s.position ahead ≡ Some next → AreCounted s
    → AreCounted (after_next running s ahead next)
stays_counted running s ahead next e counted =
    let step = step_of s.position ahead next e in
    let entered = counted_entered next.0 running ahead s counted in
    let place : (here running s ahead next).position.at ≡ s.position.at = step.place in
    let at : (after_next running s ahead next).position.at ≡ s.position.at + next.1 = step.at in
    record {
      in_position = counted_noted next.0 (take next.1 ahead) (length (take next.1 ahead)) (here running s ahead next).position (omega (arith, step.taken, step.least)) entered.in_position;
      descriptors = omega (arith, at, place, step.least, entered.descriptors);
    }

pub stays_room : (running : Option SetSpeed) (s : OutlineState) (ahead : List ℕ) (next : Role × ℕ) → next_role s.position ahead ≡ Some next → s.position.at + length ahead < 9223372036854775808
    → (after_next running s ahead next).position.at + length (drop next.1 ahead) < 9223372036854775808
stays_room running s ahead next e room =
    let step = step_of s.position ahead next e in
    let at : (after_next running s ahead next).position.at ≡ s.position.at + next.1 = step.at in
    omega (arith, at, length-drop next.1 ahead, step.most, room)

-- ---- what an outline says of its descriptors

pub bytes_same : (running : Option SetSpeed) (es : List Entry) → bytes_of (map (describe running) es) ≡ flat_map (λ e. e.bytes) es
unfolding describe
bytes_same running [] = refl
bytes_same running (e ∷ es) = ap (λ l. e.bytes ++ l) (bytes_same running es)

pub found_same : (running : Option SetSpeed) (es : List Entry) → flat_map (λ d. d.findings) (map (describe running) es) ≡ flat_map findings_of es
unfolding describe
found_same running [] = refl
found_same running (e ∷ es) = ap (λ l. findings_of e ++ l) (found_same running es)

-- a place and a length
abbrev pub entry_span : Entry → Span
entry_span e = record { start = e.state.position.at; count = length e.bytes }

pub spans_same : (running : Option SetSpeed) (es : List Entry) → map span_of (map (describe running) es) ≡ map entry_span es
unfolding describe
spans_same running [] = refl
spans_same running (e ∷ es) = ap (λ l. entry_span e ∷ l) (spans_same running es)

-- a descriptor as in a tree
abbrev pub entry_in_tree : Entry → TreeDescriptor
entry_in_tree e = tree_descriptor e.role (depth_of e.state.position e.role) (owner_of e.state.position e.role e.bytes) e.bytes

pub tree_same : (running : Option SetSpeed) (es : List Entry) → map as_in_tree (map (describe running) es) ≡ map entry_in_tree es
unfolding describe
tree_same running [] = refl
tree_same running (e ∷ es) = ap (λ l. entry_in_tree e ∷ l) (tree_same running es)
