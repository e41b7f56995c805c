-- Where an open transfer is, and what is left without it.
use Rattle.std.proofs.Common.{◌≡◌, ℕ, suc, ◌+◌, ◌<◌, ◌≤◌, Bool, true, false, List, [], ◌∷◌, ◌++◌, length, drop, get_or, append_assoc, refl, sym, ◌∙◌, ap, arith}
use Rattle.std.specs.Prelude.{Option, Some, None, Result, Ok, Err, IfOk, remove, if◌then◌else◌, ◌==◌}
use Rattle.std.proofs.lemmas.Bool.Decides.{nat_tests}
use Rattle.std.proofs.lemmas.List.{append-nil, at_drop_more, at_drop_all}
use Rattle.std.specs.Option.{option_to_list}
use Rattle.std.specs.declared.alloc.AllocError.{AllocError}
use Rattle.usb_capture.specs.declared.control_transfer.ControlTransfer.{ControlTransfer}
use Rattle.usb_capture.specs.declared.open_transfer.OpenTransfer.{OpenTransfer}
use Rattle.usb_capture.specs.declared.control_transfers.ControlTransfers.{ControlTransfers}
use Rattle.usb_capture.specs.declared.event.Event.{Event}
use Rattle.usb_capture.specs.Transfers.{HasTaken, open_after, open_with, over_in, place_with, seen, without}

pub place_step : (id place : ℕ) (opens : List OpenTransfer) (d : OpenTransfer) → place < length opens
    → place_with id (drop place opens) ≡ (if (get_or opens place d).id == id then 0 else suc (place_with id (drop (place + 1) opens)))
unfolding place_with
place_step id place opens d lt = at_drop_more (place_with id) opens place d lt

pub place_end : (id place : ℕ) (opens : List OpenTransfer) → length opens ≤ place → place_with id (drop place opens) ≡ 0
unfolding place_with
place_end id place opens h = at_drop_all (place_with id) opens place h

-- a transfer that is open
pub there : (id : ℕ) (opens : List OpenTransfer) (d : OpenTransfer) → place_with id opens < length opens
    → (open_with id opens ≡ Some (get_or opens (place_with id opens) d).transfer) × (without id opens ≡ remove opens (place_with id opens))
unfolding place_with open_with without
there id [] d lt = absurd (omega (arith, lt))
there id (one ∷ opens) d lt = of (one.id == id) lt (there id opens d)
  where
    of : (t : Bool) → (if t then 0 else suc (place_with id opens)) < suc (length opens)
        → (place_with id opens < length opens → (open_with id opens ≡ Some (get_or opens (place_with id opens) d).transfer) × (without id opens ≡ remove opens (place_with id opens)))
        → ((if t then Some one.transfer else open_with id opens) ≡ Some (get_or (one ∷ opens) (if t then 0 else suc (place_with id opens)) d).transfer)
        × ((if t then opens else one ∷ without id opens) ≡ remove (one ∷ opens) (if t then 0 else suc (place_with id opens)))
    of true lt later = (refl, refl)
    of false lt later = (let h = later (omega (arith, lt)) in (h.0, ap (λ xs. one ∷ xs) h.1))

-- and one that isn't
pub nowhere : (id : ℕ) (opens : List OpenTransfer) → length opens ≤ place_with id opens → (open_with id opens ≡ None) × (without id opens ≡ opens)
unfolding place_with open_with without
nowhere id [] h = (refl, refl)
nowhere id (one ∷ opens) h = of (one.id == id) h (nowhere id opens)
  where
    of : (t : Bool) → suc (length opens) ≤ (if t then 0 else suc (place_with id opens))
        → (length opens ≤ place_with id opens → (open_with id opens ≡ None) × (without id opens ≡ opens))
        → ((if t then Some one.transfer else open_with id opens) ≡ None) × ((if t then opens else one ∷ without id opens) ≡ one ∷ opens)
    of true h later = absurd (omega (arith, h))
    of false h later = (let same = later (omega (arith, h)) in (same.0, ap (λ xs. one ∷ xs) same.1))

-- the search for a place, a step on
pub step_here : (id i place : ℕ) (opens : List OpenTransfer) (one : OpenTransfer) → i < length opens → place ≡ i → one ≡ get_or opens i one → one.id ≡ id
    → place_with id (drop place opens) ≡ 0
step_here id i place opens one lt at is same =
    let later = place_with id (drop (place + 1) opens) in
    let here : get_or opens place one ≡ one = ap (λ n. get_or opens n one) at ∙ sym is in
    let t : (one.id == id) ≡ true = grind (arith, nat_tests) in
    place_step id place opens one (omega (arith, lt, at)) ∙ ap (λ (o : OpenTransfer). if o.id == id then 0 else suc later) here ∙ ap (λ t. if t then 0 else suc later) t

pub step_on : (id i place : ℕ) (opens : List OpenTransfer) (one : OpenTransfer) → i < length opens → place ≡ i → one ≡ get_or opens i one → (one.id ≡ id → ⊥)
    → place_with id (drop place opens) ≡ suc (place_with id (drop (place + 1) opens))
step_on id i place opens one lt at is other =
    let later = place_with id (drop (place + 1) opens) in
    let here : get_or opens place one ≡ one = ap (λ n. get_or opens n one) at ∙ sym is in
    let t : (one.id == id) ≡ false = grind (arith, nat_tests) in
    place_step id place opens one (omega (arith, lt, at)) ∙ ap (λ (o : OpenTransfer). if o.id == id then 0 else suc later) here ∙ ap (λ t. if t then 0 else suc later) t

-- one event more
open_push : (opens : List OpenTransfer) (events : List Event) (event : Event) → open_after opens (events ++ event ∷ []) ≡ (seen event (open_after opens events)).held
open_push opens [] event = refl
open_push opens (e ∷ events) event = open_push (seen e opens).held events event

pub over_push : (opens : List OpenTransfer) (events : List Event) (event : Event)
    → over_in opens (events ++ event ∷ []) ≡ over_in opens events ++ option_to_list (seen event (open_after opens events)).over
over_push opens [] event = append-nil (option_to_list (seen event opens).over)
over_push opens (e ∷ events) event =
    let first = option_to_list (seen e opens).over in
    let later = (seen e opens).held in
    ap (λ xs. first ++ xs) (over_push later events event) ∙ sym (append_assoc first (over_in later events) (option_to_list (seen event (open_after later events)).over))

pub taken_more : (r : Result (Option ControlTransfer) AllocError) (event : Event) (old new : ControlTransfers)
    → IfOk r (λ over. new.held.items ≡ (seen event old.held.items).held)
    → IfOk r (λ over. over ≡ (seen event old.held.items).over)
    → IfOk r (λ over. (events : List Event) (transfers : List ControlTransfer) → HasTaken events transfers old → HasTaken (events ++ event ∷ []) (transfers ++ option_to_list over) new)
taken_more (Ok over) event old new held is-over = λ events transfers has. (
  held ∙ ap (λ opens. (seen event opens).held) has.0 ∙ sym (open_push [] events event),
  ap (λ xs. xs ++ option_to_list over) has.1
      ∙ ap (λ o. over_in [] events ++ option_to_list o) (is-over ∙ ap (λ opens. (seen event opens).over) has.0)
      ∙ sym (over_push [] events event),
)
taken_more (Err error) event old new held is-over = tt
