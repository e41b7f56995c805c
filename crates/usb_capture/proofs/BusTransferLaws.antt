-- Of each address at most one transfer goes on, and transactions of others leave it as it is.
use Rattle.std.proofs.Common.{◌≡◌, ◌≢◌, ℕ, ◌<◌, false, List, [], ◌∷◌, ◌++◌, length, inl, inr, refl, sym, subst, ◌∙◌, ap}
use Rattle.std.specs.Prelude.{Option, Some, None, slice_index_or, slice_set}
use Rattle.std.specs.Option.{option_to_list}
use Rattle.std.proofs.lemmas.List.{get_or-set_same, get_or-set_other, length-set}
use Rattle.usb_fields.specs.declared.setup.Direction.{Direction}
use Rattle.usb_fields.specs.declared.setup.Setup.{Setup}
use Rattle.usb_capture.specs.declared.control_transfer.ControlTransfer.{ControlTransfer}
use Rattle.usb_capture.specs.declared.data_toggle.DataToggle.{DataToggle}
use Rattle.usb_capture.specs.declared.data_toggle.Part.{Part}
use Rattle.usb_capture.specs.declared.data_toggle.Part.TheVariants.{Data, Status, Neither}
use Rattle.usb_capture.specs.declared.ending.Ending.{Ending}
use Rattle.usb_capture.specs.declared.transaction.Transaction.{Transaction}
use Rattle.usb_capture.specs.BusTransfers.{Goes, Going, Pipes, begun_by, closed, data_direction, ended_so, first_toggle, first_toggles, going_by, going_from, is_status, none_open, over_by, over_with_part, part_at, part_in, part_of, pipes_after, pipes_by, pipes_with, request_of, toggle_after, toggle_at, transfer_over, transfers_in, with_open, with_packet}
use Rattle.usb_capture.specs.Folds.{after_all}
use Rattle.usb_capture.specs.Transfers.{open_with, without}
use Rattle.usb_capture.proofs.Folds.{after_both, given_push}
use Rattle.usb_capture.proofs.OpenTransfers.{Once, push_found, push_once, push_other, without_none, without_once, without_other}

record Sound (pipes : Pipes) : Type 0 where
  once : Once pipes.held
  room : length pipes.toggles ≡ 256

sound_first : Sound none_open
unfolding first_toggles
sound_first = record { once = tt; room = refl }

sound_after : (t : Transaction) (pipes : Pipes) → Sound pipes → Sound (pipes_after t pipes)
sound_after t pipes sound = of (request_of t) (open_with t.to.address pipes.held)
  where
    address : ℕ
    address = t.to.address

    left : Once (without address pipes.held)
    left = without_once address pipes.held sound.once

    kept : (toggle : DataToggle) → length (slice_set pipes.toggles address toggle) ≡ 256
    kept toggle = length-set pipes.toggles address toggle ∙ sound.room

    again : (transfer : ControlTransfer) (toggle : DataToggle) → Sound (with_open address transfer toggle (closed address pipes))
    again transfer toggle = record {
      once = push_once address (without address pipes.held) transfer left (without_none address pipes.held sound.once);
      room = kept toggle;
    }

    by_part : (part : Part) (transfer : ControlTransfer) (toggle : DataToggle) → Sound (pipes_with part t transfer toggle (closed address pipes))
    by_part Data transfer toggle = again (with_packet t.data transfer) toggle
    by_part Neither transfer toggle = again transfer toggle
    by_part (Status ending) transfer toggle = record { once = left; room = kept toggle }

    of : (request : Option Setup) (transfer : Option ControlTransfer) → Sound (pipes_by request transfer t (closed address pipes))
    of (Some setup) transfer = again (begun_by t setup) first_toggle
    of None None = record { once = left; room = sound.room }
    of None (Some transfer) =
        let part = part_at t transfer (closed address pipes) in
        by_part part transfer (toggle_after part t (toggle_at address pipes))

sound_all : (pipes : Pipes) (ts : List Transaction) → Sound pipes → Sound (after_all pipes_after transfer_over pipes ts)
sound_all pipes [] sound = sound
sound_all pipes (t ∷ ts) sound = sound_all (pipes_after t pipes) ts (sound_after t pipes sound)

-- what goes on at an address
record IsAt (address : ℕ) (going : Going) (pipes : Pipes) : Type 0 where
  transfer : open_with address pipes.held ≡ Some going.transfer
  toggle : toggle_at address pipes ≡ going.toggle

at_other : (t : Transaction) (address : ℕ) (going : Going) (pipes : Pipes) → t.to.address ≢ address → IsAt address going pipes → IsAt address going (pipes_after t pipes)
at_other t address going pipes other at = of (request_of t) (open_with t.to.address pipes.held)
  where
    left : open_with address (without t.to.address pipes.held) ≡ Some going.transfer
    left = without_other address t.to.address pipes.held other ∙ at.transfer

    kept : (toggle : DataToggle) → slice_index_or (slice_set pipes.toggles t.to.address toggle) address first_toggle ≡ going.toggle
    kept toggle = get_or-set_other pipes.toggles t.to.address address toggle first_toggle (λ same. other (sym same)) ∙ at.toggle

    again : (transfer : ControlTransfer) (toggle : DataToggle) → IsAt address going (with_open t.to.address transfer toggle (closed t.to.address pipes))
    again transfer toggle = record {
      transfer = push_other address t.to.address (without t.to.address pipes.held) transfer other ∙ left;
      toggle = kept toggle;
    }

    by_part : (part : Part) (transfer : ControlTransfer) (toggle : DataToggle) → IsAt address going (pipes_with part t transfer toggle (closed t.to.address pipes))
    by_part Data transfer toggle = again (with_packet t.data transfer) toggle
    by_part Neither transfer toggle = again transfer toggle
    by_part (Status ending) transfer toggle = record { transfer = left; toggle = kept toggle }

    of : (request : Option Setup) (transfer : Option ControlTransfer) → IsAt address going (pipes_by request transfer t (closed t.to.address pipes))
    of (Some setup) transfer = again (begun_by t setup) first_toggle
    of None None = record { transfer = left; toggle = at.toggle }
    of None (Some transfer) =
        let part = part_at t transfer (closed t.to.address pipes) in
        by_part part transfer (toggle_after part t (toggle_at t.to.address pipes))

-- held again at its address
at_again : (address : ℕ) (transfer : ControlTransfer) (toggle : DataToggle) (pipes : Pipes) → address < 256 → Sound pipes
    → IsAt address (record { transfer = transfer; toggle = toggle }) (with_open address transfer toggle (closed address pipes))
at_again address transfer toggle pipes small sound = record {
  transfer = push_found address (without address pipes.held) transfer (without_none address pipes.held sound.once);
  toggle = get_or-set_same pipes.toggles address toggle first_toggle (subst (λ n. address < n) (sym sound.room) small);
}

at_setup : (t : Transaction) (setup : Setup) (pipes : Pipes) → t.to.address < 256 → Sound pipes → request_of t ≡ Some setup → IsAt t.to.address (going_from t setup) (pipes_after t pipes)
at_setup t setup pipes small sound is =
    subst (λ r. IsAt t.to.address (going_from t setup) (pipes_by r (open_with t.to.address pipes.held) t (closed t.to.address pipes))) (sym is)
    (at_again t.to.address (begun_by t setup) first_toggle pipes small sound)

-- what is at the address of a transaction that is no request, and what it does there
here : (t : Transaction) (going : Going) (pipes : Pipes) → IsAt t.to.address going pipes → request_of t ≡ None
    → (pipes_after t pipes ≡ pipes_with (part_of going t) t going.transfer (toggle_after (part_of going t) t going.toggle) (closed t.to.address pipes))
    × (transfer_over t pipes ≡ over_with_part (part_of going t) t going.transfer)
here t going pipes at none = (
  ap (λ r. pipes_by r (open_with t.to.address pipes.held) t (closed t.to.address pipes)) none
      ∙ ap (λ o. pipes_by None o t (closed t.to.address pipes)) at.transfer
      ∙ ap (λ g. pipes_with (part_in way g t) t going.transfer (toggle_after (part_in way g t) t g) (closed t.to.address pipes)) at.toggle,
  ap (λ r. over_by r (open_with t.to.address pipes.held) t pipes) none
      ∙ ap (λ o. over_by None o t pipes) at.transfer
      ∙ ap (λ g. over_with_part (part_in way g t) t going.transfer) at.toggle,
)
  where
    way : Direction
    way = data_direction going.transfer.setup

at_here : (t : Transaction) (going : Going) (pipes : Pipes) → t.to.address < 256 → Sound pipes → IsAt t.to.address going pipes → request_of t ≡ None
    → is_status (part_of going t) ≡ false → IsAt t.to.address (going_by (part_of going t) t going) (pipes_after t pipes)
at_here t going pipes small sound at none still =
    subst (IsAt t.to.address (going_by (part_of going t) t going)) (sym (here t going pipes at none).0) (of (part_of going t) still)
  where
    of : (part : Part) → is_status part ≡ false
        → IsAt t.to.address (going_by part t going) (pipes_with part t going.transfer (toggle_after part t going.toggle) (closed t.to.address pipes))
    of Data goes = at_again t.to.address (with_packet t.data going.transfer) (toggle_after Data t going.toggle) pipes small sound
    of Neither goes = at_again t.to.address going.transfer (toggle_after Neither t going.toggle) pipes small sound
    of (Status ending) goes = absurd (let w : ⊥ = cc in w)

at_all : (address : ℕ) (before after : Going) (pipes : Pipes) (ts : List Transaction) → address < 256 → Sound pipes → IsAt address before pipes → Goes address before ts after
    → IsAt address after (after_all pipes_after transfer_over pipes ts)
at_all address before after pipes [] small sound at goes = subst (λ g. IsAt address g pipes) (sym goes) at
at_all address before after pipes (t ∷ ts) small sound at (inl other) =
    at_all address before after (pipes_after t pipes) ts small (sound_after t pipes sound) (at_other t address before pipes other.0 at) other.1
at_all address before after pipes (t ∷ ts) small sound at (inr same) =
    let there : IsAt t.to.address before pipes = subst (λ a. IsAt a before pipes) (sym same.0) at in
    let less : t.to.address < 256 = subst (λ a. a < 256) (sym same.0) small in
    let next = going_by (part_of before t) t before in
    at_all address next after (pipes_after t pipes) ts small (sound_after t pipes sound)
    (subst (λ a. IsAt a next (pipes_after t pipes)) same.0 (at_here t before pipes less sound there same.1 same.2)) same.3

pub a_transfer : (before between : List Transaction) (request answer : Transaction) (setup : Setup) (going : Going) (ending : Ending)
    → request_of request ≡ Some setup → request.to.address < 256
    → Goes request.to.address (going_from request setup) between going
    → answer.to.address ≡ request.to.address → request_of answer ≡ None → part_of going answer ≡ Status ending
    → transfers_in ((before ++ request ∷ between) ++ answer ∷ []) ≡ transfers_in (before ++ request ∷ between) ++ ended_so answer ending going.transfer ∷ []
a_transfer before between request answer setup going ending is small goes back none ends =
    let ts = before ++ request ∷ between in
    let first = after_all pipes_after transfer_over none_open before in
    let sound : Sound first = sound_all none_open before sound_first in
    let at : IsAt request.to.address going (after_all pipes_after transfer_over none_open ts) =
    subst (IsAt request.to.address going) (sym (after_both pipes_after transfer_over none_open before (request ∷ between)))
    (at_all request.to.address (going_from request setup) going (pipes_after request first) between small (sound_after request first sound) (at_setup request setup first small sound is) goes) in
    let there : IsAt answer.to.address going (after_all pipes_after transfer_over none_open ts) = subst (λ a. IsAt a going (after_all pipes_after transfer_over none_open ts)) (sym back) at in
    given_push pipes_after transfer_over none_open ts answer
    ∙ ap (λ o. transfers_in ts ++ option_to_list o)
    ((here answer going (after_all pipes_after transfer_over none_open ts) there none).1 ∙ ap (λ part. over_with_part part answer going.transfer) ends)
