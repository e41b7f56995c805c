-- The transfer that is open at an address after a transaction of it.
use Rattle.std.proofs.Common.{◌≡◌, ◌⊎◌, inr, ◌==◌, ℕ, ◌<◌, ◌≤◌, arith, Bool, true, false, if◌then◌else◌, List, [], ◌∷◌, ◌++◌, length, refl, sym, subst, ◌∙◌, ap}
use Rattle.std.specs.Prelude.{Option, Some, None, slice_index_or, slice_set}
use Rattle.std.specs.List.{AllByRecursion}
use Rattle.std.proofs.lemmas.Bool.Decides.{nat_tests}
use Rattle.std.proofs.lemmas.List.{get_or-set_same, length-set}
use Rattle.usb_fields.specs.declared.setup.Setup.{Setup}
use Rattle.usb_capture.specs.declared.control_transfer.ControlTransfer.{ControlTransfer}
use Rattle.usb_capture.specs.declared.data_toggle.Part.{Part}
use Rattle.usb_capture.specs.declared.data_toggle.Part.TheVariants.{Data, Neither, Status}
use Rattle.usb_capture.specs.declared.ending.Ending.TheVariants.{Unseen}
use Rattle.usb_capture.specs.declared.open_transfer.OpenTransfer.{OpenTransfer}
use Rattle.usb_capture.specs.declared.transaction.Transaction.{Transaction}
use Rattle.usb_capture.specs.BusTransfers.{Going, Pipes, begun_by, closed, data_direction, first_toggle, first_toggles, none_open, over_by, over_with_part, part_at, part_in, pipes_after, pipes_by, pipes_with, request_of, toggle_after, toggle_at, transfer_over, with_open}
use Rattle.usb_capture.specs.Transfers.{open_with, opened, without}
use Rattle.usb_capture.proofs.OpenTransfers.{Once, push_found, push_once, without_none, without_once}
use Rattle.usb_recorded_runs.proofs.SizeLemmas.{IfOver}

-- a transfer of this address, which has so many bytes as it counts, or is cut
pub record IsOwn (address : ℕ) (transfer : ControlTransfer) : Type 0 where
  pub device_is : transfer.device ≡ address
  pub low : length transfer.data ≤ 65535
  pub few : length transfer.data ≤ transfer.length
  pub all : (transfer.is_cut ≡ true) ⊎ (transfer.length ≡ length transfer.data)

-- one that is open and has not ended
pub record IsUnended (address : ℕ) (transfer : ControlTransfer) : Type 0 where
  pub unseen : transfer.ending ≡ Unseen
  pub own : IsOwn address transfer

-- Of each address at most one is open, and none has ended.
abbrev IsUnseen : OpenTransfer → Type 0
IsUnseen one = IsUnended one.id one.transfer

pub record Sound (pipes : Pipes) : Type 0 where
  pub once : Once pipes.held
  pub room : length pipes.toggles ≡ 256
  pub unseen : AllByRecursion IsUnseen pipes.held

pub sound_first : Sound none_open
unfolding first_toggles
sound_first = record { once = tt; room = refl; unseen = tt }

-- This holds of the transfer that is open at an address, if one is.
abbrev pub OpenAt : ℕ → (Going → Type 0) → Pipes → Type 0
OpenAt address P pipes = (transfer : ControlTransfer) → open_with address pipes.held ≡ Some transfer → P (record { transfer = transfer; toggle = toggle_at address pipes })

abbrev pub Holds : ℕ → (Going → Type 0) → Pipes → Type 0
Holds address P pipes = Sound pipes × OpenAt address P pipes

without_unseen : (id : ℕ) (opens : List OpenTransfer) → AllByRecursion IsUnseen opens → AllByRecursion IsUnseen (without id opens)
unfolding without
without_unseen id [] each = tt
without_unseen id (one ∷ opens) each = of (one.id == id) (without_unseen id opens each.1)
  where
    of : (t : Bool) → AllByRecursion IsUnseen (without id opens) → AllByRecursion IsUnseen (if t then opens else one ∷ without id opens)
    of true later = each.1
    of false later = (each.0, later)

push_unseen : (opens : List OpenTransfer) (one : OpenTransfer) → IsUnseen one → AllByRecursion IsUnseen opens → AllByRecursion IsUnseen (opens ++ one ∷ [])
push_unseen [] one is each = (is, tt)
push_unseen (first ∷ opens) one is each = (each.0, push_unseen opens one is each.1)

pub found_unseen : (id : ℕ) (opens : List OpenTransfer) (transfer : ControlTransfer) → AllByRecursion IsUnseen opens
    → open_with id opens ≡ Some transfer → IsUnended id transfer
unfolding open_with
found_unseen id [] transfer each is = absurd (let w : ⊥ = cc in w)
found_unseen id (one ∷ opens) transfer each is = of (one.id == id) refl is (found_unseen id opens transfer each.1)
  where
    same_number : (m n : ℕ) → (m == n) ≡ true → m ≡ n
    same_number m n e = grind (arith, nat_tests)

    of : (t : Bool) → (one.id == id) ≡ t → (if t then Some one.transfer else open_with id opens) ≡ Some transfer
        → (open_with id opens ≡ Some transfer → IsUnended id transfer) → IsUnended id transfer
    of true own e later =
        let same : one.transfer ≡ transfer = cc in
        subst (IsUnended id) same (subst (λ n. IsUnended n one.transfer) (same_number one.id id own) each.0)
    of false own e later = later e

-- held again
pub again : (address : ℕ) (going : Going) (P : Going → Type 0) (pipes : Pipes) → address < 256 → Sound pipes → IsUnended address going.transfer → P going
    → Holds address P (with_open address going.transfer going.toggle (closed address pipes))
again address going P pipes small sound unended holds = (
  record {
    once = push_once address (without address pipes.held) going.transfer left none;
    room = length-set pipes.toggles address going.toggle ∙ sound.room;
    unseen = push_unseen (without address pipes.held) (opened address going.transfer) unended (without_unseen address pipes.held sound.unseen);
  },
  λ transfer is.
      let same : going.transfer ≡ transfer = (let e : Some going.transfer ≡ Some transfer = sym (push_found address (without address pipes.held) going.transfer none) ∙ is in cc) in
      subst P (λ i. record { transfer = same i; toggle = kept i }) holds,
)
  where
    left : Once (without address pipes.held)
    left = without_once address pipes.held sound.once

    none : open_with address (without address pipes.held) ≡ None
    none = without_none address pipes.held sound.once

    kept : going.toggle ≡ slice_index_or (slice_set pipes.toggles address going.toggle) address first_toggle
    kept = sym (get_or-set_same pipes.toggles address going.toggle first_toggle (subst (λ n. address < n) (sym sound.room) small))

none_left : (address : ℕ) (P : Going → Type 0) (pipes new : Pipes) → Sound pipes → new.held ≡ without address pipes.held → OpenAt address P new
none_left address P pipes new sound same transfer is =
    absurd (let e : None ≡ Some transfer = sym (without_none address pipes.held sound.once) ∙ ap (open_with address) (sym same) ∙ is in let w : ⊥ = cc in w)

-- ended
pub ended_at : (address : ℕ) (going : Going) (P : Going → Type 0) (pipes : Pipes) → Sound pipes
    → Holds address P (record (closed address pipes) { toggles = slice_set pipes.toggles address going.toggle })
ended_at address going P pipes sound = (
  record { once = without_once address pipes.held sound.once; room = length-set pipes.toggles address going.toggle ∙ sound.room; unseen = without_unseen address pipes.held sound.unseen },
  none_left address P pipes (record (closed address pipes) { toggles = slice_set pipes.toggles address going.toggle }) sound refl,
)

-- and never begun
none_at : (address : ℕ) (P : Going → Type 0) (pipes : Pipes) → Sound pipes → Holds address P (closed address pipes)
none_at address P pipes sound =
    (record { once = without_once address pipes.held sound.once; room = sound.room; unseen = without_unseen address pipes.held sound.unseen }, none_left address P pipes (closed address pipes) sound refl)

-- how it goes on with a transaction
abbrev pub goes_with : Transaction → Going → Pipes → Pipes
goes_with t going pipes =
    let part = part_in (data_direction going.transfer.setup) going.toggle t in
    pipes_with part t going.transfer (toggle_after part t going.toggle) (closed t.to.address pipes)

pub goes_at : (t : Transaction) (P Q : Going → Type 0) (pipes : Pipes) → Sound pipes → request_of t ≡ None → OpenAt t.to.address P pipes
    → ((going : Going) → IsUnended t.to.address going.transfer → P going → Holds t.to.address Q (goes_with t going pipes)) → Holds t.to.address Q (pipes_after t pipes)
goes_at t P Q pipes sound no_request opens each =
    subst (λ r. Holds t.to.address Q (pipes_by r (open_with t.to.address pipes.held) t (closed t.to.address pipes))) (sym no_request) (of (open_with t.to.address pipes.held) refl)
  where
    of : (o : Option ControlTransfer) → open_with t.to.address pipes.held ≡ o → Holds t.to.address Q (pipes_by None o t (closed t.to.address pipes))
    of None e = none_at t.to.address Q pipes sound
    of (Some transfer) e = each (record { transfer = transfer; toggle = toggle_at t.to.address pipes }) (found_unseen t.to.address pipes.held transfer sound.unseen e) (opens transfer e)

-- A request begins one.
pub begins_at : (t : Transaction) (setup : Setup) (P : Going → Type 0) (pipes : Pipes) → t.to.address < 256 → Sound pipes → request_of t ≡ Some setup
    → P (record { transfer = begun_by t setup; toggle = first_toggle }) → Holds t.to.address P (pipes_after t pipes)
begins_at t setup P pipes small sound is holds =
    subst (λ r. Holds t.to.address P (pipes_by r (open_with t.to.address pipes.held) t (closed t.to.address pipes))) (sym is)
    (again t.to.address (record { transfer = begun_by t setup; toggle = first_toggle }) P pipes small sound
    (record { unseen = refl; own = record { device_is = refl; low = omega arith; few = omega arith; all = inr refl } }) holds)

-- The transfer that is over with a transaction is one of its address.
pub own_over : (t : Transaction) (pipes : Pipes) → Sound pipes → IfOver (IsOwn t.to.address) (transfer_over t pipes)
own_over t pipes sound = of (request_of t) (open_with t.to.address pipes.held) refl
  where
    ended : (part : Part) (transfer : ControlTransfer) → IsOwn t.to.address transfer → IfOver (IsOwn t.to.address) (over_with_part part t transfer)
    ended (Status ending) transfer own = record { device_is = own.device_is; low = own.low; few = own.few; all = own.all }
    ended Data transfer own = tt
    ended Neither transfer own = tt

    of : (request : Option Setup) (o : Option ControlTransfer) → open_with t.to.address pipes.held ≡ o → IfOver (IsOwn t.to.address) (over_by request o t pipes)
    of (Some setup) None e = tt
    of (Some setup) (Some transfer) e = (found_unseen t.to.address pipes.held transfer sound.unseen e).own
    of None None e = tt
    of None (Some transfer) e = ended (part_at t transfer pipes) transfer (found_unseen t.to.address pipes.held transfer sound.unseen e).own
