-- No transaction of a run goes the way of a data stage that is complete.
use Rattle.std.proofs.Common.{◌≡◌, ◌⊎◌, inl, inr, ◌&&◌, ◌||◌, ◌<◌, ◌≤◌, nat_le, nat_lt, ℕ, Bool, true, false, [], refl, sym, ◌∙◌, ap, subst, arith}
use Rattle.std.specs.Prelude.{Option, Some, None}
use Rattle.std.proofs.lemmas.Bool.Decides.{nat_tests}
use Rattle.usb_fields.specs.declared.packet.Toggle.TheVariants.{Data0, Data1}
use Rattle.usb_fields.specs.declared.setup.Direction.{Direction}
use Rattle.usb_fields.specs.declared.setup.Direction.TheVariants as directions
use Rattle.usb_fields.specs.Packets.{AckReply, DataReply, InToken, NakReply, NoReply, OutToken, Reply, StallReply}
use Rattle.usb_capture.specs.declared.control_transfer.ControlTransfer.{ControlTransfer}
use Rattle.usb_capture.specs.declared.data_toggle.DataToggle.{DataToggle}
use Rattle.usb_capture.specs.declared.transaction.Transaction.{Transaction}
use Rattle.usb_capture.specs.BusTransfers.{Going, Pipes, data_direction, part_in, request_of, toggle_at}
use Rattle.usb_capture.specs.PacketFindings.{is_complete_in, is_data_part, is_misdirected, is_misdirected_at, is_misdirected_in, is_reading_data}
use Rattle.usb_capture.specs.Transfers.{open_with}
use Rattle.usb_recorded_runs.proofs.PipeLemmas.{OpenAt}
use Rattle.usb_recorded_runs.proofs.ReceivedLemmas.{Goes, NotEarly, received_in}

-- A data stage is not complete: not all bytes have come, and the last packet, if one has come, is a whole one.
pub record Lacks (size address : ℕ) (going : Going) : Type 0 where
  pub more : going.transfer.length < going.transfer.setup.length
  pub whole : (going.transfer.length ≡ 0) ⊎ ((address ≡ 0) ⊎ (size ≤ going.toggle.last))

-- No transaction goes the wrong way, where no other packet size is known, and none at address 0.
abbrev pub NotMisdirected : ℕ → Transaction → Pipes → Type 0
NotMisdirected size t pipes = NotEarly size t.to.address (λ known. is_misdirected known t pipes)

right_way : (size : ℕ) (t : Transaction) (P : Going → Type 0) (pipes : Pipes) → request_of t ≡ None → OpenAt t.to.address P pipes
    → ((going : Going) → P going → NotEarly size t.to.address (λ known. is_misdirected_in going.transfer going.toggle known t)) → NotMisdirected size t pipes
right_way size t P pipes no_request opens each =
    subst (λ r. NotEarly size t.to.address (λ known. is_misdirected_at r (open_with t.to.address pipes.held) known t pipes)) (sym no_request)
    (of (open_with t.to.address pipes.held) refl)
  where
    of : (o : Option ControlTransfer) → open_with t.to.address pipes.held ≡ o
        → NotEarly size t.to.address (λ known. is_misdirected_at None o known t pipes)
    of None e = λ known own none. refl
    of (Some transfer) e = each (record { transfer = transfer; toggle = toggle_at t.to.address pipes }) (opens transfer e)

-- ---- in the data stage

not_all : (m n : ℕ) → n < m → nat_le m n ≡ false
not_all m n more = grind (arith, nat_tests)

none_below : (n : ℕ) → n ≡ 0 → nat_lt 0 n ≡ false
none_below n none = grind (arith, nat_tests)

not_below : (m n : ℕ) → n ≤ m → nat_lt m n ≡ false
not_below m n few = grind (arith, nat_tests)

incomplete : (all reading some short : Bool) → all ≡ false → (some ≡ false) ⊎ (short ≡ false) → (all || (reading && some && short)) ≡ false
incomplete false false some short e either = refl
incomplete false true false short e either = refl
incomplete false true true false e either = refl
incomplete false true true true e (inl w) = absurd (let v : ⊥ = cc in v)
incomplete false true true true e (inr w) = absurd (let v : ⊥ = cc in v)
incomplete true reading some short e either = absurd (let v : ⊥ = cc in v)

not_short : (size address count last known : ℕ) → (count ≡ 0) ⊎ ((address ≡ 0) ⊎ (size ≤ last)) → (known ≡ 0) ⊎ (known ≡ size) → (address ≡ 0 → known ≡ 0)
    → (nat_lt 0 count ≡ false) ⊎ (nat_lt last known ≡ false)
not_short size address count last known (inl none) own zero = inl (none_below count none)
not_short size address count last known (inr (inl first)) own zero = inr (not_below last known (omega (arith, zero first)))
not_short size address count last known (inr (inr whole)) (inl none) zero = inr (not_below last known (omega (arith, none)))
not_short size address count last known (inr (inr whole)) (inr own) zero = inr (not_below last known (omega (arith, own, whole)))

pub data_right : (size : ℕ) (t : Transaction) (P : Going → Type 0) (pipes : Pipes) → request_of t ≡ None → OpenAt t.to.address P pipes
    → ((going : Going) → P going → Lacks size t.to.address going) → NotMisdirected size t pipes
data_right size t P pipes no_request opens lacks = right_way size t P pipes no_request opens (λ going holds known own zero.
    let l = lacks going holds in
    let setup = going.transfer.setup in
    ap (λ c. c && is_data_part (part_in (data_direction setup) going.toggle t))
    (incomplete (nat_le setup.length going.transfer.length) (is_reading_data (data_direction setup)) (nat_lt 0 going.transfer.length)
    (nat_lt going.toggle.last known) (not_all setup.length going.transfer.length l.more)
    (not_short size t.to.address going.transfer.length going.toggle.last known l.whole own zero)))

-- ---- in the status stage

and_false : (c : Bool) → (c && false) ≡ false
and_false true = refl
and_false false = refl

-- No packet of these is one of the data stage.
pub status_right : (size : ℕ) (t : Transaction) (way : Direction) (P : Going → Type 0) (pipes : Pipes) → request_of t ≡ None → OpenAt t.to.address P pipes
    → ((going : Going) → P going → Goes way going) → ((toggle : DataToggle) → is_data_part (part_in way toggle t) ≡ false) → NotMisdirected size t pipes
status_right size t way P pipes no_request opens ways other = right_way size t P pipes no_request opens (λ going holds known own zero.
    ap (λ c. is_complete_in going.transfer going.toggle known && c)
    (ap (λ w. is_data_part (part_in w going.toggle t)) (ways going holds) ∙ other going.toggle)
    ∙ and_false (is_complete_in going.transfer going.toggle known))

module _ (number : ℕ) (time : Option ℕ) (address : ℕ) (toggle : DataToggle) where
  pub status_in_other : (lost : Bool) (came : Reply) → is_data_part (part_in directions.Out toggle (received_in number time address InToken lost came)) ≡ false
  status_in_other lost AckReply = refl
  status_in_other lost NakReply = refl
  status_in_other lost StallReply = refl
  status_in_other lost NoReply = refl
  status_in_other true (DataReply Data0 bytes) = refl
  status_in_other true (DataReply Data1 bytes) = refl
  status_in_other false (DataReply Data0 bytes) = refl
  status_in_other false (DataReply Data1 bytes) = refl

  pub status_out_other : (lost : Bool) (came : Reply)
      → is_data_part (part_in directions.In toggle (received_in number time address (OutToken Data1 []) lost came)) ≡ false
  status_out_other lost AckReply = refl
  status_out_other lost NakReply = refl
  status_out_other lost StallReply = refl
  status_out_other lost NoReply = refl
  status_out_other true (DataReply came_toggle bytes) = refl
  status_out_other false (DataReply came_toggle bytes) = refl
