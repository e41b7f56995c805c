-- A transaction in the transfer that is open: its toggle isn't wrong, what is over with it says no other packet size, and this is open
-- then.
use Rattle.std.proofs.Common.{◌≡◌, ◌⊎◌, inl, inr, ◌==◌, ◌&&◌, ◌<◌, ◌≤◌, ◌+◌, min, nat_le, nat_lt, ℕ, Bool, true, false, not, if◌then◌else◌, List, [], ◌++◌, length, refl, sym, ◌∙◌, ap, subst, arith, length-append}
use Rattle.std.specs.Prelude.{Option, Some, None}
use Rattle.std.proofs.lemmas.Bool.Decides.{nat_tests}
use Rattle.usb_wire.specs.declared.pid.Handshake.TheVariants as handshakes
use Rattle.usb_wire.specs.declared.pid.TokenKind.TheVariants as tokens
use Rattle.usb_fields.specs.declared.packet.Toggle.{Toggle}
use Rattle.usb_fields.specs.declared.packet.Toggle.TheVariants.{Data0, Data1}
use Rattle.usb_fields.specs.declared.setup.Direction.{Direction}
use Rattle.usb_fields.specs.declared.setup.Direction.TheVariants as directions
use Rattle.usb_fields.specs.declared.setup.Setup.{Setup}
use Rattle.usb_fields.specs.Packets.{AckReply, DataReply, InToken, NakReply, NoReply, OutToken, Reply, SetupToken, StallReply, Token, flipped}
use Rattle.usb_fields.specs.Setup.{setup_bytes}
use Rattle.usb_bus.specs.Wire.{data_kind, token_kind}
use Rattle.usb_capture.specs.declared.control_transfer.ControlTransfer.{ControlTransfer}
use Rattle.usb_capture.specs.declared.ending.Ending.TheVariants as endings
use Rattle.usb_capture.specs.declared.ending.Ending.TheVariants.{Unseen}
use Rattle.usb_capture.specs.declared.transaction.Transaction.{Transaction}
use Rattle.usb_capture.specs.BusTransfers.{Going, Pipes, begun_by, closed, data_direction, ended_so, first_toggle, has_toggle, is_acknowledged, is_wrong_in, over_by, over_with_part, part_by, part_in, pipes_after, pipes_with, request_of, toggle_after, toggle_at, transfer_over, with_bytes}
use Rattle.usb_capture.specs.Events.{setup_at}
use Rattle.usb_capture.specs.PacketFindings.{has_wrong_toggle, is_done_part, is_early, is_early_at, is_reading_data, is_wrong_at}
use Rattle.usb_capture.specs.Transfers.{open_with}
use Rattle.usb_recorded_runs.specs.Exchanges.{data_received, handshake_received}
use Rattle.usb_recorded_runs.proofs.PipeLemmas.{Holds, IsUnended, OpenAt, Sound, again, begins_at, ended_at, found_unseen, goes_at}
use Rattle.usb_recorded_runs.proofs.SizeLemmas.{IfOver}

abbrev pub Goes : Direction → Going → Type 0
Goes direction going = data_direction going.transfer.setup ≡ direction

-- ---- transactions

-- a transaction in which this answer came
abbrev pub received_in : ℕ → Option ℕ → ℕ → Token → Bool → Reply → Transaction
received_in number time address token lost came = record {
  number = number;
  time = time;
  token = token_kind token;
  to = record { address = address; endpoint = 0 };
  «data» = data_received token came;
  handshake = handshake_received lost came;
}

abbrev pub IsNoData : Reply → Type 0
IsNoData (DataReply toggle bytes) = ⊥
IsNoData reply = Unit {0}

either_setup : (setup : Setup) (c : Bool) (x y : ControlTransfer) → x.setup ≡ setup → y.setup ≡ setup → (if c then x else y).setup ≡ setup
either_setup setup true x y p q = p
either_setup setup false x y p q = q

pub bytes_keep : (bytes : List ℕ) (transfer : ControlTransfer) → (with_bytes bytes transfer).setup ≡ transfer.setup
bytes_keep bytes transfer = either_setup transfer.setup (nat_le (length transfer.data + length bytes) 65535) _ _ refl refl

pub bytes_cases : (bytes : List ℕ) (transfer : ControlTransfer) → ((with_bytes bytes transfer).is_cut ≡ true) ⊎ ((with_bytes bytes transfer).data ≡ transfer.data ++ bytes)
bytes_cases bytes transfer = of (nat_le (length transfer.data + length bytes) 65535)
  where
    Cut : ControlTransfer → Type 0
    Cut new = (new.is_cut ≡ true) ⊎ (new.data ≡ transfer.data ++ bytes)

    counted : ControlTransfer
    counted = record transfer { length = min (transfer.length + length bytes) 4294967295 }

    of : (c : Bool) → Cut (if c then record counted { «data» = transfer.data ++ bytes } else record counted { is_cut = true })
    of true = inr refl
    of false = inl refl

pub bytes_count : (bytes : List ℕ) (transfer : ControlTransfer) → (with_bytes bytes transfer).length ≤ transfer.length + length bytes
bytes_count bytes transfer = of (nat_le (length transfer.data + length bytes) 65535)
  where
    counted : ControlTransfer
    counted = record transfer { length = min (transfer.length + length bytes) 4294967295 }

    of : (c : Bool) → (if c then record counted { «data» = transfer.data ++ bytes } else record counted { is_cut = true }).length ≤ transfer.length + length bytes
    of true = omega arith
    of false = omega arith

pub bytes_total : (bytes : List ℕ) (transfer : ControlTransfer) → transfer.length + length bytes ≤ 65535 → (with_bytes bytes transfer).length ≡ transfer.length + length bytes
bytes_total bytes transfer few = of (nat_le (length transfer.data + length bytes) 65535)
  where
    counted : ControlTransfer
    counted = record transfer { length = min (transfer.length + length bytes) 4294967295 }

    of : (c : Bool) → (if c then record counted { «data» = transfer.data ++ bytes } else record counted { is_cut = true }).length ≡ transfer.length + length bytes
    of true = omega (arith, few)
    of false = omega (arith, few)

pub bytes_cut : (bytes : List ℕ) (transfer : ControlTransfer) → transfer.is_cut ≡ true → (with_bytes bytes transfer).is_cut ≡ true
bytes_cut bytes transfer cut = of (nat_le (length transfer.data + length bytes) 65535)
  where
    counted : ControlTransfer
    counted = record transfer { length = min (transfer.length + length bytes) 4294967295 }

    of : (c : Bool) → (if c then record counted { «data» = transfer.data ++ bytes } else record counted { is_cut = true }).is_cut ≡ true
    of true = cut
    of false = refl

-- A transfer that goes on stays one of its address, and has so many bytes as it counts.
bytes_unended : (address : ℕ) (bytes : List ℕ) (transfer : ControlTransfer) → IsUnended address transfer → IsUnended address (with_bytes bytes transfer)
bytes_unended address bytes transfer is = of (nat_le (length transfer.data + length bytes) 65535) refl
  where
    counted : ControlTransfer
    counted = record transfer { length = min (transfer.length + length bytes) 4294967295 }

    fits : nat_le (length transfer.data + length bytes) 65535 ≡ true → length transfer.data + length bytes ≤ 65535
    fits e = grind (arith, nat_tests)

    all_so : length transfer.data + length bytes ≤ 65535 → (transfer.is_cut ≡ true) ⊎ (transfer.length ≡ length transfer.data)
        → (transfer.is_cut ≡ true) ⊎ (min (transfer.length + length bytes) 4294967295 ≡ length (transfer.data ++ bytes))
    all_so low (inl cut) = inl cut
    all_so low (inr same) = inr (omega (arith, low, same, length-append transfer.data bytes))

    of : (c : Bool) → nat_le (length transfer.data + length bytes) 65535 ≡ c
        → IsUnended address (if c then record counted { «data» = transfer.data ++ bytes } else record counted { is_cut = true })
    of true e = record {
      unseen = is.unseen;
      own = record {
        device_is = is.own.device_is;
        low = omega (arith, fits e, length-append transfer.data bytes);
        few = omega (arith, fits e, is.own.few, length-append transfer.data bytes);
        all = all_so (fits e) is.own.all;
      };
    }
    of false e = record {
      unseen = is.unseen;
      own = record { device_is = is.own.device_is; low = is.own.low; few = omega (arith, is.own.low, is.own.few); all = inl refl };
    }

-- whether a packet may come again whose ACK was lost or not
abbrev pub may_again : Bool → Bool
may_again lost = not (is_acknowledged (if lost then None else Some handshakes.Ack))

-- the next packet of the data stage, and one that came again
abbrev pub with_next : List ℕ → Bool → Going → Going
with_next bytes lost going = record {
  transfer = with_bytes bytes going.transfer;
  toggle = record { next = flipped going.toggle.next; may_repeat = may_again lost; last = length bytes };
}

abbrev pub with_again : Bool → Going → Going
with_again lost going = record {
  transfer = going.transfer;
  toggle = record { next = going.toggle.next; may_repeat = may_again lost; last = going.toggle.last };
}

-- No status stage is early, where no other packet size is known, and none at address 0.
abbrev pub NotEarly : ℕ → ℕ → (ℕ → Bool) → Type 0
NotEarly size address early = (known : ℕ) → (known ≡ 0) ⊎ (known ≡ size) → (address ≡ 0 → known ≡ 0) → early known ≡ false

-- This is known of what is over.
abbrev pub Right : ℕ → (ControlTransfer → Type 0) → Transaction → (Going → Type 0) → Pipes → Type 0
Right size Over t Q pipes =
    (has_wrong_toggle t pipes ≡ false) × IfOver Over (transfer_over t pipes) × NotEarly size t.to.address (λ known. is_early known t pipes)
    × Holds t.to.address Q (pipes_after t pipes)

-- the same of transfers whose data go this way
abbrev pub early_way : Transaction → Direction → Going → ℕ → Bool
early_way t way going known =
    is_reading_data way && nat_lt going.transfer.length going.transfer.setup.length && not (known == 0) && nat_le known going.toggle.last
    && is_done_part (part_in way going.toggle t)

abbrev pub RightWay : ℕ → (ControlTransfer → Type 0) → Transaction → (Going → Type 0) → Pipes → Direction → Going → Type 0
RightWay size Over t Q pipes way going =
    let part = part_in way going.toggle t in
    (is_wrong_in way going.toggle t ≡ false) × IfOver Over (over_with_part part t going.transfer) × NotEarly size t.to.address (early_way t way going)
    × Holds t.to.address Q (pipes_with part t going.transfer (toggle_after part t going.toggle) (closed t.to.address pipes))

abbrev RightIn : ℕ → (ControlTransfer → Type 0) → Transaction → (Going → Type 0) → Pipes → Going → Type 0
RightIn size Over t Q pipes going = RightWay size Over t Q pipes (data_direction going.transfer.setup) going

-- a part that ends no transfer
pub never_early : (a b c d : Bool) → (a && b && c && d && false) ≡ false
never_early false b c d = refl
never_early true false c d = refl
never_early true true false d = refl
never_early true true true false = refl
never_early true true true true = refl

not_done : (way : Direction) (going : Going) (known : ℕ)
    → (is_reading_data way && nat_lt going.transfer.length going.transfer.setup.length && not (known == 0) && nat_le known going.toggle.last && false) ≡ false
not_done way going known =
    never_early (is_reading_data way) (nat_lt going.transfer.length going.transfer.setup.length) (not (known == 0)) (nat_le known going.toggle.last)

-- where all came, or a shorter packet last
abbrev pub EndsWhole : ℕ → ℕ → Going → Type 0
EndsWhole size address going = (address ≡ 0) ⊎ ((going.toggle.last < size) ⊎ (going.transfer.setup.length ≤ going.transfer.length))

pub right_at : (size : ℕ) (Over : ControlTransfer → Type 0) (t : Transaction) (P Q : Going → Type 0) (pipes : Pipes) → Sound pipes → request_of t ≡ None → OpenAt t.to.address P pipes
    → ((going : Going) → IsUnended t.to.address going.transfer → P going → RightIn size Over t Q pipes going) → Right size Over t Q pipes
right_at size Over t P Q pipes sound no_request opens each = (
  ap (λ r. is_wrong_at r (open_with t.to.address pipes.held) t pipes) no_request ∙ of (open_with t.to.address pipes.held) refl,
  subst (λ r. IfOver Over (over_by r (open_with t.to.address pipes.held) t pipes)) (sym no_request) (over (open_with t.to.address pipes.held) refl),
  subst (λ r. NotEarly size t.to.address (λ known. is_early_at r (open_with t.to.address pipes.held) known t pipes)) (sym no_request) (early (open_with t.to.address pipes.held) refl),
  goes_at t P Q pipes sound no_request opens (λ going unended holds. (each going unended holds).3),
)
  where
    early : (o : Option ControlTransfer) → open_with t.to.address pipes.held ≡ o → NotEarly size t.to.address (λ known. is_early_at None o known t pipes)
    early None e = λ known own none. refl
    early (Some transfer) e =
        (each (record { transfer = transfer; toggle = toggle_at t.to.address pipes }) (found_unseen t.to.address pipes.held transfer sound.unseen e) (opens transfer e)).2

    of : (o : Option ControlTransfer) → open_with t.to.address pipes.held ≡ o → is_wrong_at None o t pipes ≡ false
    of None e = refl
    of (Some transfer) e =
        (each (record { transfer = transfer; toggle = toggle_at t.to.address pipes }) (found_unseen t.to.address pipes.held transfer sound.unseen e) (opens transfer e)).0

    over : (o : Option ControlTransfer) → open_with t.to.address pipes.held ≡ o → IfOver Over (over_by None o t pipes)
    over None e = tt
    over (Some transfer) e =
        (each (record { transfer = transfer; toggle = toggle_at t.to.address pipes }) (found_unseen t.to.address pipes.held transfer sound.unseen e) (opens transfer e)).1

right_way : (size : ℕ) (Over : ControlTransfer → Type 0) (t : Transaction) (P Q : Going → Type 0) (pipes : Pipes) (way : Direction) → Sound pipes → request_of t ≡ None → OpenAt t.to.address P pipes
    → ((going : Going) → P going → Goes way going) → ((going : Going) → IsUnended t.to.address going.transfer → P going → RightWay size Over t Q pipes way going)
    → Right size Over t Q pipes
right_way size Over t P Q pipes way sound no_request opens ways each =
    right_at size Over t P Q pipes sound no_request opens (λ going unended holds. subst (λ w. RightWay size Over t Q pipes w going) (sym (ways going holds)) (each going unended holds))

module _ (size : ℕ) (Over : ControlTransfer → Type 0) (number : ℕ) (time : Option ℕ) (address : ℕ) (small : address < 256) (pipes : Pipes) (sound : Sound pipes) where
  abbrev received_here : Token → Bool → Reply → Transaction
  received_here token lost came = received_in number time address token lost came

  -- an IN without data
  pub quiet_in : (P Q : Going → Type 0) (lost : Bool) (came : Reply) → IsNoData came → OpenAt address P pipes
      → ((t : Transaction) (going : Going) → P going → came ≡ StallReply → Over (ended_so t endings.Stall going.transfer))
      → ((going : Going) → P going → Q going) → Right size Over (received_here InToken lost came) Q pipes
  quiet_in P Q lost AckReply none opens stalls keeps = right_at size Over (received_here InToken lost AckReply) P Q pipes sound refl opens (λ going unended holds. (refl, tt, (λ known own none. not_done (data_direction going.transfer.setup) going known), again address going Q pipes small sound unended (keeps going holds)))
  quiet_in P Q lost NakReply none opens stalls keeps = right_at size Over (received_here InToken lost NakReply) P Q pipes sound refl opens (λ going unended holds. (refl, tt, (λ known own none. not_done (data_direction going.transfer.setup) going known), again address going Q pipes small sound unended (keeps going holds)))
  quiet_in P Q lost StallReply none opens stalls keeps = right_at size Over (received_here InToken lost StallReply) P Q pipes sound refl opens (λ going unended holds. (refl, stalls (received_here InToken lost StallReply) going holds refl, (λ known own none. not_done (data_direction going.transfer.setup) going known), ended_at address going Q pipes sound))
  quiet_in P Q lost NoReply none opens stalls keeps = right_at size Over (received_here InToken lost NoReply) P Q pipes sound refl opens (λ going unended holds. (refl, tt, (λ known own none. not_done (data_direction going.transfer.setup) going known), again address going Q pipes small sound unended (keeps going holds)))
  quiet_in P Q lost (DataReply toggle bytes) none opens stalls keeps = absurd none

  -- an IN with a packet of the data stage, which is the next one or came again
  module _ (toggle : Toggle) (bytes : List ℕ) (P Q : Going → Type 0) (opens : OpenAt address P pipes) (ways : (going : Going) → P going → Goes directions.In going)
      (known : (going : Going) → P going → (toggle ≡ going.toggle.next) ⊎ (going.toggle.may_repeat ≡ true)) where
    not_wrong : (is_next may_repeat : Bool) → (is_next ≡ true) ⊎ (may_repeat ≡ true) → (not is_next && not may_repeat) ≡ false
    not_wrong true may_repeat either = refl
    not_wrong false true either = refl
    not_wrong false false (inl e) = absurd (let w : ⊥ = cc in w)
    not_wrong false false (inr e) = absurd (let w : ⊥ = cc in w)

    has_own : (toggle : Toggle) → has_toggle (data_kind toggle) toggle ≡ true
    has_own Data0 = refl
    has_own Data1 = refl

    is_right : (going : Going) → (toggle ≡ going.toggle.next) ⊎ (going.toggle.may_repeat ≡ true)
        → (not (has_toggle (data_kind toggle) going.toggle.next) && not going.toggle.may_repeat) ≡ false
    is_right going (inl e) = not_wrong (has_toggle (data_kind toggle) going.toggle.next) going.toggle.may_repeat (inl (ap (has_toggle (data_kind toggle)) (sym e) ∙ has_own toggle))
    is_right going (inr e) = not_wrong (has_toggle (data_kind toggle) going.toggle.next) going.toggle.may_repeat (inr e)

    abbrev NextKnown : Bool → Type 0
    NextKnown lost =
        (going : Going) → P going → (has_toggle (data_kind toggle) going.toggle.next ≡ true → Q (with_next bytes lost going))
        × (has_toggle (data_kind toggle) going.toggle.next ≡ false → Q (with_again lost going))

    -- by whether it is the next one
    first_time : (going : Going) (is_next is_data1 : Bool) → IsUnended address going.transfer → (is_next ≡ true → Q (with_next bytes false going)) → (is_next ≡ false → Q (with_again false going))
        → (let t = received_here InToken false (DataReply toggle bytes) in let part = part_by directions.In tokens.In is_next is_data1 true in
        IfOver Over (over_with_part part t going.transfer) × NotEarly size address (λ known. is_reading_data directions.In
        && nat_lt going.transfer.length going.transfer.setup.length && not (known == 0) && nat_le known going.toggle.last && is_done_part part) × Holds address Q (pipes_with part t going.transfer (toggle_after part t going.toggle) (closed address pipes)))
    first_time going true is_data1 unended next other = (tt, (λ known own none. not_done directions.In going known), again address (with_next bytes false going) Q pipes small sound (bytes_unended address bytes going.transfer unended) (next refl))
    first_time going false is_data1 unended next other = (tt, (λ known own none. not_done directions.In going known), again address (with_again false going) Q pipes small sound unended (other refl))

    not_received : (going : Going) (is_next is_data1 : Bool) → IsUnended address going.transfer → (is_next ≡ true → Q (with_next bytes true going)) → (is_next ≡ false → Q (with_again true going))
        → (let t = received_here InToken true (DataReply toggle bytes) in let part = part_by directions.In tokens.In is_next is_data1 false in
        IfOver Over (over_with_part part t going.transfer) × NotEarly size address (λ known. is_reading_data directions.In
        && nat_lt going.transfer.length going.transfer.setup.length && not (known == 0) && nat_le known going.toggle.last && is_done_part part) × Holds address Q (pipes_with part t going.transfer (toggle_after part t going.toggle) (closed address pipes)))
    not_received going true is_data1 unended next other = (tt, (λ known own none. not_done directions.In going known), again address (with_next bytes true going) Q pipes small sound (bytes_unended address bytes going.transfer unended) (next refl))
    not_received going false is_data1 unended next other = (tt, (λ known own none. not_done directions.In going known), again address (with_again true going) Q pipes small sound unended (other refl))

    pub packet_in : (lost : Bool) → NextKnown lost → Right size Over (received_here InToken lost (DataReply toggle bytes)) Q pipes
    packet_in true each = right_way size Over (received_here InToken true (DataReply toggle bytes)) P Q pipes directions.In sound refl opens ways (λ going unended holds.
        let rest = not_received going (has_toggle (data_kind toggle) going.toggle.next) (has_toggle (data_kind toggle) Data1) unended (each going holds).0 (each going holds).1 in
        (is_right going (known going holds), rest.0, rest.1, rest.2))
    packet_in false each = right_way size Over (received_here InToken false (DataReply toggle bytes)) P Q pipes directions.In sound refl opens ways (λ going unended holds.
        let rest = first_time going (has_toggle (data_kind toggle) going.toggle.next) (has_toggle (data_kind toggle) Data1) unended (each going holds).0 (each going holds).1 in
        (is_right going (known going holds), rest.0, rest.1, rest.2))

  -- an IN with the packet of the status stage
  pub status_in : (P Q : Going → Type 0) (lost : Bool) (bytes : List ℕ) → OpenAt address P pipes → ((going : Going) → P going → Goes directions.Out going)
      → ((t : Transaction) (going : Going) → P going → Over (ended_so t endings.Done going.transfer)) → Right size Over (received_here InToken lost (DataReply Data1 bytes)) Q pipes
  status_in P Q true bytes opens ways ends =
      right_way size Over (received_here InToken true (DataReply Data1 bytes)) P Q pipes directions.Out sound refl opens ways
      (λ going unended holds. (refl, ends (received_here InToken true (DataReply Data1 bytes)) going holds, (λ known own none. refl), ended_at address (with_again true going) Q pipes sound))
  status_in P Q false bytes opens ways ends =
      right_way size Over (received_here InToken false (DataReply Data1 bytes)) P Q pipes directions.Out sound refl opens ways
      (λ going unended holds. (refl, ends (received_here InToken false (DataReply Data1 bytes)) going holds, (λ known own none. refl), ended_at address (with_again false going) Q pipes sound))

  -- the empty OUT of the status stage, which ends the transfer where it is accepted
  module _ (P Q : Going → Type 0) (opens : OpenAt address P pipes) (ways : (going : Going) → P going → Goes directions.In going)
      (ends : (t : Transaction) (going : Going) → P going → Over (ended_so t endings.Done going.transfer)) (whole : (going : Going) → P going → EndsWhole size address going) (stays : (going : Going) → P going → Q (with_again true going)) where
    whole_end : (going : Going) → EndsWhole size address going → (known : ℕ) → (known ≡ 0) ⊎ (known ≡ size) → (address ≡ 0 → known ≡ 0)
        → (nat_lt going.transfer.length going.transfer.setup.length && not (known == 0) && nat_le known going.toggle.last && true) ≡ false
    whole_end going whole known (inl none) at_zero = grind (arith, nat_tests)
    whole_end going (inl zero) known own at_zero = let none : known ≡ 0 = at_zero zero in grind (arith, nat_tests)
    whole_end going (inr (inl short)) known (inr own) at_zero = grind (arith, nat_tests)
    whole_end going (inr (inr all)) known (inr own) at_zero = grind (arith, nat_tests)

    pub status_out : (lost : Bool) (came : Reply) → ((t : Transaction) (going : Going) → P going → came ≡ StallReply → Over (ended_so t endings.Stall going.transfer))
        → Right size Over (received_here (OutToken Data1 []) lost came) Q pipes
    status_out lost AckReply stalls =
        right_way size Over (received_here (OutToken Data1 []) lost AckReply) P Q pipes directions.In sound refl opens ways
        (λ going unended holds. (refl, ends (received_here (OutToken Data1 []) lost AckReply) going holds, whole_end going (whole going holds), ended_at address (with_again false going) Q pipes sound))
    status_out lost NakReply stalls =
        right_way size Over (received_here (OutToken Data1 []) lost NakReply) P Q pipes directions.In sound refl opens ways
        (λ going unended holds. (refl, tt, (λ known own none. not_done directions.In going known), again address (with_again true going) Q pipes small sound unended (stays going holds)))
    status_out lost StallReply stalls =
        right_way size Over (received_here (OutToken Data1 []) lost StallReply) P Q pipes directions.In sound refl opens ways
        (λ going unended holds. (refl, stalls (received_here (OutToken Data1 []) lost StallReply) going holds refl, (λ known own none. not_done directions.In going known), ended_at address (with_again true going) Q pipes sound))
    status_out lost NoReply stalls =
        right_way size Over (received_here (OutToken Data1 []) lost NoReply) P Q pipes directions.In sound refl opens ways
        (λ going unended holds. (refl, tt, (λ known own none. not_done directions.In going known), again address (with_again true going) Q pipes small sound unended (stays going holds)))
    status_out true (DataReply toggle bytes) stalls =
        right_way size Over (received_here (OutToken Data1 []) true (DataReply toggle bytes)) P Q pipes directions.In sound refl opens ways
        (λ going unended holds. (refl, tt, (λ known own none. not_done directions.In going known), again address (with_again true going) Q pipes small sound unended (stays going holds)))
    status_out false (DataReply toggle bytes) stalls =
        right_way size Over (received_here (OutToken Data1 []) false (DataReply toggle bytes)) P Q pipes directions.In sound refl opens ways
        (λ going unended holds. (refl, ends (received_here (OutToken Data1 []) false (DataReply toggle bytes)) going holds, whole_end going (whole going holds), ended_at address (with_again false going) Q pipes sound))

  -- a SETUP with its request
  pub setup_right : (q : Setup) (lost : Bool) (came : Reply) (Q : Going → Type 0) → ((transfer : ControlTransfer) → transfer.ending ≡ Unseen → Over transfer)
      → Q (record { transfer = begun_by (received_here (SetupToken (setup_bytes q)) lost came) (setup_at (setup_bytes q) 0); toggle = first_toggle })
      → Right size Over (received_here (SetupToken (setup_bytes q)) lost came) Q pipes
  setup_right q lost came Q unseen holds = (
    refl,
    over (open_with address pipes.held) refl,
    λ known own none. refl,
    begins_at (received_here (SetupToken (setup_bytes q)) lost came) (setup_at (setup_bytes q) 0) Q pipes small sound refl holds,
  )
    where
      over : (o : Option ControlTransfer) → open_with address pipes.held ≡ o → IfOver Over o
      over None e = tt
      over (Some transfer) e = unseen transfer (found_unseen address pipes.held transfer sound.unseen e).unseen
