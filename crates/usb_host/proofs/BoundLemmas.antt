-- Each reply leaves fewer transactions.
use Rattle.std.proofs.Common.{◌≡◌, ℕ, zero, suc, ◌+◌, ◌-◌, ◌*◌, ◌/◌, ◌<◌, ◌≤◌, ◌==◌, ◌||◌, nat_lt, min, Bool, true, false, if◌then◌else◌, IsSome, List, [], ◌∷◌, length, refl, sym, arith, inl, inr}
use Rattle.std.proofs.lemmas.Bool.Decides.{nat_tests, leb_tells, eqb_tells}
use Rattle.std.proofs.Math.Nat.{mul-le-mul_right, add-div_right, div-le_self, min-le_right}
use Rattle.usb_fields.specs.Packets.{Reply, AckReply, NakReply, StallReply, DataReply, NoReply, is_same_toggle}
use Rattle.usb_fields.specs.Setup.{direction_of}
use Rattle.usb_fields.specs.declared.packet.Toggle.{Toggle}
use Rattle.usb_fields.specs.declared.packet.Toggle.TheVariants.{Data0, Data1}
use Rattle.usb_fields.specs.declared.setup.Setup.{Setup as SetupPacket}
use Rattle.usb_fields.specs.declared.setup.Direction.{Direction}
use Rattle.usb_fields.specs.declared.setup.Direction.TheVariants as directions
use Rattle.usb_host.specs.declared.why.Why.{Why}
use Rattle.usb_host.specs.declared.why.Why.TheVariants.{NoAnswer, Busy, Stalled, TooLong, Unexpected}
use Rattle.usb_host.specs.declared.transfer.TransferStage.{TransferStage}
use Rattle.usb_host.specs.declared.transfer.TransferStage.TheVariants.{Setup, DataIn, DataOut, StatusOut, StatusIn, Completed, Failed}
use Rattle.usb_host.specs.Write.{acknowledged, packet_length}
use Rattle.usb_host.specs.Transfer.{IsTransfer, TransferView, begun, addressed, token_due, due, taken, taken_at, taken_data, taken_status, moved, completed, failed, struck, delayed, kept_packet, stage_after_setup, data_stage, left, steps, steps_left, most_transactions}

-- while steps of progress are left, transactions are
some_left : (s n k b : ℕ) → 0 < s → k ≤ 2 → b ≤ n → k + b < s * (n + 3)
some_left zero n k b some few fewer = absurd (omega arith)
some_left (suc s) n k b some few fewer =
    let first : suc s * (n + 3) ≡ (n + 3) + s * (n + 3) = grind arith in
    omega arith

-- a step of progress is worth more than all that was counted since the last one
fewer_steps : (s z n k b : ℕ) → z < s → k ≤ 2 → b ≤ n → z * (n + 3) + (k + b) < s * (n + 3)
fewer_steps zero z n k b fewer few some = absurd (omega arith)
fewer_steps (suc s) z n k b fewer few some =
    let first : suc s * (n + 3) ≡ (n + 3) + s * (n + 3) = grind arith in
    let at_most : z ≤ s = omega arith in
    let product : z * (n + 3) ≤ s * (n + 3) = mul-le-mul_right (n + 3) at_most in
    omega arith

-- progress
left-progress : (t u : TransferView) → IsTransfer t → u.naks ≡ t.naks → u.strikes ≡ 0 → u.nak_count ≡ 0 → steps u < steps t → left u < left t
unfolding left
left-progress t u is naks none free fewer =
    let step = fewer_steps (steps t) (steps u) t.naks t.strikes t.nak_count fewer is.strikes is.nak_count in
    rw (naks, none, free) (omega (arith, step))

-- the end
left-failed : (t : TransferView) (why : Why) → IsTransfer t → 0 < steps t → left (failed t why).transfer < left t
unfolding left
left-failed t why is some =
    let room = some_left (steps t) t.naks t.strikes t.nak_count some is.strikes is.nak_count in omega (arith, room)

-- one more strike or NAK
left-counted : (t u : TransferView) → IsTransfer t → u.naks ≡ t.naks → steps u ≡ steps t → u.strikes + u.nak_count ≡ t.strikes + t.nak_count + 1 → 0 < steps t → left u < left t
unfolding left
left-counted t u is naks same more some =
    let room = some_left (steps t) t.naks t.strikes t.nak_count some is.strikes is.nak_count in
    rw (same, naks, more) (omega (arith, room))

left-struck : (t : TransferView) → IsTransfer t → 0 < steps t → left (struck t).transfer < left t
left-struck t is some =
    elim (leb_tells (suc t.strikes) 2) [
      | inl below ↦ rw below.0 (left-counted t (record t { strikes = suc t.strikes }) is refl refl (omega arith) some)
      | inr full ↦ rw full.0 (left-failed t NoAnswer is some)
    ]

left-delayed : (t : TransferView) → IsTransfer t → 0 < steps t → left (delayed t).transfer < left t
left-delayed t is some =
    elim (leb_tells (suc t.nak_count) t.naks) [
      | inl below ↦ rw below.0 (left-counted t (record t { nak_count = suc t.nak_count }) is refl refl (omega arith) some)
      | inr full ↦ rw full.0 (left-failed t Busy is some)
    ]

steps-data_stage : (bytes packet : ℕ) (d : Direction) → steps_left bytes packet (data_stage d) < bytes / packet + 3
steps-data_stage bytes packet directions.In = omega arith
steps-data_stage bytes packet directions.Out = omega arith

-- the setup packet leads on
steps-setup : (bytes packet : ℕ) (q : SetupPacket) → steps_left bytes packet (stage_after_setup q) < bytes / packet + 3
steps-setup bytes packet q =
    elim (eqb_tells q.length 0) [
      | inl none ↦ rw none.0 (omega arith)
      | inr some ↦ rw some.0 (steps-data_stage bytes packet (direction_of q.request_type))
    ]

-- a whole packet takes a step
div-packet : (l c n : ℕ) → 0 < n → c + n ≤ l → (l - (c + n)) / n + 1 ≡ (l - c) / n
div-packet l c n some fits =
    let whole : l - c ≡ l - (c + n) + n = omega arith in
    rw whole (sym (add-div_right (l - (c + n)) some))

steps-packet_by : (l c p n : ℕ) (ends : Bool) → nat_lt n p || (c + n == l) ≡ ends → 0 < p → n ≤ p → c + n ≤ l →
    steps_left (l - (c + n)) p (if ends then StatusOut else DataIn) < (l - c) / p + 2
steps-packet_by l c p n true e some whole fits = omega arith
steps-packet_by l c p n false e some whole fits =
    let same : n ≡ p = grind (arith, nat_tests) in
    let step : (l - (c + p)) / p + 1 ≡ (l - c) / p = div-packet l c p some (rw (← same) fits) in
    rw same (omega (arith, step))

left-kept : (t : TransferView) (bytes : List ℕ) → IsTransfer t → t.stage ≡ DataIn → length bytes ≤ t.packet → t.kept + length bytes ≤ t.request.length → left (kept_packet t bytes).transfer < left t
left-kept t bytes is at whole fits =
    let fewer : steps (kept_packet t bytes).transfer < steps t =
    rw at (steps-packet_by t.request.length t.kept t.packet (length bytes) (nat_lt (length bytes) t.packet || (t.kept + length bytes == t.request.length)) refl is.packet whole fits)
    in
    left-progress t (kept_packet t bytes).transfer is refl refl refl fewer

left-taken_data_by : (t : TransferView) (toggle : Toggle) (bytes : List ℕ) (long same past : Bool) →
    nat_lt t.packet (length bytes) ≡ long → is_same_toggle toggle t.awaited ≡ same → nat_lt t.request.length (t.kept + length bytes) ≡ past →
    IsTransfer t → t.stage ≡ DataIn → 0 < steps t →
    left (if long then failed t TooLong else (if same then (if past then failed t TooLong else kept_packet t bytes) else struck t)).transfer < left t
left-taken_data_by t toggle bytes true same past l s p is at some = left-failed t TooLong is some
left-taken_data_by t toggle bytes false false past l s p is at some = left-struck t is some
left-taken_data_by t toggle bytes false true true l s p is at some = left-failed t TooLong is some
left-taken_data_by t toggle bytes false true false l s p is at some =
    let whole : length bytes ≤ t.packet = grind (arith, nat_tests) in
    let fits : t.kept + length bytes ≤ t.request.length = grind (arith, nat_tests) in
    left-kept t bytes is at whole fits

left-taken_data : (t : TransferView) (toggle : Toggle) (bytes : List ℕ) → IsTransfer t → t.stage ≡ DataIn → 0 < steps t → left (taken_data t toggle bytes).transfer < left t
left-taken_data t toggle bytes is at some = left-taken_data_by t toggle bytes (nat_lt t.packet (length bytes)) (is_same_toggle toggle t.awaited) (nat_lt t.request.length (t.kept + length bytes)) refl refl refl is at some

left-taken_status : (t : TransferView) (toggle : Toggle) (bytes : List ℕ) → IsTransfer t → 0 < steps t → left (taken_status t toggle bytes).transfer < left t
left-taken_status t toggle (byte ∷ bytes) is some = left-failed t TooLong is some
left-taken_status t Data0 [] is some = left-struck t is some
left-taken_status t Data1 [] is some = left-progress t (completed t).transfer is refl refl refl some

-- a whole packet to the device takes a step, and the last one the rest
steps-sent_by : (l c p n : ℕ) (ends : Bool) → (c + n == l) ≡ ends → 0 < p → n ≡ min p (l - c) → c ≤ l →
    steps_left (l - (c + n)) p (if ends then StatusIn else DataOut) < (l - c) / p + 2
steps-sent_by l c p n true e some is within = omega arith
steps-sent_by l c p n false e some is within =
    let most : n ≤ l - c = rw is (min-le_right p (l - c)) in
    let fewer : c + n < l = grind (arith, nat_tests) in
    let same : n ≡ p = omega (arith, is, fewer) in
    let step : (l - (c + p)) / p + 1 ≡ (l - c) / p = div-packet l c p some (omega (arith, same, fewer)) in
    rw same (omega (arith, step))

pub left-sent : (t : TransferView) → IsTransfer t → t.stage ≡ DataOut → left (acknowledged t).transfer < left t
left-sent t is at =
    let fewer : steps (acknowledged t).transfer < steps t =
    rw at (steps-sent_by t.request.length t.kept t.packet (packet_length t) (t.kept + packet_length t == t.request.length) refl is.packet refl is.kept)
    in
    left-progress t (acknowledged t).transfer is refl refl refl fewer

left-taken_at : (t : TransferView) (stage : TransferStage) (r : Reply) → t.stage ≡ stage → IsTransfer t → 0 < steps_left (t.request.length - t.kept) t.packet stage → left (taken_at t stage r).transfer < left t
left-taken_at t Setup AckReply at is some =
    left-progress t (moved t (stage_after_setup t.request)).transfer is refl refl refl (rw at (steps-setup (t.request.length - t.kept) t.packet t.request))
left-taken_at t Setup NakReply at is some = left-failed t Unexpected is (rw at some)
left-taken_at t Setup StallReply at is some = left-failed t Unexpected is (rw at some)
left-taken_at t Setup (DataReply toggle bytes) at is some = left-failed t Unexpected is (rw at some)
left-taken_at t Setup NoReply at is some = left-struck t is (rw at some)
left-taken_at t DataIn AckReply at is some = left-failed t Unexpected is (rw at some)
left-taken_at t DataIn NakReply at is some = left-delayed t is (rw at some)
left-taken_at t DataIn StallReply at is some = left-failed t Stalled is (rw at some)
left-taken_at t DataIn (DataReply toggle bytes) at is some = left-taken_data t toggle bytes is at (rw at some)
left-taken_at t DataIn NoReply at is some = left-struck t is (rw at some)
left-taken_at t DataOut AckReply at is some = left-failed t Unexpected is (rw at some)
left-taken_at t DataOut NakReply at is some = left-delayed t is (rw at some)
left-taken_at t DataOut StallReply at is some = left-failed t Stalled is (rw at some)
left-taken_at t DataOut (DataReply toggle bytes) at is some = left-failed t Unexpected is (rw at some)
left-taken_at t DataOut NoReply at is some = left-struck t is (rw at some)
left-taken_at t StatusOut AckReply at is some = left-progress t (completed t).transfer is refl refl refl (rw at some)
left-taken_at t StatusOut NakReply at is some = left-delayed t is (rw at some)
left-taken_at t StatusOut StallReply at is some = left-failed t Stalled is (rw at some)
left-taken_at t StatusOut (DataReply toggle bytes) at is some = left-failed t Unexpected is (rw at some)
left-taken_at t StatusOut NoReply at is some = left-struck t is (rw at some)
left-taken_at t StatusIn AckReply at is some = left-failed t Unexpected is (rw at some)
left-taken_at t StatusIn NakReply at is some = left-delayed t is (rw at some)
left-taken_at t StatusIn StallReply at is some = left-failed t Stalled is (rw at some)
left-taken_at t StatusIn (DataReply toggle bytes) at is some = left-taken_status t toggle bytes is (rw at some)
left-taken_at t StatusIn NoReply at is some = left-struck t is (rw at some)
left-taken_at t Completed r at is some = absurd (omega arith)
left-taken_at t (Failed why) r at is some = absurd (omega arith)

-- a transfer that asks has steps left
steps_left-due : (bytes packet address : ℕ) (t : TransferView) (stage : TransferStage) → IsSome (addressed address (token_due t [] stage)) → 0 < steps_left bytes packet stage
steps_left-due bytes packet address t Setup asks = omega arith
steps_left-due bytes packet address t DataIn asks = omega arith
steps_left-due bytes packet address t DataOut asks = omega arith
steps_left-due bytes packet address t StatusOut asks = omega arith
steps_left-due bytes packet address t StatusIn asks = omega arith
steps_left-due bytes packet address t Completed asks = cc
steps_left-due bytes packet address t (Failed why) asks = cc

pub left-taken : (t : TransferView) (r : Reply) → IsTransfer t → IsSome (due t) → left (taken t r).transfer < left t
left-taken t r is asks =
    left-taken_at t t.stage r refl is (steps_left-due (t.request.length - t.kept) t.packet t.address t t.stage asks)

pub left-begun : (address packet naks : ℕ) (q : SetupPacket) → left (begun address packet naks q) ≤ most_transactions packet naks q
unfolding left
left-begun address packet naks q =
    let whole : q.length - 0 ≡ q.length = omega arith in
    let product : (naks + 3) * (q.length / packet + 3) ≡ (q.length / packet + 3) * (naks + 3) = grind arith in
    rw (whole, product) (omega arith)

-- few, for the widths of the limit and of wLength
pub most_transactions-few : (packet naks : ℕ) (q : SetupPacket) → naks < 65536 → q.length < 65536 → most_transactions packet naks q < 8589934592
most_transactions-few packet naks q n l =
    let whole : q.length / packet ≤ q.length = div-le_self q.length packet in
    let left : (naks + 3) * (q.length / packet + 3) ≤ 65538 * (q.length / packet + 3) = mul-le-mul_right (q.length / packet + 3) (omega arith) in
    omega (arith, left, whole)
