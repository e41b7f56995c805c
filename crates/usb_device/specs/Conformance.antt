-- What is allowed of a device under test in one transaction, beside what a device of these descriptors answers to it.
use Rattle.std.specs.Prelude.{◌≡◌, ◌↔◌, ℕ, MatchOption, Option, None, ◌/◌, ◌%◌, ◌==◌, ◌&&◌, ◌||◌, ◌⊎◌, Bool, true, false, if◌then◌else◌, List, [], ◌∷◌}
use Rattle.usb_fields.specs.Numbers.{number_in}
use Rattle.usb_fields.specs.declared.packet.Toggle.{Toggle}
use Rattle.usb_fields.specs.declared.setup.Setup.{Setup}
use Rattle.usb_fields.specs.Packets.{Token, SetupToken, InToken, Reply, NakReply, StallReply, DataReply, NoReply, flipped, is_same_toggle}
use Rattle.usb_file_data.specs.declared.file.DescriptorFile.{DescriptorFile}
use Rattle.usb_device.specs.Beside.{asks_for_bytes, is_open}
use Rattle.usb_device.specs.Freedoms.{is_either_to}
use Rattle.usb_device.specs.Offers.{Offer, offer_of}
use Rattle.usb_device.specs.Step.{DeviceStage, DeviceView, Halted}
use Rattle.usb_device.specs.OpenTransfers.{after_answer, is_stalled, may_answer, new_transfer}
use Rattle.usb_device.specs.declared.open_transfer.OpenTransfer.{OpenTransfer}
use Rattle.usb_device.specs.declared.conformance.Difference.{Difference}
use Rattle.usb_device.specs.contracts.conformance.Difference.{the_type as differences}
use Rattle.usb_device.specs.declared.conformance.Difference.TheVariants as differs

-- Whether the device that answers so was ready. The other one is asked in the same way: a NAK to IN (8.4.6.1) and to OUT
-- (8.4.6.3) is allowed at any time, and neither of the two goes on then.
abbrev pub is_ready : Reply → Bool
is_ready NakReply = false
is_ready reply = true

-- Whether the request is GET_STATUS of the device (9.4.5, table 9-4): bits 6..0 of bmRequestType and bRequest are 0.
abbrev pub is_device_status : Setup → Bool
is_device_status q = (q.request_type % 128 == 0) && (q.request == 0)

-- The same status but for bit 0 of its first byte: whether a device is powered by itself may change (9.4.5).
abbrev pub IsSameStatus : Reply → Reply → Type 0
IsSameStatus (DataReply t (a ∷ b ∷ [])) (DataReply u (c ∷ d ∷ [])) = (t ≡ u) × (a / 2 ≡ c / 2) × (b ≡ d)
IsSameStatus came has = ⊥

-- Whether an answer in the data stage or the status stage is free: the device receives it, and no SETUP is.
abbrev pub is_in_transfer : Token → Reply → Bool
is_in_transfer (SetupToken bytes) has = false
is_in_transfer token NoReply = false
is_in_transfer token has = true

-- whether a request is refused at this stage
abbrev pub is_refusing : DeviceStage → Bool
is_refusing (Halted refused) = true
is_refusing stage = false

-- Whether the outcome of the transfer of request q is open: the device that offers this refuses what its owner may answer, or a device
-- may either carry it out or refuse it.
abbrev pub is_free_to : Offer → DeviceView → Setup → Bool
is_free_to o d q = (is_refusing d.stage && is_open q) || is_either_to o d.state q

-- the same of a device with these descriptors
abbrev pub is_free : DescriptorFile → DeviceView → Setup → Bool
is_free f d q = is_free_to (offer_of f) d q

-- The same answer, or the same status.
abbrev pub IsSame : Setup → Token → Reply → Reply → Type 0
IsSame q token came has = (came ≡ has) ⊎ ((is_in_transfer token has ≡ true) × (is_device_status q ≡ true) × IsSameStatus came has)

abbrev pub IsAllowedIn : Bool → Setup → ℕ → OpenTransfer → Token → Reply → Reply → Type 0
IsAllowedIn true q packet t token came has = may_answer q packet t token came ≡ true
IsAllowedIn false q packet t token came has = IsSame q token came has

-- In the transfer of request q this came of a device under test with packets of this size, where the device of these descriptors
-- `has` that answer to the same transaction. Where the outcome is open, it may come in a transfer that stands so.
abbrev pub IsAllowed : Bool → Setup → ℕ → OpenTransfer → Token → Reply → Reply → Type 0
IsAllowed free q packet t token came has = IsAllowedIn (free && is_in_transfer token has) q packet t token came has

-- whether a transfer begins: a SETUP was taken
abbrev pub begins : Token → Reply → Bool
begins (SetupToken bytes) NoReply = false
begins (SetupToken bytes) has = true
begins token has = false

-- the transfer after a transaction
abbrev pub after_transaction : Bool → Setup → ℕ → OpenTransfer → Token → Reply → Reply → OpenTransfer
after_transaction true q packet t token came has = after_answer q packet t token came
after_transaction false q packet t token came has = if begins token has then new_transfer else t

-- Where a packet with these bytes and this toggle is expected.
abbrev pub differs_from_data : Reply → Toggle → List ℕ → Difference
differs_from_data NoReply toggle bytes = differs.Address
differs_from_data StallReply toggle bytes = differs.Stall
differs_from_data (DataReply t []) toggle [] = differs.Toggle
differs_from_data came toggle [] = differs.Empty
differs_from_data (DataReply t b) toggle bytes = if is_same_toggle t toggle then differs.Bytes else differs.Toggle
differs_from_data came toggle bytes = differs.Kind

-- Where a handshake is expected.
abbrev pub differs_from_handshake : Reply → Difference
differs_from_handshake NoReply = differs.Address
differs_from_handshake StallReply = differs.Stall
differs_from_handshake came = differs.Kind

-- Which difference it is, where the answers differ.
abbrev pub difference_of : Token → Reply → Reply → Difference
difference_of token came NoReply = differs.Address
difference_of (SetupToken bytes) came has = differs.Setup
difference_of token came (DataReply toggle bytes) = differs_from_data came toggle bytes
difference_of token NoReply StallReply = differs.Address
difference_of token came StallReply = differs.Refusal
difference_of token came has = differs_from_handshake came

-- Which it is of a packet: in the data stage, or as the status stage.
abbrev pub differs_from_due : Bool → OpenTransfer → Toggle → List ℕ → Difference
differs_from_due true t toggle bytes = if is_same_toggle toggle (flipped t.last) then differs.Bytes else differs.Toggle
differs_from_due false t toggle [] = differs.Toggle
differs_from_due false t toggle bytes = differs.Empty

-- Which it is where the outcome is open.
abbrev pub open_difference : Setup → OpenTransfer → Token → Reply → Difference
open_difference q t token NoReply = differs.Address
open_difference q t token StallReply = differs.Stall
open_difference q t InToken (DataReply toggle bytes) = if is_stalled t.stage then differs.Refusal else differs_from_due (asks_for_bytes q) t toggle bytes
open_difference q t token came = if is_stalled t.stage then differs.Refusal else differs.Kind

abbrev pub difference_in : Bool → Setup → OpenTransfer → Token → Reply → Reply → Difference
difference_in true q t token came has = open_difference q t token came
difference_in false q t token came has = difference_of token came has

-- What is judged of it: nothing where it is allowed, and else the difference; the transfer goes on where it is allowed.
abbrev pub IsJudged : Bool → Setup → ℕ → OpenTransfer → Token → Reply → Reply → OpenTransfer → Option Difference → Type 0
IsJudged free q packet t token came has next result =
    ((result ≡ None) ↔ IsAllowed free q packet t token came has)
    × MatchOption result (next ≡ after_transaction (free && is_in_transfer token has) q packet t token came has)
    (λ why. (why ≡ difference_in (free && is_in_transfer token has) q t token came has) × (next ≡ t))

-- its number, from 1
abbrev pub difference_number : Difference → ℕ
difference_number why = number_in differences why
