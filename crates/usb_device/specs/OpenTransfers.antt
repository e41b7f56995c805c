-- What a device under test may answer in a transfer whose outcome is open to it: its bytes are free, and chapter 8 is kept.
-- What is known of the transfer is what the device answered in it, and which of its packets the host acknowledged.
use Rattle.std.specs.Prelude.{ℕ, ◌+◌, ◌-◌, ◌==◌, ◌&&◌, ◌||◌, min, nat_le, nat_lt, Bool, true, false, not, List, [], ◌∷◌, length, if◌then◌else◌}
use Rattle.usb_fields.specs.declared.packet.Toggle.{Toggle}
use Rattle.usb_fields.specs.declared.packet.Toggle.TheVariants.{Data0, Data1}
use Rattle.usb_fields.specs.declared.setup.Setup.{Setup}
use Rattle.usb_fields.specs.Packets.{Token, SetupToken, InToken, OutToken, Reply, AckReply, NakReply, StallReply, DataReply, flipped, is_same_toggle}
use Rattle.usb_device.specs.Beside.{asks_for_bytes}
use Rattle.usb_device.specs.declared.open_transfer.OpenStage.{OpenStage}
use Rattle.usb_device.specs.declared.open_transfer.OpenStage.TheVariants.{Due, Sent, Last, Over, Answered, Stalled}
use Rattle.usb_device.specs.declared.open_transfer.OpenTransfer.{OpenTransfer}

-- after a SETUP, whose data packet is DATA0 (8.5.3)
abbrev pub new_transfer : OpenTransfer
new_transfer = record { last = Data0; acknowledged = 0; sent = 0; stage = Due }

abbrev pub is_stalled : OpenStage → Bool
is_stalled Stalled = true
is_stalled stage = false

abbrev pub is_answered : OpenStage → Bool
is_answered Answered = true
is_answered stage = false

-- whether this is the status stage: IN, or after data to the host an OUT with an empty DATA1 (8.5.3.1)
abbrev pub is_status : Setup → Token → Bool
is_status q (SetupToken bytes) = false
is_status q InToken = not (asks_for_bytes q)
is_status q (OutToken Data1 []) = asks_for_bytes q
is_status q (OutToken toggle bytes) = false

-- Whether the next packet of the data stage may have this many bytes: no more than a packet has and than wLength leaves (8.5.3), and
-- where the host has not acknowledged it, those that it had (8.6.4). None comes after the last one.
abbrev pub may_have : ℕ → ℕ → OpenTransfer → OpenStage → ℕ → Bool
may_have packet limit t Due count = nat_le count (min packet (limit - t.acknowledged))
may_have packet limit t Sent count = t.acknowledged + count == t.sent
may_have packet limit t Last count = t.acknowledged + count == t.sent
may_have packet limit t stage count = false

-- whether there are no bytes
abbrev pub is_empty : List ℕ → Bool
is_empty [] = true
is_empty (byte ∷ bytes) = false

-- Whether a packet with this toggle may have these bytes: in the data stage, where each packet that was acknowledged flips the
-- toggle (8.5.3 and 8.6), or as the status stage, an empty DATA1 (8.5.3.1).
abbrev pub may_send : Bool → ℕ → ℕ → OpenTransfer → Toggle → List ℕ → Bool
may_send true packet limit t toggle bytes = is_same_toggle toggle (flipped t.last) && may_have packet limit t t.stage (length bytes)
may_send false packet limit t toggle bytes = is_same_toggle toggle Data1 && is_empty bytes && not (is_stalled t.stage)

-- Whether the device may answer so. NAK is allowed at any time; STALL until the status stage was answered, and from then on the same
-- answer again. After a STALL there are no others until the next SETUP (8.5.3.4).
abbrev pub may_answer : Setup → ℕ → OpenTransfer → Token → Reply → Bool
may_answer q packet t token NakReply = true
may_answer q packet t token StallReply = not (is_answered t.stage && is_status q token)
may_answer q packet t InToken (DataReply toggle bytes) = may_send (asks_for_bytes q) packet q.length t toggle bytes
may_answer q packet t (OutToken toggle bytes) AckReply = not (q.length == 0) && not (is_stalled t.stage)
may_answer q packet t token came = false

-- The transfer after each answer that may come.

-- a packet of this many bytes was sent: a short one, and one with the last of wLength bytes, ends the data stage (8.5.3.2)
abbrev pub with_packet : ℕ → ℕ → OpenTransfer → ℕ → OpenTransfer
with_packet packet limit t count = record t {
  sent = t.acknowledged + count;
  stage = if nat_lt count packet || (t.acknowledged + count == limit) then Last else Sent;
}

-- the status stage was answered, if it is that
abbrev pub with_status : Bool → OpenTransfer → OpenTransfer
with_status true t = record t { stage = Answered }
with_status false t = t

abbrev pub after_answer : Setup → ℕ → OpenTransfer → Token → Reply → OpenTransfer
after_answer q packet t token StallReply = record t { stage = Stalled }
after_answer q packet t token (DataReply toggle bytes) =
    if asks_for_bytes q then with_packet packet q.length t (length bytes) else with_status true t
after_answer q packet t token AckReply = with_status (is_status q token) t
after_answer q packet t token came = t

-- after the host's ACK of a data packet, which reached the device
abbrev pub acknowledged_at : OpenTransfer → OpenStage → OpenTransfer
acknowledged_at t Sent = record { last = flipped t.last; acknowledged = t.sent; sent = t.sent; stage = Due }
acknowledged_at t Last = record { last = flipped t.last; acknowledged = t.sent; sent = t.sent; stage = Over }
acknowledged_at t Answered = record t { stage = Over }
acknowledged_at t stage = t

abbrev pub after_ack : OpenTransfer → OpenTransfer
after_ack t = acknowledged_at t t.stage
