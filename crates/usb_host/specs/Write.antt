-- The host's end of a write: a control transfer with data to the device, which its caller has (USB 2.0, 8.5.3). It is a
-- transfer in all but one thing, the ACK of a data packet.
use Rattle.std.specs.Prelude.{min, ℕ, Bool, true, false, ◌+◌, ◌-◌, ◌==◌, if◌then◌else◌}
use Rattle.usb_fields.specs.Packets.{flipped, Reply, AckReply}
use Rattle.usb_host.specs.Transfer.{TransferView, Taken, Goes, taken_at}
use Rattle.usb_host.specs.declared.transfer.TransferStage.{TransferStage}
use Rattle.usb_host.specs.declared.transfer.TransferStage.TheVariants.{DataOut, StatusIn}

-- whether a data packet to the device comes next
abbrev pub is_sending : TransferStage → Bool
is_sending DataOut = true
is_sending stage = false

-- how many bytes the next data packet to the device has: a whole packet, or all that is left (8.5.3)
abbrev pub packet_length : TransferView → ℕ
packet_length t = min t.packet (t.request.length - t.kept)

-- the stage after the device has acknowledged n bytes of data: the last byte of wLength ends the data stage, and no empty
-- packet follows it (8.5.3)
abbrev pub stage_after_sent : TransferView → ℕ → TransferStage
stage_after_sent t n = if t.kept + n == t.request.length then StatusIn else DataOut

-- progress by a data packet of n bytes to the device, which it has acknowledged
abbrev pub with_sent : TransferView → ℕ → TransferView
with_sent t n =
    record t {
      stage = stage_after_sent t n;
      awaited = flipped t.awaited;
      kept = t.kept + n;
      strikes = 0;
      nak_count = 0;
    }

-- the ACK of the data packet that came next
abbrev pub acknowledged : TransferView → Taken
acknowledged t = record { received = Goes; transfer = with_sent t (packet_length t) }

-- What each reply does at each stage: the ACK of a data packet counts its bytes, and any other reply does what it does in
-- any transfer.
abbrev pub written_at : TransferView → TransferStage → Reply → Taken
written_at t DataOut AckReply = acknowledged t
written_at t stage reply = taken_at t stage reply

-- a write takes a reply
abbrev pub written : TransferView → Reply → Taken
written t reply = written_at t t.stage reply
