-- What a reply does to a transfer with data, and to one without.
use Rattle.std.proofs.Common.{◌≡◌, ℕ, ◌<◌, true, false, List, [], ◌∷◌, drop, length, length-take, length-drop, refl, arith}
use Rattle.usb_fields.specs.Packets.{Reply, AckReply, NakReply, StallReply, DataReply, NoReply}
use Rattle.usb_host.specs.Transfer.{TransferView, packet_due, taken_at}
use Rattle.usb_host.specs.Write.{written_at}
use Rattle.usb_host.specs.declared.transfer.TransferStage.{TransferStage}
use Rattle.usb_host.specs.declared.transfer.TransferStage.TheVariants.{Setup, DataIn, DataOut, StatusOut, StatusIn, Completed, Failed}
use Rattle.usb_bus.specs.Bus.{has_data, taken_by}

-- a transfer without data takes it by the table of transfers
pub taken_plain : (t : TransferView) (stage : TransferStage) (r : Reply) → taken_by false t stage r ≡ taken_at t stage r
taken_plain t DataOut AckReply = refl
taken_plain t DataOut NakReply = refl
taken_plain t DataOut StallReply = refl
taken_plain t DataOut (DataReply toggle bytes) = refl
taken_plain t DataOut NoReply = refl
taken_plain t Setup r = refl
taken_plain t DataIn r = refl
taken_plain t StatusOut r = refl
taken_plain t StatusIn r = refl
taken_plain t Completed r = refl
taken_plain t (Failed why) r = refl

-- and one with data by that of writes
pub taken_write : (t : TransferView) (stage : TransferStage) (r : Reply) → taken_by true t stage r ≡ written_at t stage r
taken_write t DataOut AckReply = refl
taken_write t DataOut NakReply = refl
taken_write t DataOut StallReply = refl
taken_write t DataOut (DataReply toggle bytes) = refl
taken_write t DataOut NoReply = refl
taken_write t Setup r = refl
taken_write t DataIn r = refl
taken_write t StatusOut r = refl
taken_write t StatusIn r = refl
taken_write t Completed r = refl
taken_write t (Failed why) r = refl

-- there are some
pub some_data : (bytes : List ℕ) → 0 < length bytes → has_data bytes ≡ true
some_data [] some = absurd (omega arith)
some_data (byte ∷ bytes) some = refl

-- and some in a packet of them
pub packet_data : (t : TransferView) (bytes : List ℕ) → 0 < length (packet_due t bytes) → has_data bytes ≡ true
packet_data t bytes some =
    let long = length-take t.packet (drop t.kept bytes) in
    let left = length-drop t.kept bytes in
    some_data bytes (omega (arith, long, left, some))
