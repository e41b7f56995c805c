-- A reply leaves the request of a transfer as it is.
use Rattle.std.proofs.Common.{◌≡◌, ℕ, ◌+◌, Bool, true, false, if◌then◌else◌, nat_lt, List, [], ◌∷◌, length, refl}
use Rattle.usb_fields.specs.Packets.{Reply, NakReply, DataReply, NoReply, is_same_toggle}
use Rattle.usb_fields.specs.declared.packet.Toggle.{Toggle}
use Rattle.usb_fields.specs.declared.packet.Toggle.TheVariants.{Data0, Data1}
use Rattle.usb_host.specs.declared.transfer.TransferStage.{TransferStage}
use Rattle.usb_host.specs.declared.transfer.TransferStage.TheVariants.{Setup, DataIn, DataOut, StatusOut, StatusIn}
use Rattle.usb_host.specs.Transfer.{TransferView, Taken, taken, taken_at, taken_data, taken_status, struck, delayed}

abbrev Same : TransferView → Taken → Type 0
Same t x = x.transfer.request ≡ t.request

if_same : (t : TransferView) (b : Bool) (x y : Taken) → Same t x → Same t y → Same t (if b then x else y)
if_same t true x y p q = p
if_same t false x y p q = q

struck_same : (t : TransferView) → Same t (struck t)
struck_same t = if_same t (nat_lt t.strikes 2) _ _ refl refl

delayed_same : (t : TransferView) → Same t (delayed t)
delayed_same t = if_same t (nat_lt t.nak_count t.naks) _ _ refl refl

data_same : (t : TransferView) (toggle : Toggle) (bytes : List ℕ) → Same t (taken_data t toggle bytes)
data_same t toggle bytes =
    if_same t (nat_lt t.packet (length bytes)) _ _ refl
    (if_same t (is_same_toggle toggle t.awaited) _ _ (if_same t (nat_lt t.request.length (t.kept + length bytes)) _ _ refl refl) (struck_same t))

status_same : (t : TransferView) (toggle : Toggle) (bytes : List ℕ) → Same t (taken_status t toggle bytes)
status_same t toggle (byte ∷ bytes) = refl
status_same t Data0 [] = struck_same t
status_same t Data1 [] = refl

same_at : (t : TransferView) (stage : TransferStage) (r : Reply) → Same t (taken_at t stage r)
same_at t Setup NoReply = struck_same t
same_at t DataIn NakReply = delayed_same t
same_at t DataIn (DataReply toggle bytes) = data_same t toggle bytes
same_at t DataIn NoReply = struck_same t
same_at t DataOut NakReply = delayed_same t
same_at t DataOut NoReply = struck_same t
same_at t StatusOut NakReply = delayed_same t
same_at t StatusOut NoReply = struck_same t
same_at t StatusIn NakReply = delayed_same t
same_at t StatusIn (DataReply toggle bytes) = status_same t toggle bytes
same_at t StatusIn NoReply = struck_same t
same_at t _ _ = refl

pub request-taken : (t : TransferView) (r : Reply) → (taken t r).transfer.request ≡ t.request
request-taken t r = same_at t t.stage r
