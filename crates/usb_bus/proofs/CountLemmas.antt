-- Where no data go to the device, the host counts the bytes that it has.
use Rattle.std.proofs.Common.{◌≡◌, ◌≢◌, ℕ, suc, ◌+◌, ◌==◌, ◌&&◌, ◌||◌, not, Bool, true, false, if◌then◌else◌, nat_lt, List, [], ◌∷◌, ◌++◌, length, refl, ap, sym, ◌∙◌, length-append}
use Rattle.usb_fields.specs.declared.packet.Toggle.{Toggle}
use Rattle.usb_fields.specs.declared.packet.Toggle.TheVariants.{Data0, Data1}
use Rattle.usb_fields.specs.declared.setup.Direction.{Direction}
use Rattle.usb_fields.specs.declared.setup.Direction.TheVariants as directions
use Rattle.usb_fields.specs.Setup.{direction_of}
use Rattle.usb_fields.specs.Packets.{Reply, AckReply, NakReply, StallReply, DataReply, NoReply, is_same_toggle}
use Rattle.usb_host.specs.declared.why.Why.TheVariants as whys
use Rattle.usb_host.specs.Transfer.{TransferView, Taken, Goes, data_stage, delayed, failed, kept_packet, struck, taken_data, taken_status}
use Rattle.usb_host.specs.declared.transfer.TransferStage.{TransferStage}
use Rattle.usb_host.specs.declared.transfer.TransferStage.TheVariants.{Setup, DataIn, DataOut, StatusOut, StatusIn, Completed, Failed}
use Rattle.usb_device.specs.Beside.{brings_bytes, is_in}
use Rattle.usb_bus.specs.Bus.{HostEnd, receives_reply, taken_by, with_received}
use Rattle.usb_bus.specs.Together.{HasCounted}

abbrev is_data_out : TransferStage → Bool
is_data_out DataOut = true
is_data_out stage = false

elsewhere : (stage : TransferStage) → stage ≢ DataOut → is_data_out stage ≡ false
elsewhere DataOut other = absurd (other refl)
elsewhere Setup other = refl
elsewhere DataIn other = refl
elsewhere StatusOut other = refl
elsewhere StatusIn other = refl
elsewhere Completed other = refl
elsewhere (Failed why) other = refl

not_there : (stage : TransferStage) → is_data_out stage ≡ false → stage ≢ DataOut
not_there stage e = λ is. absurd (let z = sym (ap is_data_out is) ∙ e in cc)

after_setup : (empty : Bool) (d : Direction) → (not empty && not (is_in d)) ≡ false → is_data_out (if empty then StatusIn else data_stage d) ≡ false
after_setup true d e = refl
after_setup false directions.In e = refl
after_setup false directions.Out e = absurd (cc)

abbrev Counted : List ℕ → Taken → Type 0
Counted got x = (is_data_out x.transfer.stage ≡ false) × (x.transfer.kept ≡ length (with_received got x.received))

if_counted : (got : List ℕ) (c : Bool) (x y : Taken) → Counted got x → Counted got y → Counted got (if c then x else y)
if_counted got true x y p q = p
if_counted got false x y p q = q

after_data : (c : Bool) → is_data_out (if c then StatusOut else DataIn) ≡ false
after_data true = refl
after_data false = refl

module _ (sends : Bool) (t : TransferView) (got : List ℕ) (other : is_data_out t.stage ≡ false) (count : t.kept ≡ length got) where
  struck_counted : Counted got (struck t)
  struck_counted = if_counted got (nat_lt t.strikes 2) (record { received = Goes; transfer = record t { strikes = suc t.strikes } }) (failed t whys.NoAnswer) (other, count) (refl, count)

  delayed_counted : Counted got (delayed t)
  delayed_counted = if_counted got (nat_lt t.nak_count t.naks) (record { received = Goes; transfer = record t { nak_count = suc t.nak_count } }) (failed t whys.Busy) (other, count) (refl, count)

  data_counted : (toggle : Toggle) (bytes : List ℕ) → Counted got (taken_data t toggle bytes)
  data_counted toggle bytes =
      let more : t.kept + length bytes ≡ length (got ++ bytes) = ap (λ n. n + length bytes) count ∙ sym (length-append got bytes) in
      let fits : Taken = if nat_lt t.request.length (t.kept + length bytes) then failed t whys.TooLong else kept_packet t bytes in
      let is_next : Taken = if is_same_toggle toggle t.awaited then fits else struck t in
      if_counted got (nat_lt t.packet (length bytes)) (failed t whys.TooLong) is_next (refl, count)
      (if_counted got (is_same_toggle toggle t.awaited) fits (struck t)
      (if_counted got (nat_lt t.request.length (t.kept + length bytes)) (failed t whys.TooLong) (kept_packet t bytes) (refl, count)
      (after_data (nat_lt (length bytes) t.packet || (t.kept + length bytes == t.request.length)), more))
      struck_counted)

  status_counted : (toggle : Toggle) (bytes : List ℕ) → Counted got (taken_status t toggle bytes)
  status_counted toggle (byte ∷ bytes) = (refl, count)
  status_counted Data0 [] = struck_counted
  status_counted Data1 [] = (refl, count)

  counted : (stage : TransferStage) (reply : Reply) → is_data_out stage ≡ false → brings_bytes t.request ≡ false → Counted got (taken_by sends t stage reply)
  counted Setup AckReply e none = (after_setup (t.request.length == 0) (direction_of t.request.request_type) none, count)
  counted Setup NakReply e none = (refl, count)
  counted Setup StallReply e none = (refl, count)
  counted Setup (DataReply toggle bytes) e none = (refl, count)
  counted Setup NoReply e none = struck_counted
  counted DataIn AckReply e none = (refl, count)
  counted DataIn NakReply e none = delayed_counted
  counted DataIn StallReply e none = (refl, count)
  counted DataIn (DataReply toggle bytes) e none = data_counted toggle bytes
  counted DataIn NoReply e none = struck_counted
  counted DataOut reply e none = absurd (cc)
  counted StatusOut AckReply e none = (refl, count)
  counted StatusOut NakReply e none = delayed_counted
  counted StatusOut StallReply e none = (refl, count)
  counted StatusOut (DataReply toggle bytes) e none = (refl, count)
  counted StatusOut NoReply e none = struck_counted
  counted StatusIn AckReply e none = (refl, count)
  counted StatusIn NakReply e none = delayed_counted
  counted StatusIn StallReply e none = (refl, count)
  counted StatusIn (DataReply toggle bytes) e none = status_counted toggle bytes
  counted StatusIn NoReply e none = struck_counted
  counted Completed reply e none = (other, count)
  counted (Failed why) reply e none = (other, count)

-- whatever comes back
pub counts_on : (sends : Bool) (h : HostEnd) (reply : Reply) → brings_bytes h.transfer.request ≡ false → HasCounted h → HasCounted (receives_reply sends h reply)
counts_on sends h reply none (there, count) =
    let other = elsewhere h.transfer.stage there in
    let c = counted sends h.transfer h.got other count h.transfer.stage reply other none in
    (not_there (receives_reply sends h reply).transfer.stage c.0, c.1)
