-- A device under test beside one that C holds.
use Rattle.std.specs.Prelude.{◌≡◌, ◌==◌, ℕ, if◌then◌else◌, Bool, true, List, Option, Some, None}
use Rattle.usb_fields.specs.declared.packet.Toggle.TheVariants.{Data0, Data1}
use Rattle.usb_fields.specs.Packets.{Reply, Sent}
use Rattle.usb_fields.specs.declared.setup.Setup.{Setup}
use Rattle.usb_device.specs.Conformance.{IsJudged, difference_number, is_free_to, is_ready}
use Rattle.usb_device.specs.declared.conformance.Difference.{Difference}
use Rattle.usb_c.specs.declared.transaction.NzgPacket.{NzgPacket}
use Rattle.usb_device.specs.Offers.{offer_in, packet_in}
use Rattle.usb_device.specs.Step.{DeviceView}
use Rattle.usb_device.specs.Stages.{toggle_number}
use Rattle.usb_device.specs.declared.open_transfer.OpenStage.{OpenStage}
use Rattle.usb_device.specs.declared.open_transfer.OpenStage.TheVariants as stages
use Rattle.usb_device.specs.declared.open_transfer.OpenTransfer.{OpenTransfer}
use Rattle.usb_c.specs.declared.conformance.NzgOpenTransfer.{NzgOpenTransfer}
use Rattle.usb_device.specs.View.{IsOf, device_of, served_over}
use Rattle.usb_device.specs.declared.endpoint_zero.EndpointZero.{EndpointZero}
use Rattle.usb_c.specs.Devices.{Serves}

-- what is judged, as a number: 0 where nothing differs that may not
abbrev pub judged_number : Option Difference → ℕ
judged_number None = 0
judged_number (Some why) = difference_number why

-- An open transfer by its numbers, of which any have a meaning.
abbrev pub stage_given : ℕ → OpenStage
stage_given number =
    if number == 0 then stages.Due else if number == 1 then stages.Sent else if number == 2 then stages.Last
    else if number == 3 then stages.Over else if number == 4 then stages.Answered else stages.Stalled

abbrev pub transfer_given : NzgOpenTransfer → OpenTransfer
transfer_given n = record {
  last = if n.last == 0 then Data0 else Data1;
  acknowledged = n.acknowledged;
  sent = n.sent;
  stage = stage_given n.stage;
}

abbrev pub stage_number : OpenStage → ℕ
stage_number stages.Due = 0
stage_number stages.Sent = 1
stage_number stages.Last = 2
stage_number stages.Over = 3
stage_number stages.Answered = 4
stage_number stages.Stalled = 5

abbrev pub numbers_of : OpenTransfer → NzgOpenTransfer
numbers_of t = record { acknowledged = t.acknowledged; sent = t.sent; last = toggle_number t.last; stage = stage_number t.stage }

-- what is judged of a device under test in one transaction, beside a device with this image
abbrev pub JudgesBy : List ℕ → DeviceView → Sent → Reply → Setup → NzgOpenTransfer → NzgOpenTransfer → ℕ → Type 0
JudgesBy image d sent came q open_ after_ number =
    (result : Option Difference) × (next : OpenTransfer)
    × IsJudged (is_free_to (offer_in image) d q) q (packet_in image) (transfer_given open_) sent.token came (served_over image d sent (is_ready came)).reply next result
    × (after_ ≡ numbers_of next) × (number ≡ judged_number result)

-- An image, and a transaction and an answer that have a meaning: the device here has the transaction, ready where the other one was, and
-- the other one is judged, as the open transfer stands. Else nothing changes.
abbrev pub JudgesDevice : Bool → Option Sent → Option Reply → List ℕ → List ℕ → EndpointZero → NzgOpenTransfer → Setup → NzgPacket → List ℕ → EndpointZero → NzgOpenTransfer → NzgPacket → ℕ → Type 0
JudgesDevice true (Some sent) (Some came) image kept old open_ q before kept_then new after_ packet number =
    Serves true (Some sent) image kept old (is_ready came) before kept_then new packet true
    × (IsOf image kept old → JudgesBy image (device_of image kept old) sent came q open_ after_ number)
JudgesDevice has_head sent came image kept old open_ q before kept_then new after_ packet number =
    (number ≡ 9) × (new ≡ old) × (kept_then ≡ kept) × (after_ ≡ open_) × (packet ≡ before)
