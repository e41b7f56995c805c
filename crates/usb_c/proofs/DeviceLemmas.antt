-- What a device answers, reported to C.
use Rattle.std.proofs.Common.{◌≡◌, ◌∙◌, ℕ, ◌≤◌, Bool, true, List, length, ap, sym, subst, arith}
use Rattle.std.proofs.lemmas.Bool.Decides.{nat_tests}
use Rattle.usb_fields.specs.Packets.{Reply}
use Rattle.usb_device.specs.Offers.{has_head, packet_in}
use Rattle.usb_device.specs.Replies.{HasRoom}
use Rattle.usb_device.specs.Step.{DeviceView}
use Rattle.usb_device.specs.View.{IsOf, device_of, packet_due, reply_with, replied, stage_in}
use Rattle.usb_device.specs.declared.endpoint_zero.EndpointZero.{EndpointZero}
use Rattle.usb_device.specs.declared.stage.Reaction.{Reaction}
use Rattle.usb_device.specs.declared.stage.Reaction.TheVariants.{Ack, Nak, Stall, Packet, Empty, Silence}
use Rattle.usb_c.specs.Devices.{Changes}

-- an image with a head has packets of at most 64 bytes
short_packets : (image : List ℕ) → has_head image ≡ true → packet_in image ≤ 64
short_packets image head = grind (arith, nat_tests)

fits : (bytes : List ℕ) (r : Reaction) → length bytes ≤ 64 → HasRoom (reply_with bytes r)
fits bytes Ack short = tt
fits bytes Nak short = tt
fits bytes Stall short = tt
fits bytes (Packet toggle) short = short
fits bytes Empty short = omega arith
fits bytes Silence short = tt

-- so each answer has room
pub answer_fits : (image bytes : List ℕ) (r : Reaction) (reply : Reply) → has_head image ≡ true → length bytes ≤ packet_in image
    → reply ≡ reply_with bytes r → HasRoom reply
answer_fits image bytes r reply head short is =
    let most = short_packets image head in
    subst (λ (it : Reply). HasRoom it) (sym is) (fits bytes r (omega (arith, short, most)))

-- the answer is the reply, where its bytes are those of the next packet
pub answer_is : (image kept bytes : List ℕ) (e : EndpointZero) (r : Reaction) (reply due : Reply) → bytes ≡ packet_due (packet_in image) (stage_in image kept e)
    → reply ≡ reply_with bytes r → replied image kept e r ≡ due → reply ≡ due
answer_is image kept bytes e r reply due bytes_are is replies = is ∙ ap (λ (b : List ℕ). reply_with b r) bytes_are ∙ replies

-- with an image that has a head a call that has no room changes the device so
pub changes : (change : DeviceView → DeviceView) (image : List ℕ) (known : Bool) (old new : EndpointZero) → known ≡ true
    → ((kept : List ℕ) → IsOf image kept old → device_of image kept new ≡ change (device_of image kept old))
    → ((kept : List ℕ) → IsOf image kept old → IsOf image kept new) → Changes change known image old new
changes change image known old new is device of =
    subst (λ (b : Bool). Changes change b image old new) (sym is) (λ kept at. (device kept at, of kept at))
