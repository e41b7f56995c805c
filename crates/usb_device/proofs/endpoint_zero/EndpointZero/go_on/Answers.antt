use Rattle.std.proofs.Common.{rules, ◌≡◌, ◌∙◌, ℕ, List, ◌+◌, ◌<◌, ◌≤◌, ◌⊎◌, inl, inr, sym, ap, arith}
use Rattle.std.proofs.lemmas.Bool.Decides.{nat_tests}
use Rattle.usb_fields.specs.declared.setup.Setup.{Setup}
use Rattle.usb_fields.specs.Packets.{flipped}
use Rattle.usb_device.specs.Offers.{packet_in}
use Rattle.usb_device.specs.Stages.{request_of}
use Rattle.usb_device.specs.View.{IsOf}
use Rattle.usb_device.proofs.StageLemmas.{device_ends, device_goes_on, is_of_goes_on, sending}
use Rattle.usb_device.proofs.endpoint_zero.EndpointZero.go_on.Goals.{then-left-packet, else-left-packet}
use Rattle.usb_device.proofs.endpoint_zero.EndpointZero.go_on.Goals as goal

pub returns-then-saturating_sub-packet-clause-device : goal.returns-then-saturating_sub-packet-clause-device
returns-then-saturating_sub-packet-clause-device c =
    λ room h.
    let e = c.args.self.now in
    let image = c.args.image.bytes.now in
    let here = sending image room e c.requires.sending h in
    let past : (e.count < e.offset + packet_in image) ⊎ ((request_of e).length ≤ e.offset + packet_in image) =
    elim c.if-left-packet.branch [
      | then-left-packet w ↦ inl (omega (arith, w.if-left-packet.true, c.packet-packet.ensures, c.saturating_sub-left.ensures, here.inside))
      | else-left-packet w ↦ inr (search rules)
    ] in
    device_ends image room e c.requires.sending h c.number-self.result c.number-self.ensures past

-- a whole packet is left, and more was asked for
goes_on : (c : goal.After-self-else-saturating_sub-packet-2-1) (room : List ℕ) → IsOf c.args.image.bytes.now room c.args.self.now →
    (c.args.self.now.offset + packet_in c.args.image.bytes.now ≤ c.args.self.now.count) × (c.args.self.now.offset + packet_in c.args.image.bytes.now < (request_of c.args.self.now).length)
goes_on c room h =
    let e = c.args.self.now in
    let here = sending c.args.image.bytes.now room e c.requires.sending h in
    let long : c.from-limit.result ≡ (request_of e).length = c.from-limit.ensures ∙ ap (λ (q : Setup). q.length) c.setup.ensures in
    elim c.if-left-packet.branch [
      | then-left-packet w ↦ absurd (let no = sym w.value-is ∙ c.if-saturating_sub-packet.false in grind (arith, nat_tests, w.if-left-packet.true, no))
      | else-left-packet w ↦
          let no = sym w.value-is ∙ c.if-saturating_sub-packet.false in
          (omega (arith, w.if-left-packet.false, c.packet-packet.ensures, c.saturating_sub-left.ensures, here.inside), grind (arith, nat_tests, no, w.saturating_sub.ensures, long, c.packet-packet.ensures, here.asked))
    ]

pub returns-else-saturating_sub-packet-clause-device : goal.returns-else-saturating_sub-packet-clause-device
returns-else-saturating_sub-packet-clause-device c =
    λ room h.
    let e = c.args.self.now in
    let on = goes_on c room h in
    rw c.packet-packet.ensures (device_goes_on c.args.image.bytes.now room e c.requires.sending h c.toggle_number-self.result on.0 on.1)

pub returns-else-saturating_sub-packet-clause-of : goal.returns-else-saturating_sub-packet-clause-of
returns-else-saturating_sub-packet-clause-of c =
    λ room h.
    let e = c.args.self.now in
    let on = goes_on c room h in
    let flips = c.toggle_number-self.ensures.back ∙ c.flip.ensures ∙ ap flipped c.toggle_at.ensures in
    rw c.packet-packet.ensures (is_of_goes_on c.args.image.bytes.now room e c.requires.sending h c.toggle_number-self.result flips on.0 on.1)
