use Rattle.std.proofs.Common.{◌≡◌, ◌∙◌, ap, subst}
use Rattle.usb_device.specs.FileImages.{image_of}
use Rattle.usb_device.specs.View.{View, acknowledged, device_of}
use Rattle.usb_device.proofs.OfferLemmas.{head_back}
use Rattle.usb_device.proofs.device.Device.acknowledged.Goals as goal

pub returns : goal.returns
returns c =
    let d = c.self.inside in
    let f = d.description.now.file in
    subst (λ (v : View). c.acknowledged.result ≡ acknowledged v.description.file.device.packet v.device.stage) c.self.view_is
    (c.acknowledged.ensures (image_of f) d.room c.self.invariant ∙ ap (λ n. acknowledged n (device_of (image_of f) d.room d.endpoint_zero).stage) (head_back f))
