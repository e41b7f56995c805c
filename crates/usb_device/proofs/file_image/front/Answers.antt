use Rattle.std.proofs.Common.{◌≡◌, ◌∙◌, [], ap, map}
use Rattle.usb_fields.specs.Device.{device_bytes}
use Rattle.usb_device.specs.Images.{image_bytes}
use Rattle.usb_device.specs.FileImages.{keyed, set_piece}
use Rattle.usb_device.proofs.WrittenLemmas.{three}
use Rattle.usb_device.proofs.file_image.front.Goals as goal

pub returns : goal.returns
returns c =
    let f = c.args.f.now in
    let sets = image_bytes (map set_piece f.sets) in
    let body : c.deref-2.result.now ≡ sets = c.deref-2.ensures.value ∙ c.in_ok-sets.ensures ∙ ap (λ s. image_bytes (map set_piece s)) c.deref.ensures in
    rw (c.in_ok-add-3.ensures, c.in_ok-add-2.ensures, c.in_ok-add.ensures, c.in_ok-image.ensures.items, c.from.ensures, body, c.to_bytes.ensures)
    (three (record { kind = 0; index = 1; number = f.device.packet; body = [] }) (keyed 129 0 sets) (keyed 1 0 (device_bytes f.device)))
