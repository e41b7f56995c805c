use Rattle.std.proofs.Common.{rules, ◌≡◌, true}
use Rattle.usb_device.specs.Beside.{rejected}
use Rattle.usb_device.specs.Offers.{has_head, offer_in}
use Rattle.usb_device.specs.Requests.{answer_to}
use Rattle.usb_c.proofs.DeviceLemmas.{changes}
use Rattle.usb_c.proofs.device_owner.nzg_device_refuse.Goals as goal

pub returns-clause-device : goal.returns-clause-device
returns-clause-device c =
    let image = c.args.image.now in
    let known : has_head image ≡ true = search rules in
    changes (rejected (answer_to (offer_in image))) image (has_head image) c.args.device.now c.refuse.new.self known (λ kept at. c.refuse.ensures.device kept) c.refuse.ensures.of
