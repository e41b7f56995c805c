use Rattle.std.proofs.Common.{rules, ◌≡◌, true}
use Rattle.usb_device.specs.Offers.{has_head}
use Rattle.usb_device.specs.View.{acked_over}
use Rattle.usb_c.proofs.DeviceLemmas.{changes}
use Rattle.usb_c.proofs.device.nzg_device_acked.Goals as goal

pub returns-clause-device : goal.returns-clause-device
returns-clause-device c =
    let image = c.args.image.now in
    let known : has_head image ≡ true = search rules in
    changes (acked_over image) image (has_head image) c.args.device.now c.acked.new.self known c.acked.ensures.device c.acked.ensures.of
