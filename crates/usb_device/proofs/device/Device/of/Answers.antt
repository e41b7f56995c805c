use Rattle.std.proofs.Common.{ℕ, ◌<◌, List, subst}
use Rattle.usb_device.specs.FileImages.{image_of}
use Rattle.usb_device.specs.Offers.{packet_in}
use Rattle.usb_device.proofs.device.Device.of.Goals as goal

pub invariant_of-result : goal.invariant_of-result
invariant_of-result c = c.new.ensures.of (image_of c.args.d.now.file) _ (subst (λ (i : List ℕ). 0 < packet_in i) c.image-image.ensures.image c.image-image.ensures.some)
