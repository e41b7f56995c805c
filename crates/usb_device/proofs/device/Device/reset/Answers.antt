use Rattle.usb_device.specs.FileImages.{image_of}
use Rattle.usb_device.proofs.device.Device.reset.Goals as goal

pub invariant_of-self : goal.invariant_of-self
invariant_of-self c = let d = c.self.inside in c.reset.ensures.of (image_of d.description.now.file) d.room c.self.invariant.0
