use Rattle.usb_device.specs.FileImages.{image_of}
use Rattle.usb_device.proofs.StageLemmas.{still_of}
use Rattle.usb_device.proofs.device.Device.acked.Goals as goal

pub invariant_of-self : goal.invariant_of-self
invariant_of-self c =
    let d = c.self.inside in
    still_of c.image.result.bytes.now (image_of d.description.now.file) d.room d.endpoint_zero c.acked.new.self c.image.ensures.image c.acked.ensures.of c.self.invariant
