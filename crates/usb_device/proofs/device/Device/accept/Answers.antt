use Rattle.std.proofs.Common.{◌≡◌, Some, subst}
use Rattle.std.specs.Prelude.{IfErr}
use Rattle.usb_device.specs.Beside.{room_size, unaccepted}
use Rattle.usb_device.specs.FileImages.{image_of}
use Rattle.usb_device.specs.View.{View}
use Rattle.usb_device.proofs.device.Device.accept.Goals as goal

pub returns-clause-err : goal.returns-clause-err
returns-clause-err c =
    let d = c.self.inside in
    subst (λ (v : View). IfErr c.accept.result (λ why. unaccepted room_size v.device.stage ≡ Some why)) c.self.view_is
    (c.accept.ensures.err (image_of d.description.now.file) d.room)
