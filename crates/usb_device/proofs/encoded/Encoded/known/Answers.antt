use Rattle.std.proofs.Common.{◌<◌, subst}
use Rattle.usb_fields.specs.Bytes.{AreBytes}
use Rattle.usb_file_data.specs.File.{file_bytes}
use Rattle.usb_device.specs.Descriptors.{Described}
use Rattle.usb_device.proofs.AcceptedLemmas.{packet_some}
use Rattle.usb_device.proofs.FitLemmas.{file_fits}
use Rattle.usb_device.proofs.encoded.Encoded.known.Goals as goal

pub returns-clause-fits : goal.returns-clause-fits
returns-clause-fits c =
    let f = c.self.inside.file.value in
    let fits : AreBytes c.self.inside.image.items = subst AreBytes c.deref.ensures.value c.known_bytes.ensures in
    subst (λ (d : Described). AreBytes (file_bytes d.file)) c.self.view_is
    (file_fits f c.self.invariant.accepted.strings (subst AreBytes c.self.invariant.image fits))

pub returns-clause-packet : goal.returns-clause-packet
returns-clause-packet c =
    subst (λ (d : Described). 0 < d.file.device.packet) c.self.view_is (packet_some c.self.inside.file.value c.self.invariant.accepted.rules)
