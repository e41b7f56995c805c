use Rattle.std.proofs.Common.{◌∙◌, sym}
use Rattle.usb_device.proofs.StageLemmas.{packet_there}
use Rattle.usb_device.proofs.endpoint_zero.EndpointZero.packet.Goals as goal

pub returns-in-Sending-clause-due : goal.returns-in-Sending-clause-due
returns-in-Sending-clause-due c =
    λ h.
    let e = c.args.self.now in
    let image = c.args.image.bytes.now in
    rw (c.prefix.ensures, c.after.ensures, c.data_bytes.ensures, c.packet.ensures) (sym (packet_there image c.args.room.now e (sym c.of.ensures ∙ c.in-Sending.is) h))
