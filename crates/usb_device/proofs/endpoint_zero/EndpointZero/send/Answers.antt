use Rattle.std.proofs.Common.{◌∙◌, sym, ap}
use Rattle.usb_fields.specs.Packets.{DataReply}
use Rattle.usb_device.specs.View.{packet_due, stage_in}
use Rattle.usb_device.specs.Offers.{packet_in}
use Rattle.usb_device.proofs.StageLemmas.{sent_device, sent_reply}
use Rattle.usb_device.proofs.endpoint_zero.EndpointZero.send.Goals as goal

pub returns-in-Sending-clause-reply : goal.returns-in-Sending-clause-reply
returns-in-Sending-clause-reply c =
    λ room h.
    let e = c.args.self.now in
    let image = c.args.image.bytes.now in
    ap (λ t. DataReply t (packet_due (packet_in image) (stage_in image room e))) c.toggle_at.ensures ∙ sent_reply image room e (sym c.of.ensures ∙ c.in-Sending.is) h

pub returns-in-Sending-clause-device : goal.returns-in-Sending-clause-device
returns-in-Sending-clause-device c = λ room h. sent_device c.args.image.bytes.now room c.args.self.now (sym c.of.ensures ∙ c.in-Sending.is) h

pub returns-then-sends_status : goal.returns-then-sends_status
returns-then-sends_status c = record { reply = λ room h. c.if-sends_status.ensures.reply room; device = λ room h. c.sends_status.ensures.device room; of = λ room h. c.sends_status.ensures.of room h.0 }

pub returns-else-sends_status : goal.returns-else-sends_status
returns-else-sends_status c = record { reply = λ room h. c.if-sends_status.ensures.reply room; device = λ room h. c.sends_status.ensures.device room; of = λ room h. c.sends_status.ensures.of room h.0 }
