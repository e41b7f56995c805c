use Rattle.std.proofs.Common.{◌∙◌, ap, option_map, refl, sym}
use Rattle.usb_fields.specs.Packets.{NoReply, sent_of}
use Rattle.usb_device.specs.Requests.{answer}
use Rattle.usb_bus.specs.Damaged.{bits_of, reply_number}
use Rattle.usb_bus.proofs.ExchangeLemmas.{exchanged_so, unanswered}
use Rattle.usb_bus.proofs.wire.exchange.exchange_bytes.Goals as goal

pub returns-in-None : goal.returns-in-None
returns-in-None g c =
    let v = c.args.device.now in
    let f = v.description.file in
    let sent = sent_of c.args.t.now in
    let number = reply_number sent.token in
    let bits = bits_of c.args.damages.changes.now c.args.damages.transaction in (
      NoReply,
      record { reply = NoReply; device = v.device },
      exchanged_so (answer f) f.device.packet v.device sent c.args.fate bits c.is_lost_down-is_lost.result NoReply (record { reply = NoReply; device = v.device })
          _ _ _ _ _ number c.is_lost_down-is_lost.ensures c.token_packet.ensures.packet c.receive-token.ensures c.data_packet.ensures.packet c.receive-after.ensures
          (ap (option_map sent_of) (sym c.in-None.is) ∙ c.received.ensures) refl (unanswered (answer f) f.device.packet v.device number c.args.fate bits),
      c.take_answer.ensures,
      refl,
    )
