use Rattle.std.proofs.Common.{◌≡◌, ◌∙◌, true, false, ap, rules, sym}
use Rattle.usb_fields.specs.Packets.{reply_of, sent_of}
use Rattle.usb_device.proofs.Replies.{reply_has_room}
use Rattle.usb_device.specs.Requests.{answer}
use Rattle.usb_device.specs.View.{View, acked_by, served_by}
use Rattle.usb_bus.specs.Damaged.{bits_of}
use Rattle.usb_bus.proofs.ExchangeLemmas.{answered_so}
use Rattle.usb_bus.proofs.wire.exchange.answer_bytes.Goals as goal

pub reply_packet-packet-requires : goal.reply_packet-packet-requires
reply_packet-packet-requires g c =
    reply_has_room c.args.device.now.description.file c.args.device.now.description.speed c.args.device.now.device (sent_of c.args.t.now) c.is_ready.result
    (reply_of c.serve-answer.result) c.requires.accepted c.serve-answer.ensures.answer

pub returns-then-is_acked : goal.returns-then-is_acked
returns-then-is_acked g c =
    let v = c.args.device.now in
    let f = v.description.file in
    let served : c.serve-answer.follows.lender-at-none ≡ record v { device = (served_by f v.device (sent_of c.args.t.now) c.is_ready.result).device } = search rules in
    let acked : c.acked.new.self ≡ record c.serve-answer.follows.lender-at-none { device = acked_by c.serve-answer.follows.lender-at-none.description.file c.serve-answer.follows.lender-at-none.device } = search rules in (
      reply_of c.serve-answer.result,
      record { reply = reply_of c.received_answer-came.result; device = acked_by f (served_by f v.device (sent_of c.args.t.now) c.is_ready.result).device },
      answered_so (answer f) f.device.packet v.device (sent_of c.args.t.now) c.args.number c.args.fate (bits_of c.args.damages.changes.now c.args.damages.transaction)
          c.is_ready.result c.is_lost_up.result c.is_lost_ack.result true (reply_of c.serve-answer.result) (reply_of c.received_answer-came.result)
          _ _ _ _ c.is_ready.ensures c.serve-answer.ensures.answer c.is_lost_up.ensures c.reply_packet-packet.ensures.packet c.receive-reply.ensures c.received_answer-came.ensures
          c.is_lost_ack.ensures c.ack_packet.ensures.packet c.receive-ack.ensures (sym c.if-is_acked.true ∙ c.is_ack-is_acked.ensures),
      c.take_answer-outcome.ensures,
      acked ∙ ap {A = View} (λ w. record w { device = acked_by w.description.file w.device }) served,
    )

pub returns-else-is_acked : goal.returns-else-is_acked
returns-else-is_acked g c =
    let v = c.args.device.now in
    let f = v.description.file in
    let served : c.serve-answer.follows.lender-at-none ≡ record v { device = (served_by f v.device (sent_of c.args.t.now) c.is_ready.result).device } = search rules in (
      reply_of c.serve-answer.result,
      record { reply = reply_of c.received_answer-came.result; device = (served_by f v.device (sent_of c.args.t.now) c.is_ready.result).device },
      answered_so (answer f) f.device.packet v.device (sent_of c.args.t.now) c.args.number c.args.fate (bits_of c.args.damages.changes.now c.args.damages.transaction)
          c.is_ready.result c.is_lost_up.result c.is_lost_ack.result false (reply_of c.serve-answer.result) (reply_of c.received_answer-came.result)
          _ _ _ _ c.is_ready.ensures c.serve-answer.ensures.answer c.is_lost_up.ensures c.reply_packet-packet.ensures.packet c.receive-reply.ensures c.received_answer-came.ensures
          c.is_lost_ack.ensures c.ack_packet.ensures.packet c.receive-ack.ensures (sym c.if-is_acked.false ∙ c.is_ack-is_acked.ensures),
      c.take_answer-outcome.ensures,
      served,
    )
