use Rattle.std.proofs.Common.{◌∙◌, ap, arith, inr, subst, sym, ◌+◌}
use Rattle.usb_fields.specs.Packets.{sent_of}
use Rattle.usb_device.specs.Requests.{answer}
use Rattle.usb_bus.specs.Damaged.{IsExchanged, bits_of}
use Rattle.usb_bus.specs.Run.{fate_at}
use Rattle.usb_bus.proofs.AddressLemmas.{legal_due, take_within}
use Rattle.usb_bus.proofs.wire.enumeration.step_bytes.Goals as goal

pub exchange_bytes-requires-clause-sent : goal.exchange_bytes-requires-clause-sent
exchange_bytes-requires-clause-sent g c = legal_due c.args.host.now (sent_of c.in-Send.t) c.requires.within (sym c.in-Send.ensures.action)

pub returns-in-Send-clause-within : goal.returns-in-Send-clause-within
returns-in-Send-clause-within g c =
    let (answered, r, carries, received, device) = c.exchange_bytes.ensures in
    take_within c.args.host.now c.exchange_bytes.new.host r.reply c.requires.within received.0

pub returns-in-Send-clause-seen : goal.returns-in-Send-clause-seen
returns-in-Send-clause-seen g c =
    let f = c.args.device.now.description.file in
    let d = c.args.device.now.device in
    let sent = sent_of c.in-Send.t in
    let (answered, r, carries, received, device) = c.exchange_bytes.ensures in
    let at = c.at-fate.ensures ∙ ap (fate_at c.args.wire.fates.now) c.from-before.ensures in
    inr (
      record {
        sent = sent;
        due = sym c.in-Send.ensures.action;
        answered = answered;
        brings = r;
        carries = subst (λ n. IsExchanged (answer f) f.device.packet d sent (fate_at c.args.wire.fates.now c.args.transactions) (bits_of c.args.wire.changes.now (n + 1)) answered r) c.from-before.ensures
            (subst (λ fate. IsExchanged (answer f) f.device.packet d sent fate (bits_of c.args.wire.changes.now (c.from-before.result + 1)) answered r) at carries);
        host = received.0;
        device = ap (λ v. v.device) device;
      },
      omega arith,
      received.2,
    )
