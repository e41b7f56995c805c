use Rattle.std.proofs.Common.{◌≡◌, ◌<◌, Some, [], sym, ap, ◌∙◌, arith, add-one, rules, subst}
use Rattle.usb_fields.specs.Packets.{sent_of}
use Rattle.usb_host.specs.Transfer.{due_of, left}
use Rattle.usb_device.specs.Requests.{answer}
use Rattle.usb_bus.specs.Bus.{HostEnd, Ends, exchanged, has_data}
use Rattle.usb_bus.specs.inside.Running.{transfer_of}
use Rattle.usb_bus.proofs.Leading.{Leads-more, still_due}
use Rattle.usb_bus.proofs.exchange.transfer_over.Goals as goal

pub loop-t-preserved : goal.loop-t-preserved
loop-t-preserved c =
    let file = c.args.device.now.description.file in
    let bytes = c.args.sent.now in
    let sent = sent_of c.in-Some.t in
    let before : HostEnd = record { transfer = transfer_of c.loop-t.sender; got = c.loop-t.bytes.items } in
    let after : HostEnd = record { transfer = transfer_of c.exchange.new.host; got = c.exchange.new.w.items } in
    let ends : Ends = record { host = after; device = c.exchange.new.device.device } in
    let asks : due_of (transfer_of c.loop-t.sender) bytes ≡ Some sent = sym c.in-Some.ensures in
    let going = still_due (transfer_of c.loop-t.sender) bytes (transfer_of c.loop-t.sender).stage sent asks in
    let received = c.in_ok-failure.ensures.received in
    let fewer : left (transfer_of c.exchange.new.host) < left (transfer_of c.loop-t.sender) = received.3 going in
    let got = received.0 in
    let device = ap (λ d. d.device) c.in_ok-failure.ensures.device in
    let same =
    subst (λ x. exchanged (answer x.file) x.file.device.packet (has_data bytes) before c.loop-t.device.device (Some sent) c.at-fate.result ≡ ends)
    c.loop-t.invariant.description (cc)
    in
    let goes =
    subst (λ f. exchanged (answer file) file.device.packet (has_data bytes) before c.loop-t.device.device (Some sent) f ≡ ends) c.at-fate.ensures same
    in
    record {
      leads = rw add-one
          (Leads-more (answer file) file.device.packet bytes c.args.fates.now c.args.before (record { transfer = transfer_of c.args.sender.now; got = [] })
          c.args.device.now.device c.loop-t.transactions before c.loop-t.device.device sent after c.exchange.new.device.device asks goes
          c.loop-t.invariant.leads);
      description = ap (λ d. d.description) c.in_ok-failure.ensures.device ∙ c.loop-t.invariant.description;
      request = received.2 ∙ c.loop-t.invariant.request;
      kind = received.4 ∙ c.loop-t.invariant.kind;
      failure = search rules;
      most = omega (arith, fewer, c.loop-t.invariant.most);
    }
