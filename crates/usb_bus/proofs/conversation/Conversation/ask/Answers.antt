use Rattle.std.proofs.Common.{◌≡◌, [], Err, Ok, ap, sym, ◌∙◌, subst, length}
use Rattle.usb_host.specs.Transfer.{begun}
use Rattle.usb_device.specs.Requests.{answer}
use Rattle.usb_bus.specs.Bus.{HostEnd}
use Rattle.usb_bus.specs.Converse.{AskedView, IsTalk, TalkView, asked_of, data_sent}
use Rattle.usb_bus.specs.inside.Running.{view_of, failure_of, transfer_of, LeadsTo, settled}
use Rattle.usb_bus.proofs.Conversing.{nothing_reported, talk_on}
use Rattle.usb_bus.proofs.conversation.Conversation.ask.Goals.{in-Ok+in_ok-push-in-Ok, in-Err}
use Rattle.usb_bus.proofs.conversation.Conversation.ask.Goals as goal

pub returns-clause-goes_on : goal.returns-clause-goes_on
returns-clause-goes_on c requests t =
    let i = c.self.inside in
    let v : TalkView = view_of i in
    let a : AskedView = asked_of c.args.asked in
    let fates = c.args.fates.now in
    let file = i.device.description.file in
    let h : HostEnd = record { transfer = transfer_of c.transfer_over.new.sender; got = c.in_ok-ended.ended.bytes.items } in
    let before = subst (λ x. IsTalk requests fates x) (sym c.self.view_is) t in
    let on = nothing_reported i.talk.stopped (sym c.is_some.ensures ∙ c.if-is_some.false) in
    let is_new : transfer_of c.new-sender.result ≡ begun i.address file.device.packet i.naks a.setup =
    c.new-sender.ensures.view ∙ ap (λ x. begun i.address x i.naks a.setup) c.self.invariant.0 in
    let sent : c.data_sent-sent.result.now ≡ data_sent a = c.data_sent-sent.ensures in
    let leads = subst (λ x. LeadsTo (answer file) file.device.packet (data_sent a) fates i.talk.transactions (record { transfer = x; got = [] }) i.device.device
    c.in_ok-ended.ended.transactions h c.transfer_over.new.device.device) is_new (rw (← sent) c.in_ok-ended.ensures.leads) in
    let asked = c.in_ok-ended.ensures.request ∙ ap (λ x. x.request) is_new in
    let brought : settled a.setup.length (length (data_sent a)) h.got (failure_of h.transfer.stage) ≡ c.settle.result =
    sym (c.settle.ensures ∙ ap (λ x. settled a.setup.length (length c.data_sent-sent.result.now) h.got x) c.in_ok-ended.ensures.failure
    ∙ ap (λ x. settled a.setup.length (length x) h.got (failure_of h.transfer.stage)) sent) in
    let goes = talk_on requests fates v a on before c.in_ok-ended.ended.transactions h c.transfer_over.new.device.device leads c.in_ok-ended.ensures.over asked in
    let same : c.transfer_over.new.device.description.file ≡ file = ap (λ d. d.file) c.transfer_over.ensures.description in
    elim c.match-settle.branch [
      | in-Ok+in_ok-push-in-Ok w ↦
          rw (c.state-self-inside.ensures, w.self-inside-is, w.in_ok-push-in-Ok.ensures.ok, w.follow-address.ensures, same)
          (goes (Ok w.in-Ok.reply) (brought ∙ w.in-Ok.is))
      | in-Err w ↦ rw (c.state-self-inside.ensures, w.self-inside-is, same) (goes (Err w.in-Err.why) (brought ∙ w.in-Err.is))
    ]
