use Rattle.std.proofs.Common.{add-one, sym, ◌∙◌, subst, map, take, []}
use Rattle.std.proofs.lemmas.List.{take_all}
use Rattle.usb_fields.specs.declared.setup.Setup.{Setup as SetupPacket}
use Rattle.usb_bus.specs.declared.asked.Asked.{Asked}
use Rattle.usb_bus.specs.Converse.{IsTalk, IsWholeTalk, asked_of}
use Rattle.usb_bus.proofs.Conversing.{mapped_more, whole_talk}
use Rattle.usb_bus.proofs.conversation.converse_asked.Goals as goal

pub loop-request-init : goal.loop-request-init
loop-request-init c =
    record {
      talk = c.new-conversation.ensures.begins c.args.fates.now;
      file = c.new-conversation.ensures.file;
      naks = c.new-conversation.ensures.naks;
    }

pub loop-request-preserved : goal.loop-request-preserved
loop-request-preserved c =
    let setup : SetupPacket = record { request_type = 0; request = 0; value = 0; index = 0; length = 0 } in
    let zeros : Asked = record { setup = setup; «data» = record { ref_ptr = (0, 0); now = [] } } in
    let i = c.loop-request.request-index in
    let requests = c.args.requests.now in
    record {
      talk = rw (add-one, mapped_more asked_of requests i zeros c.loop-request-test.true)
          (c.in_ok-ask.ensures.goes_on (map asked_of (take i requests)) c.loop-request.invariant.talk);
      file = c.in_ok-ask.ensures.file ∙ c.loop-request.invariant.file;
      naks = c.in_ok-ask.ensures.naks ∙ c.loop-request.invariant.naks;
    }

-- the talk of all requests
whole : (c : goal.After-into_talk) → IsWholeTalk c.args.d.now.file c.args.naks (map asked_of c.args.requests.now) c.args.fates.now c.into_talk.result
whole c =
    subst (λ t. IsWholeTalk c.args.d.now.file c.args.naks (map asked_of c.args.requests.now) c.args.fates.now t) (sym c.into_talk.ensures)
    (whole_talk c.args.d.now.file c.args.naks (map asked_of c.args.requests.now) c.args.fates.now c.loop-request.conversation
    c.loop-request.invariant.file c.loop-request.invariant.naks c.file-file.ensures.packet
    (subst (λ qs. IsTalk (map asked_of qs) c.args.fates.now c.loop-request.conversation)
    (take_all c.loop-request.request-index c.args.requests.now c.loop-request-test.false) c.loop-request.invariant.talk))

pub returns : goal.returns
returns c = whole c
