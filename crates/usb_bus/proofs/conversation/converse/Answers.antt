use Rattle.std.proofs.Common.{◌≡◌, add-one, sym, ◌∙◌, subst, map, take, length, None}
use Rattle.std.specs.Prelude.{◌↔◌}
use Rattle.std.proofs.lemmas.List.{length-map, take_all}
use Rattle.usb_fields.specs.declared.setup.Setup.{Setup as SetupPacket}
use Rattle.usb_bus.specs.Converse.{IsTalk, IsWholeTalk, without_data}
use Rattle.usb_bus.proofs.Conversing.{mapped_more, whole_talk}
use Rattle.usb_bus.proofs.conversation.converse.Goals as goal

pub loop-request-init : goal.loop-request-init
loop-request-init c =
    record {
      talk = c.new-conversation.ensures.begins c.args.fates.now;
      file = c.new-conversation.ensures.file;
      naks = c.new-conversation.ensures.naks;
    }

pub loop-request-preserved : goal.loop-request-preserved
loop-request-preserved c =
    let zeros : SetupPacket = record { request_type = 0; request = 0; value = 0; index = 0; length = 0 } in
    let i = c.loop-request.request-index in
    let requests = c.args.requests.now in
    record {
      talk = rw (add-one, mapped_more without_data requests i zeros c.loop-request-test.true)
          (c.in_ok-request.ensures.goes_on (map without_data (take i requests)) c.loop-request.invariant.talk);
      file = c.in_ok-request.ensures.file ∙ c.loop-request.invariant.file;
      naks = c.in_ok-request.ensures.naks ∙ c.loop-request.invariant.naks;
    }

-- the talk of all requests
whole : (c : goal.After-into_talk) → IsWholeTalk c.args.d.now.file c.args.naks (map without_data c.args.requests.now) c.args.fates.now c.into_talk.result
whole c =
    subst (λ t. IsWholeTalk c.args.d.now.file c.args.naks (map without_data c.args.requests.now) c.args.fates.now t) (sym c.into_talk.ensures)
    (whole_talk c.args.d.now.file c.args.naks (map without_data c.args.requests.now) c.args.fates.now c.loop-request.conversation
    c.loop-request.invariant.file c.loop-request.invariant.naks c.file-file.ensures.packet
    (subst (λ qs. IsTalk (map without_data qs) c.args.fates.now c.loop-request.conversation)
    (take_all c.loop-request.request-index c.args.requests.now c.loop-request-test.false) c.loop-request.invariant.talk))

pub returns-clause-run : goal.returns-clause-run
returns-clause-run c = (whole c).run

pub returns-clause-replies : goal.returns-clause-replies
returns-clause-replies c = (whole c).replies

pub returns-clause-all : goal.returns-clause-all
returns-clause-all c =
    subst (λ n. (c.into_talk.result.stopped ≡ None) ↔ (length c.into_talk.result.replies ≡ n)) (length-map c.args.requests.now without_data) (whole c).all

pub returns-clause-state : goal.returns-clause-state
returns-clause-state c = (whole c).state

pub returns-clause-cause : goal.returns-clause-cause
returns-clause-cause c = (whole c).cause

pub returns-clause-goes_on : goal.returns-clause-goes_on
returns-clause-goes_on c = (whole c).goes_on
