use Rattle.std.proofs.Common.{rules, ◌≡◌, ◌∙◌, length, take, min, ◌+◌, ◌-◌, sym, subst, ap}
use Rattle.usb_device.specs.declared.endpoint_zero.EndpointZero.{EndpointZero}
use Rattle.usb_device.specs.Offers.{packet_in}
use Rattle.usb_device.specs.Stages.{data_of, request_of, toggle_at, IsReceiving, IsStage}
use Rattle.usb_device.specs.View.{device_of, IsOf}
use Rattle.usb_device.specs.inside.Reactions.{received_by}
use Rattle.usb_device.proofs.WriteLemmas.{gathers_last, write_ends, write_goes_on}
use Rattle.usb_device.proofs.endpoint_zero.EndpointZero.gathers.Goals as goal

pub returns-then-bytes-left-clause-device : goal.returns-then-bytes-left-clause-device
returns-then-bytes-left-clause-device c =
    λ is.
    let e = c.args.self.now in
    let image = c.args.image.bytes.now in
    let room = c.args.room.now in
    let after = c.keep.new.room in
    let bytes = c.args.bytes.now in
    let h : IsReceiving image room (data_of e) = subst (λ stage. IsStage image room (data_of e) stage) c.requires.at is.1 in
    let right : c.args.toggle ≡ toggle_at e.toggle = search rules in
    let all : length bytes ≡ (request_of e).length - e.offset = search rules in
    let due : length bytes ≡ min (packet_in image) ((request_of e).length - e.offset) = search rules in
    let kept = ap (λ (x : EndpointZero). take x.offset after) (sym c.keep.ensures.rest) ∙ c.keep.ensures.bytes in
    subst (λ (x : EndpointZero). device_of image after (record x { stage = c.number-self.result }) ≡ (received_by image room e c.args.toggle bytes).device) (sym c.keep.ensures.rest)
    (gathers_last image room after e c.number-self.result c.keep.new.self.toggle c.args.toggle bytes c.requires.at h c.requires.received right due all c.number-self.ensures kept)

pub returns-then-bytes-left-clause-of : goal.returns-then-bytes-left-clause-of
returns-then-bytes-left-clause-of c =
    λ is.
    let e = c.args.self.now in
    let image = c.args.image.bytes.now in
    let room = c.args.room.now in
    let after = c.keep.new.room in
    let n = length c.args.bytes.now in
    let h : IsReceiving image room (data_of e) = subst (λ stage. IsStage image room (data_of e) stage) c.requires.at is.1 in
    let all : n ≡ (request_of e).length - e.offset = search rules in
    let due : n ≡ min (packet_in image) ((request_of e).length - e.offset) = search rules in
    let next : EndpointZero = record e { stage = c.number-self.result; toggle = c.keep.new.self.toggle; offset = e.offset + n } in
    subst (λ (x : EndpointZero). IsOf image after (record x { stage = c.number-self.result })) (sym c.keep.ensures.rest) (
      is.0,
      subst (λ stage. IsStage image after (data_of next) stage) (sym c.number-self.ensures)
          (write_ends image room after (data_of e) (toggle_at c.keep.new.self.toggle) n is.0 h c.keep.ensures.room c.keep.ensures.toggle due all),
    )

pub returns-else-bytes-left-clause-of : goal.returns-else-bytes-left-clause-of
returns-else-bytes-left-clause-of c =
    λ is.
    let e = c.args.self.now in
    let image = c.args.image.bytes.now in
    let room = c.args.room.now in
    let after = c.keep.new.room in
    let n = length c.args.bytes.now in
    let h : IsReceiving image room (data_of e) = subst (λ stage. IsStage image room (data_of e) stage) c.requires.at is.1 in
    let left : c.saturating_sub-left.result ≡ (request_of e).length - e.offset = search rules in
    let due : n ≡ min (packet_in image) ((request_of e).length - e.offset) = search rules in
    let next : EndpointZero = record e { toggle = c.keep.new.self.toggle; offset = e.offset + n } in
    subst (λ (x : EndpointZero). IsOf image after x) (sym c.keep.ensures.rest) (
      is.0,
      subst (λ stage. IsStage image after (data_of next) stage) (sym c.requires.at)
          (write_goes_on image room after (data_of e) (toggle_at c.keep.new.self.toggle) n is.0 h c.keep.ensures.room c.keep.ensures.toggle due (λ same. c.if-bytes-left.false (same ∙ sym left))),
    )
