use Rattle.std.proofs.Common.{rules, ◌≡◌, length, ℕ, Some, subst}
use Rattle.std.specs.Prelude.{IfErr}
use Rattle.usb_device.specs.Beside.{refused_in, room_size, unanswered, unfit_bytes}
use Rattle.usb_device.specs.FileImages.{image_of}
use Rattle.usb_device.specs.View.{View, stage_in}
use Rattle.usb_device.proofs.device.Device.answer_with.Goals as goal

pub returns-clause-err : goal.returns-clause-err
returns-clause-err c =
    let d = c.self.inside in
    let image = image_of d.description.now.file in
    let long : length d.room ≡ room_size = search rules in
    subst (λ (v : View). IfErr c.answer_with.result (λ why. unanswered (unfit_bytes room_size c.args.bytes.now) (refused_in v.device.stage) ≡ Some why)) c.self.view_is
    (subst (λ (n : ℕ). IfErr c.answer_with.result (λ why. unanswered (unfit_bytes n c.args.bytes.now) (refused_in (stage_in image d.room d.endpoint_zero)) ≡ Some why)) long
    (c.answer_with.ensures.err image))
