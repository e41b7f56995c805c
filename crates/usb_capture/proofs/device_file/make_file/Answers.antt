use Rattle.std.proofs.Common.{◌∙◌, ap}
use Rattle.usb_capture.specs.DeviceFiles.{other_parts, part}
use Rattle.usb_capture.proofs.PartLemmas.{file_made, joined_at}
use Rattle.usb_capture.proofs.device_file.make_file.Goals as goal

pub returns : goal.returns
returns c =
    file_made (λ v. v.items) c.with_parts-2.result c.args.kept.now c.args.device c.args.dump.now c.in-Some.sets.items c.deref-2.result.now c.deref-3.result.now c.deref.result.now c.deref-4.result.now
    (c.deref.ensures.value ∙ c.in_ok-others.ensures ∙ ap (other_parts c.args.device) (c.part.ensures ∙ ap (part c.args.kept.now) c.beside.ensures))
    (joined_at (λ v. v.items) c.in_ok-sets.field-0 c.in-Some.sets c.args.kept.now c.args.dump.now c.deref.result.now c.in_ok-sets.ensures c.in-Some.is)
    c.deref-2.ensures.value (c.deref-4.ensures.value ∙ c.in_ok-strings.ensures)
    c.deref-3.ensures.value c.with_parts-2.ensures
