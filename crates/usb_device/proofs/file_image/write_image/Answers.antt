use Rattle.usb_device.specs.Accepted.{Refuses}
use Rattle.usb_fields.proofs.Exits.{exit_err}
use Rattle.usb_device.proofs.WrittenLemmas.{file_written}
use Rattle.usb_device.proofs.file_image.write_image.Goals as goal

pub returns-clause-ok : goal.returns-clause-ok
returns-clause-ok c =
    rw (c.in_ok-add_strings.ensures, c.in_ok-image.ensures.ok, c.deref.ensures.value, c.in_ok-named.ensures.indices) (file_written c.args.f.now)

pub returns-in_err-image-clause-err : goal.returns-in_err-image-clause-err
returns-in_err-image-clause-err c =
    let fault = c.in_err-image.field-0.0 in
    exit_err c.from_residual.result fault (Refuses c.args.f.now c.args.s) c.from_residual.ensures.1 (c.in_err-image.ensures.err c.args.s)
