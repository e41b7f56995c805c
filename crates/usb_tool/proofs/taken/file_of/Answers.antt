use Rattle.usb_tool.specs.Inputs.{FileShows}
use Rattle.usb_tool.proofs.Reading.{when_err}
use Rattle.usb_tool.proofs.Inputs.{no_file}
use Rattle.usb_tool.proofs.taken.file_of.Goals as goal

pub returns-in_err-file-clause-err : goal.returns-in_err-file-clause-err
returns-in_err-file-clause-err c =
    when_err _ _ _ c.from_residual.ensures.1 (no_file FileShows c.args.bytes.now c.in_err-file.field-0.0 (λ shown. shown) c.in_err-file.ensures.err)
