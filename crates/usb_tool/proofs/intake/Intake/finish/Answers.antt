use Rattle.std.proofs.Common.{◌≡◌, ◌∙◌, subst}
use Rattle.usb_file_data.specs.FileFaults.{ReadRefused}
use Rattle.usb_tool.specs.Inputs.{SetOrFileShows}
use Rattle.usb_tool.specs.inside.Intake.{IsIntake}
use Rattle.usb_tool.proofs.Reading.{when_err}
use Rattle.usb_tool.proofs.Inputs.{no_file}
use Rattle.usb_tool.proofs.intake.Intake.finish.Goals as goal

pub returns-in_err-read_file-in-File-clause-err : goal.returns-in_err-read_file-in-File-clause-err
returns-in_err-read_file-in-File-clause-err c =
    let fault = c.in_err-read_file-in-File.field-0.0 in
    when_err _ _ _ c.from_residual-in_err-read_file-in-File.ensures.1 (λ b counted kept.
    let is = subst (λ intake. IsIntake intake b) c.in-File.is kept in
    let all : c.deref.result.now ≡ b = c.deref.ensures.value ∙ is.0 in
    no_file SetOrFileShows b fault (λ faulty. (is.1, faulty)) (subst (λ s. ReadRefused s fault.at fault.why) all c.in_err-read_file-in-File.ensures.err))
