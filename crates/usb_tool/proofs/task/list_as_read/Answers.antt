use Rattle.std.proofs.Common.{refl}
use Rattle.usb_file_data.specs.declared.laws.TheConstants.{FILE_LIMIT}
use Rattle.usb_text.specs.Output.{AppendsLess}
use Rattle.usb_tool.specs.Works.{RefusesWork, TellsWork, show_task}
use Rattle.usb_tool.proofs.Inputs.{cut, report}
use Rattle.usb_tool.proofs.Works.{not_listed, work_reported}
use Rattle.usb_tool.proofs.task.list_as_read.Goals as goal

pub returns-in_err-input-clause-err : goal.returns-in_err-input-clause-err
returns-in_err-input-clause-err g c = not_listed _ _ _ _ _ c.from_residual.ensures.1 c.in_err-input.ensures.err

pub returns-clause-worked : goal.returns-clause-worked
returns-clause-worked g c =
    let takes = c.in_ok-input.ensures.ok in
    report AppendsLess (TellsWork show_task) FILE_LIMIT _ _ takes.bytes takes.read _ _ (work_reported show_task takes.bytes takes.bytes c.in_ok-input.input refl takes.taken) _ _ _ c.write.ensures.ok

pub returns-clause-err : goal.returns-clause-err
returns-clause-err g c =
    let takes = c.in_ok-input.ensures.ok in
    cut AppendsLess (TellsWork show_task) FILE_LIMIT _ _ takes.bytes takes.read _ _ (work_reported show_task takes.bytes takes.bytes c.in_ok-input.input refl takes.taken) _ _ (RefusesWork show_task) _
    c.write.ensures.err
