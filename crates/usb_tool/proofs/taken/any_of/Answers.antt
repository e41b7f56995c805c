use Rattle.usb_tool.proofs.Reading.{when_err}
use Rattle.usb_tool.proofs.Inputs.{no_input}
use Rattle.usb_tool.proofs.taken.any_of.Goals as goal

pub returns-in_err-input-clause-err : goal.returns-in_err-input-clause-err
returns-in_err-input-clause-err c =
    when_err _ _ _ c.from_residual.ensures.1 (no_input c.args.bytes.now c.in_err-input.field-0.0 c.in_err-input.ensures.err)
