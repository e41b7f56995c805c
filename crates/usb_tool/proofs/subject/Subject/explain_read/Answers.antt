use Rattle.usb_explain.specs.Explanations.{explanation}
use Rattle.usb_tool.proofs.Reading.{when_err}
use Rattle.usb_tool.proofs.Explained.{cut_explained}
use Rattle.usb_tool.proofs.subject.Subject.explain_read.Goals as goal

pub returns-in_err-write_explained-clause-err : goal.returns-in_err-write_explained-clause-err
returns-in_err-write_explained-clause-err g c =
    when_err _ _ _ c.from_residual.ensures.1 (cut_explained c.args.self.now.manner.look.utf8 (explanation c.args.self.now.manner c.args.read.now c.args.self.now.bytes.now) c.args.self.now.heading.now _ _ _ c.in_err-write_explained.ensures.err)
