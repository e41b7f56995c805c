use Rattle.usb_tool.proofs.Reading.{when_err}
use Rattle.usb_tool.proofs.Explained.{cut_fragment}
use Rattle.usb_tool.proofs.subject.Subject.explain_loose.Goals as goal

pub returns-in_err-flush_fragment-clause-err : goal.returns-in_err-flush_fragment-clause-err
returns-in_err-flush_fragment-clause-err g c =
    when_err _ _ _ c.from_residual.ensures.1 (cut_fragment c.args.self.now.manner c.args.self.now.heading.now c.args.self.now.bytes.now _ _ _ c.in_err-flush_fragment.ensures.err)
