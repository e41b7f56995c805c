use Rattle.usb_explain.specs.Fragments.{fragment_lines}
use Rattle.usb_tool.proofs.Reading.{when_err}
use Rattle.usb_tool.proofs.Explained.{cut_headed}
use Rattle.usb_tool.proofs.subject.Subject.flush_fragment.Goals as goal

pub returns-in_err-write_fragment-clause-err : goal.returns-in_err-write_fragment-clause-err
returns-in_err-write_fragment-clause-err g c =
    when_err _ _ _ c.from_residual.ensures.1
    (cut_headed c.args.self.now.manner.look.utf8 (fragment_lines c.args.self.now.manner c.args.self.now.bytes.now) c.args.self.now.heading.now _ _ _ c.in_err-write_fragment.ensures.err
    c.in_err-write_fragment.ensures.memory)
