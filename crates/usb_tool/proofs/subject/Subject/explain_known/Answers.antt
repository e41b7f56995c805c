use Rattle.std.proofs.Common.{◌≢◌, rules, subst, sym}
use Rattle.usb_tool.specs.Explains.{RefusesToExplain}
use Rattle.usb_tool.specs.declared.fault.ToolFault.{ToolFault}
use Rattle.usb_tool.specs.declared.fault.ToolFault.TheVariants.{Memory}
use Rattle.usb_tool.proofs.Reading.{when_err}
use Rattle.usb_tool.proofs.Explained.{cut_broken, cut_input, fault_reported}
use Rattle.usb_tool.proofs.subject.Subject.explain_known.Goals as goal

pub returns-in_err-explain_read-in-Ok-clause-err : goal.returns-in_err-explain_read-in-Ok-clause-err
returns-in_err-explain_read-in-Ok-clause-err g c =
    when_err _ _ _ c.from_residual.ensures.1
    (cut_input c.args.self.now.manner c.args.self.now.heading.now c.args.self.now.bytes.now _ _ _ _ _ c.in-Ok.is c.requires.ok c.in_err-explain_read-in-Ok.ensures.err)

pub returns-in_err-explain_read-in-Err-clause-err : goal.returns-in_err-explain_read-in-Err-clause-err
returns-in_err-explain_read-in-Err-clause-err g c =
    let report : c.from-report.result ≢ Memory = search rules in
    let known = subst (λ (t : ToolFault). t ≢ Memory) c.from-report.ensures report in
    when_err _ _ _ c.from_residual-in_err-explain_read-in-Err.ensures.1
    (cut_broken c.args.self.now.manner c.args.self.now.heading.now c.args.self.now.bytes.now _ _ _ _ _ c.in-Err.is c.requires.err known c.in_err-explain_read-in-Err.ensures.err)

pub returns-in_ok-explain_read-in-Err-clause-err : goal.returns-in_ok-explain_read-in-Err-clause-err
returns-in_ok-explain_read-in-Err-clause-err g c =
    let report : c.from-report.result ≢ Memory = search rules in
    let known = subst (λ (t : ToolFault). t ≢ Memory) c.from-report.ensures report in
    subst (λ (t : ToolFault). RefusesToExplain c.args.self.now.manner c.args.self.now.heading.now c.args.self.now.bytes.now (g.W.Write.contents c.args.w.now) (g.W.Write.contents c.explain_read-in-Err.new.w) t) (sym c.from-report.ensures)
    (fault_reported c.args.self.now.manner c.args.self.now.heading.now c.args.self.now.bytes.now _ _ _ _ c.in-Err.is c.requires.err known c.in_ok-explain_read-in-Err.ensures.explained)
