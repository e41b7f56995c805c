use Rattle.std.proofs.Common.{Bool, IfErr, IfOk, subst, sym}
use Rattle.std.specs.Io.KnownBytes.{Appends}
use Rattle.usb_tool.specs.Endings.{Writes}
use Rattle.usb_tool.specs.Explains.{RefusesAs, ReportsAs}
use Rattle.usb_tool.proofs.subject.Subject.explain.Goals as goal

pub returns-in-true-clause-explained : goal.returns-in-true-clause-explained
returns-in-true-clause-explained g c =
    subst
    (λ (loose : Bool). IfOk c.explain_loose.result (Writes Appends (ReportsAs loose c.args.self.now.manner c.args.self.now.heading.now) c.args.self.now.bytes.now (g.W.Write.contents c.args.w.now) (g.W.Write.contents c.explain_loose.new.w)))
    (sym c.in-true.is) c.explain_loose.ensures.explained

pub returns-in-true-clause-err : goal.returns-in-true-clause-err
returns-in-true-clause-err g c =
    subst
    (λ (loose : Bool). IfErr c.explain_loose.result (RefusesAs loose c.args.self.now.manner c.args.self.now.heading.now c.args.self.now.bytes.now (g.W.Write.contents c.args.w.now) (g.W.Write.contents c.explain_loose.new.w)))
    (sym c.in-true.is) c.explain_loose.ensures.err

pub returns-in-false-clause-explained : goal.returns-in-false-clause-explained
returns-in-false-clause-explained g c =
    subst
    (λ (loose : Bool). IfOk c.explain_known.result (Writes Appends (ReportsAs loose c.args.self.now.manner c.args.self.now.heading.now) c.args.self.now.bytes.now (g.W.Write.contents c.args.w.now) (g.W.Write.contents c.explain_known.new.w)))
    (sym c.in-false.is) c.explain_known.ensures.explained

pub returns-in-false-clause-err : goal.returns-in-false-clause-err
returns-in-false-clause-err g c =
    subst
    (λ (loose : Bool). IfErr c.explain_known.result (RefusesAs loose c.args.self.now.manner c.args.self.now.heading.now c.args.self.now.bytes.now (g.W.Write.contents c.args.w.now) (g.W.Write.contents c.explain_known.new.w)))
    (sym c.in-false.is) c.explain_known.ensures.err
