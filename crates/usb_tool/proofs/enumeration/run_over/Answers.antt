use Rattle.std.proofs.Common.{List, ◌∙◌, subst, sym}
use Rattle.std.specs.Prelude.{IfErr, IfOk}
use Rattle.usb_bus.specs.declared.wire.change.BitChange.{BitChange}
use Rattle.usb_tool.specs.Enumerations.{under}
use Rattle.usb_tool.specs.inside.Telling.{BreaksRun, MakesRun}
use Rattle.usb_tool.proofs.Telling.{none_changed}
use Rattle.usb_tool.proofs.enumeration.run_over.Goals as goal

-- src/enumeration.rt: a bus that carries no bytes changes none
pub run_losing-requires : goal.run_losing-requires
run_losing-requires g c = (none_changed c.args.enumeration.now.changes.now c.args.enumeration.now.flags (sym c.has_bytes.ensures ∙ c.if-has_bytes.false)).1

pub returns-else-has_bytes-clause-ok : goal.returns-else-has_bytes-clause-ok
returns-else-has_bytes-clause-ok g c =
    subst (λ (changes : List BitChange). IfOk c.run_losing.result (MakesRun (under c.args.enumeration.now.limits c.args.d.now.speed c.args.enumeration.now.fates.now changes c.args.enumeration.now.flags) c.args.d.now.file (g.W.Write.contents c.args.w.now) (g.W.Write.contents c.run_losing.new.w)))
    (sym (none_changed c.args.enumeration.now.changes.now c.args.enumeration.now.flags (sym c.has_bytes.ensures ∙ c.if-has_bytes.false)).0) c.run_losing.ensures.ok

pub returns-else-has_bytes-clause-err : goal.returns-else-has_bytes-clause-err
returns-else-has_bytes-clause-err g c =
    subst (λ (changes : List BitChange). IfErr c.run_losing.result (BreaksRun (under c.args.enumeration.now.limits c.args.d.now.speed c.args.enumeration.now.fates.now changes c.args.enumeration.now.flags) c.args.d.now.file (g.W.Write.contents c.args.w.now) (g.W.Write.contents c.run_losing.new.w)))
    (sym (none_changed c.args.enumeration.now.changes.now c.args.enumeration.now.flags (sym c.has_bytes.ensures ∙ c.if-has_bytes.false)).0) c.run_losing.ensures.err
