use Rattle.std.proofs.Common.{ℕ, List, subst, sym}
use Rattle.std.specs.Prelude.{IfErr, IfOk}
use Rattle.usb_tool.specs.Works.{Gives, RefusesWork, TellsWork, form_of, work_extent, work_status, work_text}
use Rattle.usb_tool.specs.inside.Telling.{EndsWith, IsCut}
use Rattle.usb_tool.proofs.Reading.{when_err}
use Rattle.usb_tool.proofs.Works.{all_written, not_given, not_shown, not_written, work_reported}
use Rattle.usb_tool.proofs.task.work_on.Goals as goal

pub returns-in_err-bytes-clause-err : goal.returns-in_err-bytes-clause-err
returns-in_err-bytes-clause-err g c =
    when_err _ _ _ c.from_residual.ensures.1 (not_given c.args.task c.args.input.items _ _ c.in_err-bytes.ensures.err)

pub returns-in_err-taken-clause-err : goal.returns-in_err-taken-clause-err
returns-in_err-taken-clause-err g c =
    when_err _ _ _ c.from_residual-in_err-taken.ensures.1
    (not_shown c.args.task c.args.input.items c.deref.result.now _ _ (subst (Gives c.args.task.source c.args.input.items) (sym c.deref.ensures.value) c.in_ok-bytes.ensures.ok) c.in_err-taken.ensures.err)

pub returns-clause-worked : goal.returns-clause-worked
returns-clause-worked g c =
    let t = c.args.task in
    let b = c.args.input.items in
    let report = work_reported t b c.in_ok-bytes.bytes.items c.in_ok-taken.taken c.in_ok-bytes.ensures.ok (subst (form_of t.taken c.in_ok-taken.taken) c.deref.ensures.value c.in_ok-taken.ensures.ok) in
    all_written (work_extent t.work) (TellsWork t) b _ _ report _ _ _ (subst (λ (s : List ℕ). IfOk c.write.result (EndsWith (work_text t.work c.in_ok-taken.taken s) (work_status t.work c.in_ok-taken.taken s) (g.W.Write.contents c.args.w.now) (g.W.Write.contents c.write.new.w))) c.deref-2.ensures.value c.write.ensures.ok)

pub returns-clause-err : goal.returns-clause-err
returns-clause-err g c =
    let t = c.args.task in
    let b = c.args.input.items in
    let report = work_reported t b c.in_ok-bytes.bytes.items c.in_ok-taken.taken c.in_ok-bytes.ensures.ok (subst (form_of t.taken c.in_ok-taken.taken) c.deref.ensures.value c.in_ok-taken.ensures.ok) in
    not_written (work_extent t.work) (TellsWork t) b _ _ report _ _ (RefusesWork t) _ (subst (λ (s : List ℕ). IfErr c.write.result (IsCut (work_extent t.work) (work_text t.work c.in_ok-taken.taken s) (g.W.Write.contents c.args.w.now) (g.W.Write.contents c.write.new.w))) c.deref-2.ensures.value c.write.ensures.err)
