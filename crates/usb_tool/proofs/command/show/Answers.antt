use Rattle.std.proofs.Common.{subst}
use Rattle.usb_tool.specs.Runs.{Ends}
use Rattle.usb_tool.specs.WorkOptions.{showing_task}
use Rattle.usb_tool.specs.Works.{WorkFails, Worked}
use Rattle.usb_tool.specs.declared.meaning.Hint.{Hint}
use Rattle.usb_tool.specs.declared.task.Task.{Task}
use Rattle.usb_tool.proofs.command.show.Goals as goal

pub returns : goal.returns
returns g c =
    let from = g.R.Read.remaining c.args.r.now in
    let to = g.R.Read.remaining c.work.new.r in
    let held = g.W.Write.contents c.args.w.now in
    let holds = g.W.Write.contents c.work.new.w in
    let own = showing_task c.args.options in
    subst (λ (hint : Hint). Ends hint (Worked own) (WorkFails own) from to held holds c.work.result) c.any_hint.ensures
    (subst (λ (task : Task). Ends c.any_hint.result (Worked task) (WorkFails task) from to held holds c.work.result) c.showing_task.ensures c.work.ensures)
