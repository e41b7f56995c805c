use Rattle.usb_fields.proofs.Exits.{exit_err}
use Rattle.usb_bus.specs.Enumerate.{chosen_pair}
use Rattle.usb_bus.specs.Log.{WritesLogLessFrom}
use Rattle.usb_bus.proofs.LogLemmas.{is_brief, log_less, log_of, log_unended}
use Rattle.usb_bus.proofs.log.write_log.Goals as goal

pub returns-clause-log : goal.returns-clause-log
returns-clause-log g c = log_of (is_brief g.row.BRIEF) g.W.Write.contents _ _ _ _ _ _ _ c.in_ok-run.ensures.walks c.in_ok-write_tally.ensures.ok

pub returns-in_err-run-clause-err : goal.returns-in_err-run-clause-err
returns-in_err-run-clause-err g c =
    exit_err c.from_residual.result _ (WritesLogLessFrom (chosen_pair c.args.limits c.args.d.now.speed c.args.choice) (is_brief g.row.BRIEF) c.args.d.now.file c.args.fates.now (g.W.Write.contents c.args.w.now) (g.W.Write.contents c.run_with.new.w))
    c.from_residual.ensures.1 (log_less (is_brief g.row.BRIEF) g.W.Write.contents _ _ _ _ _ _ c.in_err-run.ensures.breaks)

pub returns-in_err-write_tally-clause-err : goal.returns-in_err-write_tally-clause-err
returns-in_err-write_tally-clause-err g c =
    exit_err c.from_residual-in_err-write_tally.result _ (WritesLogLessFrom (chosen_pair c.args.limits c.args.d.now.speed c.args.choice) (is_brief g.row.BRIEF) c.args.d.now.file c.args.fates.now (g.W.Write.contents c.args.w.now) (g.W.Write.contents c.write_tally.new.w))
    c.from_residual-in_err-write_tally.ensures.1 (log_unended (is_brief g.row.BRIEF) g.W.Write.contents _ _ _ _ _ _ _ _ c.in_ok-run.ensures.walks c.in_err-write_tally.ensures.err)
