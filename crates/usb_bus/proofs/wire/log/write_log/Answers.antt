use Rattle.usb_bus.specs.Enumerate.{chosen_pair}
use Rattle.usb_bus.proofs.LogLemmas.{is_brief}
use Rattle.usb_bus.proofs.WireLogLemmas.{log_of}
use Rattle.usb_bus.proofs.wire.log.write_log.Goals as goal

pub returns-clause-log : goal.returns-clause-log
returns-clause-log g c =
    log_of (is_brief g.row.BRIEF) c.args.logging.packets c.args.d.now.file c.args.logging.fates.now c.args.logging.changes.now (chosen_pair c.args.limits c.args.d.now.speed c.args.choice) _
    (g.W.Write.contents c.args.w.now) (g.W.Write.contents c.run_logged.new.w) (g.W.Write.contents c.write_tally.new.w) c.in_ok-run.ensures.walks c.in_ok-write_tally.ensures.ok
