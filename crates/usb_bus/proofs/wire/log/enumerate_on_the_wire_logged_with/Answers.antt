use Rattle.std.proofs.Common.{true, false}
use Rattle.usb_bus.specs.Enumerate.{chosen_pair}
use Rattle.usb_bus.proofs.WireLogLemmas.{log_made, log_slight}
use Rattle.usb_bus.proofs.wire.log.enumerate_on_the_wire_logged_with.Goals as goal

pub returns-in-true-clause-run : goal.returns-in-true-clause-run
returns-in-true-clause-run g c =
    log_made true c.args.logging.packets c.args.d.now.file c.args.logging.fates.now c.args.logging.changes.now (chosen_pair c.args.limits c.args.d.now.speed c.args.choice) c.write_log.result
    (g.W.Write.contents c.args.w.now) (g.W.Write.contents c.write_log.new.w) c.write_log.ensures.log

pub returns-in-true-clause-slight : goal.returns-in-true-clause-slight
returns-in-true-clause-slight g c = λ slight.
    log_slight c.write_log.result c.args.d.now.file c.args.d.now.speed c.args.limits c.args.choice c.args.logging.fates.now c.args.logging.changes.now c.slight_damage_ends_well.ensures.any_choice
    c.known.ensures.accepted c.known.ensures.fits c.known-2.ensures slight
    (log_made true c.args.logging.packets c.args.d.now.file c.args.logging.fates.now c.args.logging.changes.now (chosen_pair c.args.limits c.args.d.now.speed c.args.choice) c.write_log.result
    (g.W.Write.contents c.args.w.now) (g.W.Write.contents c.write_log.new.w) c.write_log.ensures.log)

pub returns-in-false-clause-run : goal.returns-in-false-clause-run
returns-in-false-clause-run g c =
    log_made false c.args.logging.packets c.args.d.now.file c.args.logging.fates.now c.args.logging.changes.now (chosen_pair c.args.limits c.args.d.now.speed c.args.choice) c.write_log-in-false.result
    (g.W.Write.contents c.args.w.now) (g.W.Write.contents c.write_log-in-false.new.w) c.write_log-in-false.ensures.log

pub returns-in-false-clause-slight : goal.returns-in-false-clause-slight
returns-in-false-clause-slight g c = λ slight.
    log_slight c.write_log-in-false.result c.args.d.now.file c.args.d.now.speed c.args.limits c.args.choice c.args.logging.fates.now c.args.logging.changes.now c.slight_damage_ends_well.ensures.any_choice
    c.known.ensures.accepted c.known.ensures.fits c.known-2.ensures slight
    (log_made false c.args.logging.packets c.args.d.now.file c.args.logging.fates.now c.args.logging.changes.now (chosen_pair c.args.limits c.args.d.now.speed c.args.choice) c.write_log-in-false.result
    (g.W.Write.contents c.args.w.now) (g.W.Write.contents c.write_log-in-false.new.w) c.write_log-in-false.ensures.log)
