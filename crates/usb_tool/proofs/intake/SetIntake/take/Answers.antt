use Rattle.std.proofs.Common.{rules}
use Rattle.usb_tool.proofs.Intakes.{fed_fault}
use Rattle.usb_tool.proofs.intake.SetIntake.take.Goals as goal

pub returns-else-eq-clause-ok : goal.returns-else-eq-clause-ok
returns-else-eq-clause-ok c b counted fed =
    fed_fault c.args.self.now.decoder c.feed.new.self c.args.piece.now c.in-Err.fault c.args.self.now.end b
    c.in-Err.ensures.answer (search rules) fed
