use Rattle.std.proofs.Common.{arith}
use Rattle.usb_explain.proofs.FieldSteps.{left_first}
use Rattle.usb_explain.proofs.fields.Lists.left_over.Goals as goal

pub returns-clause-first : goal.returns-clause-first
returns-clause-first c = left_first c.none.result c.args.self.rest.now c.args.count (omega arith) c.none.ensures
