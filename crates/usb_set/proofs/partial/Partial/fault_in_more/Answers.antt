use Rattle.std.proofs.Common.{sym}
use Rattle.usb_set.proofs.Stepping.{settled}
use Rattle.usb_set.proofs.partial.Partial.fault_in_more.Goals as goal

pub returns-then-before-ge4 : goal.returns-then-before-ge4
returns-then-before-ge4 c = sym (settled c.args.self.now c.args.bytes.now c.args.before c.if-before-ge4.true c.requires.within c.requires.fine)
