use Rattle.std.proofs.Common.{sym, ◌∙◌}
use Rattle.usb_file.proofs.Complete.{one_file}
use Rattle.usb_file.proofs.laws.one_file.Goals as goal

pub returns-clause-read : goal.returns-clause-read
returns-clause-read c = one_file c.part_laws.ensures

pub returns-clause-written : goal.returns-clause-written
returns-clause-written c = λ f b d x y. x.bytes ∙ sym y.bytes
