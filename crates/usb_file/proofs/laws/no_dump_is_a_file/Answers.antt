use Rattle.std.proofs.Common.{inr}
use Rattle.usb_file.proofs.Dumps.{dump_fault}
use Rattle.usb_file.proofs.Inputs.{no_dump_is_a_file}
use Rattle.usb_file.proofs.laws.no_dump_is_a_file.Goals as goal

pub returns-clause-file : goal.returns-clause-file
returns-clause-file c = no_dump_is_a_file c.part_laws.ensures

pub returns-clause-fault : goal.returns-clause-fault
returns-clause-fault c b f dump = inr (dump_fault f b dump)
