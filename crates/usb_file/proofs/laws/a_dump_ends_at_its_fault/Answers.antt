use Rattle.usb_file.proofs.DumpEnds.{dumps_are_seen, dumps_end}
use Rattle.usb_file.proofs.laws.a_dump_ends_at_its_fault.Goals as goal

pub returns-clause-ends : goal.returns-clause-ends
returns-clause-ends c = dumps_end

pub returns-clause-seen : goal.returns-clause-seen
returns-clause-seen c = dumps_are_seen
