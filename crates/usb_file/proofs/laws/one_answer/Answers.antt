use Rattle.usb_file.proofs.Complete.{file_or_fault, one_fault, not_both}
use Rattle.usb_file.proofs.laws.one_answer.Goals as goal

pub returns-clause-some : goal.returns-clause-some
returns-clause-some c = file_or_fault c.part_laws.ensures

pub returns-clause-one_fault : goal.returns-clause-one_fault
returns-clause-one_fault c = one_fault c.part_laws.ensures

pub returns-clause-not_both : goal.returns-clause-not_both
returns-clause-not_both c = not_both c.part_laws.ensures
