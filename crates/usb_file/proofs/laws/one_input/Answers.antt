use Rattle.usb_file.proofs.Inputs.{input_or_fault, not_input_and_fault, one_input, one_input_fault}
use Rattle.usb_file.proofs.laws.one_input.Goals as goal

pub returns-clause-some : goal.returns-clause-some
returns-clause-some c = input_or_fault c.part_laws.ensures

pub returns-clause-one : goal.returns-clause-one
returns-clause-one c = one_input c.part_laws.ensures

pub returns-clause-one_fault : goal.returns-clause-one_fault
returns-clause-one_fault c = one_input_fault c.part_laws.ensures

pub returns-clause-not_both : goal.returns-clause-not_both
returns-clause-not_both c = not_input_and_fault c.part_laws.ensures
