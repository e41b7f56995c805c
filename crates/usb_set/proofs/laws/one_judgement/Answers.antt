use Rattle.usb_set.proofs.Exact.{not_both, one_fault, judgement}
use Rattle.usb_set.proofs.laws.one_judgement.Goals as goal

pub returns-clause-some : goal.returns-clause-some
returns-clause-some c = judgement

pub returns-clause-one_fault : goal.returns-clause-one_fault
returns-clause-one_fault c = one_fault

pub returns-clause-not_both : goal.returns-clause-not_both
returns-clause-not_both c = not_both
