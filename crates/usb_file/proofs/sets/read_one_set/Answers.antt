use Rattle.usb_file.proofs.SetFaults.{refuses}
use Rattle.usb_file.proofs.sets.read_one_set.Goals as goal

pub returns-in-Err-clause-err : goal.returns-in-Err-clause-err
returns-in-Err-clause-err c = refuses c.args.kind c.args.rest.now c.in-Err.fault c.set_refusal.result c.in-Err.ensures c.set_refusal.ensures.is
