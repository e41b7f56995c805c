use Rattle.std.proofs.Common.{arith}
use Rattle.usb_host.proofs.BoundLemmas.{left-begun, most_transactions-few}
use Rattle.usb_host.proofs.transfer.Transfer.new.Goals as goal

pub returns-clause-most : goal.returns-clause-most
returns-clause-most c = left-begun c.args.address c.args.packet c.args.naks c.args.s

pub returns-clause-few : goal.returns-clause-few
returns-clause-few c =
    let most = left-begun c.args.address c.args.packet c.args.naks c.args.s in
    let few = most_transactions-few c.args.packet c.args.naks c.args.s (omega arith) (omega arith) in
    omega (arith, most, few)
