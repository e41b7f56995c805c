use Rattle.std.proofs.Common.{arith}
use Rattle.std.proofs.lemmas.Bool.Decides.{nat_tests}
use Rattle.usb_host.proofs.BoundLemmas.{left-sent}
use Rattle.usb_host.specs.Transfer.{IsTransfer}
use Rattle.usb_host.proofs.transfer.Transfer.count_sent.Goals as goal

pub returns-clause-after : goal.returns-clause-after
returns-clause-after c = grind (arith, nat_tests)

pub returns-clause-fewer : goal.returns-clause-fewer
returns-clause-fewer c =
    let is : IsTransfer c.args.self.now = rw c.self.view_is at c.self.invariant in
    λ at. rw (returns-clause-after c) (left-sent c.args.self.now is at)
