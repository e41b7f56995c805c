use Rattle.usb_fields.specs.Packets.{reply_of}
use Rattle.usb_host.proofs.BoundLemmas.{left-taken}
use Rattle.usb_host.proofs.RequestLemmas.{request-taken}
use Rattle.usb_host.specs.Transfer.{IsTransfer}
use Rattle.usb_host.proofs.transfer.Transfer.take.Goals as goal

pub returns-clause-fewer : goal.returns-clause-fewer
returns-clause-fewer c =
    let is : IsTransfer c.args.self.now = rw c.self.view_is at c.self.invariant in
    λ asks. rw c.take_at.ensures.after (left-taken c.args.self.now (reply_of c.args.a) is asks)

pub returns-clause-request : goal.returns-clause-request
returns-clause-request c = rw c.take_at.ensures.after (request-taken c.args.self.now (reply_of c.args.a))
