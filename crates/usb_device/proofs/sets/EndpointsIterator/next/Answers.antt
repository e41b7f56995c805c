use Rattle.std.proofs.Common.{arith}
use Rattle.usb_device.proofs.OfferLemmas.{endpoint_step}
use Rattle.usb_device.proofs.sets.EndpointsIterator.next.Goals as goal

pub returns-clause-steps : goal.returns-clause-steps
returns-clause-steps c =
    endpoint_step c.args.self.now.bytes.now c.past-self.result.now (omega (arith, c.in-len2-up.len_at_least)) c.past-self.ensures
