use Rattle.usb_c.specs.Facts.{placed_at}
use Rattle.usb_c.proofs.Placed.{PutSoFar}
use Rattle.usb_c.proofs.finding.put_all.Given as goal

abbrev pub invariant-loop-descriptor : goal.invariant-loop-descriptor
invariant-loop-descriptor l = PutSoFar placed_at l.fn.outline l.descriptor-iterator l.fn.out l.out l.filled
