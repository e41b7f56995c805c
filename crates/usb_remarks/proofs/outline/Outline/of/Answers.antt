use Rattle.std.proofs.Common.{arith}
use Rattle.usb_remarks.proofs.Coming.{awaits_start}
use Rattle.usb_remarks.proofs.OutlineStates.{start_at}
use Rattle.usb_remarks.proofs.outline.Outline.of.Goals as goal

pub invariant_of-result : goal.invariant_of-result
invariant_of-result c = (
  c.start.ensures.counted,
  rw c.start.ensures.start (omega (arith, start_at)),
  rw c.start.ensures.start (awaits_start c.none.result c.args.bytes.now c.none.ensures),
)
