use Rattle.std.proofs.Common.{arith}
use Rattle.usb_capture.proofs.TransferLemmas.{place_end, step_here, step_on}
use Rattle.usb_capture.proofs.control_transfers.place_of.Goals as goal

pub returns-then-held-id-clause-is : goal.returns-then-held-id-clause-is
returns-then-held-id-clause-is c =
    let h = c.loop-held in
    let e = step_here c.args.id h.held-index h.place c.args.opens.now c.held-item.result c.loop-held-test.true h.invariant.0 c.held-item.is c.if-held-id.true in
    omega (arith, e, h.invariant.1)

pub loop-held-preserved : goal.loop-held-preserved
loop-held-preserved c =
    let h = c.loop-held in
    let e = step_on c.args.id h.held-index h.place c.args.opens.now c.held-item.result c.loop-held-test.true h.invariant.0 c.held-item.is c.if-held-id.false in
    (omega (arith, h.invariant.0), omega (arith, e, h.invariant.1))

pub returns-clause-is : goal.returns-clause-is
returns-clause-is c =
    let h = c.loop-held in
    let e = place_end c.args.id h.place c.args.opens.now (omega (arith, h.invariant.0, c.loop-held-test.false)) in
    omega (arith, h.invariant.1, e)
