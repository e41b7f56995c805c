use Rattle.std.proofs.Common.{arith}
use Rattle.usb_capture.proofs.Clocks.{some_tens}
use Rattle.usb_capture.proofs.clock.nanoseconds_of.Goals as goal

pub nonzero_div-result : goal.nonzero_div-result
nonzero_div-result c = (let some = some_tens c.args.exponent in let h = c.in-Some.ensures in omega (arith, some, h.1))
