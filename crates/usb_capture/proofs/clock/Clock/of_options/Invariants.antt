use Rattle.std.proofs.Common.{◌≡◌}
use Rattle.usb_capture.specs.Clocks.{clock_after, clock_of}
use Rattle.usb_capture.proofs.clock.Clock.of_options.Given as goal

abbrev pub invariant-loop-most : goal.invariant-loop-most
invariant-loop-most l = clock_after l.order l.most l.rest l.clock ≡ clock_of l.fn.order l.fn.options

abbrev pub decreases-loop-most : goal.decreases-loop-most
decreases-loop-most l = l.most
