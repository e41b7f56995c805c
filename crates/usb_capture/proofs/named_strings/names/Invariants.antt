use Rattle.std.proofs.Common.{◌≡◌, length}
use Rattle.usb_capture.specs.Findings.{names}
use Rattle.usb_capture.proofs.named_strings.names.Given as goal

abbrev pub invariant-loop-rest : goal.invariant-loop-rest
invariant-loop-rest l = names l.fn.index l.rest ≡ names l.fn.index l.fn.descriptors

abbrev pub decreases-loop-rest : goal.decreases-loop-rest
decreases-loop-rest l = length l.rest
