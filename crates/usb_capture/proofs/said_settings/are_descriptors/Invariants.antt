use Rattle.std.proofs.Common.{◌≡◌, length}
use Rattle.usb_capture.specs.DeviceStates.{are_descriptors}
use Rattle.usb_capture.proofs.said_settings.are_descriptors.Given as goal

abbrev pub invariant-loop-rest : goal.invariant-loop-rest
invariant-loop-rest l = are_descriptors (length l.rest) l.rest ≡ are_descriptors (length l.fn.bytes) l.fn.bytes

abbrev pub decreases-loop-rest : goal.decreases-loop-rest
decreases-loop-rest l = length l.rest
