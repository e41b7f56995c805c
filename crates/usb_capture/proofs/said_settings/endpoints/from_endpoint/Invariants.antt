use Rattle.std.proofs.Common.{◌≡◌, length}
use Rattle.usb_capture.specs.SaidSettings.{endpoints_in}
use Rattle.usb_capture.proofs.said_settings.endpoints.from_endpoint.Given as goal

abbrev pub invariant-loop-rest : goal.invariant-loop-rest
invariant-loop-rest l = endpoints_in l.rest ≡ endpoints_in l.fn.descriptors

abbrev pub decreases-loop-rest : goal.decreases-loop-rest
decreases-loop-rest l = length l.rest
