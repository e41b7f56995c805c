use Rattle.std.proofs.Common.{◌≡◌, length}
use Rattle.usb_capture.specs.SaidSettings.{settings_in}
use Rattle.usb_capture.proofs.said_settings.settings.from_interface.Given as goal

abbrev pub invariant-loop-rest : goal.invariant-loop-rest
invariant-loop-rest l = settings_in l.rest ≡ settings_in l.fn.descriptors

abbrev pub decreases-loop-rest : goal.decreases-loop-rest
decreases-loop-rest l = length l.rest
