use Rattle.std.proofs.Common.{◌≡◌, ◌+◌, ◌≤◌, length}
use Rattle.usb_hex.specs.TwoReadings.{digits_in_line}
use Rattle.usb_hex.proofs.two_readings.digits_in_line.Given as goal

abbrev pub invariant-loop-rest : goal.invariant-loop-rest
invariant-loop-rest l = (l.count + digits_in_line l.rest ≡ digits_in_line l.text) × (l.count + length l.rest ≤ length l.text)

abbrev pub decreases-loop-rest : goal.decreases-loop-rest
decreases-loop-rest l = length l.rest
