use Rattle.std.proofs.Common.{◌≡◌, ◌≤◌, length}
use Rattle.usb_hex.specs.TwoReadings.{is_binary}
use Rattle.usb_hex.specs.Columns.{after_all}
use Rattle.usb_hex.proofs.two_readings.after_bits.Given as goal

abbrev pub invariant-loop-rest : goal.invariant-loop-rest
invariant-loop-rest l = (after_all is_binary l.rest ≡ after_all is_binary l.text) × (length l.rest ≤ length l.text)

abbrev pub decreases-loop-rest : goal.decreases-loop-rest
decreases-loop-rest l = length l.rest
