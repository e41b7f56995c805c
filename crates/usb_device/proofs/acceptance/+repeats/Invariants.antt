use Rattle.std.proofs.Common.{length}
use Rattle.usb_device.proofs.acceptance.+repeats.Given as goal

abbrev pub decreases-repeats : goal.decreases-repeats
decreases-repeats l = length l.numbers.now
