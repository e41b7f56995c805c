use Rattle.std.proofs.Common.{length}
use Rattle.usb_remarks.proofs.remarks.strings.+no_language.Given as goal

abbrev pub decreases-no_language : goal.decreases-no_language
decreases-no_language l = length l.units.now
