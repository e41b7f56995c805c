use Rattle.std.proofs.Common.{◌≡◌, length}
use Rattle.usb_walk.specs.Trees.{descriptors}
use Rattle.usb_remarks.specs.SettingRemarks.{has_wanted}
use Rattle.usb_remarks.proofs.remarks.settings.has_wanted.Given as goal

abbrev pub invariant-loop-length : goal.invariant-loop-length
invariant-loop-length l = has_wanted l.wanted (descriptors l.rest) ≡ has_wanted l.wanted (descriptors l.set)

abbrev pub decreases-loop-length : goal.decreases-loop-length
decreases-loop-length l = length l.rest
