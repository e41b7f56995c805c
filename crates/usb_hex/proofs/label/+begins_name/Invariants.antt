use Rattle.std.proofs.Common.{length}
use Rattle.usb_hex.proofs.label.+begins_name.Given as goal

abbrev pub decreases-begins_name : goal.decreases-begins_name
decreases-begins_name l = length l.name.now
