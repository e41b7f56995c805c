use Rattle.std.proofs.Common.{length}
use Rattle.usb_hex.proofs.source_item.+decimals.Given as goal

abbrev pub decreases-decimals : goal.decreases-decimals
decreases-decimals l = length l.text.now
