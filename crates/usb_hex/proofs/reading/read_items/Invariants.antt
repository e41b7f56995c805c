use Rattle.std.proofs.Common.{◌≤◌, length}
use Rattle.usb_hex.proofs.Items.{Leads}
use Rattle.usb_hex.proofs.reading.read_items.Given as goal

-- the bytes so far are those of the text, and what is left has the others
abbrev pub invariant-items : goal.invariant-items
invariant-items l = Leads l.form l.shown l.rest l.bytes.items × (length l.rest ≤ length l.shown)

abbrev pub decreases-items : goal.decreases-items
decreases-items l = length l.rest
