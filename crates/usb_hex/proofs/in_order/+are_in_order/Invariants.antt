use Rattle.usb_hex.proofs.in_order.+are_in_order.Given as goal

abbrev pub decreases-are_in_order : goal.decreases-are_in_order
decreases-are_in_order l = l.lines
