use Rattle.usb_remarks.proofs.interface_numbers.InterfaceNumbers.+has_any.Given as goal

abbrev pub decreases-has_any : goal.decreases-has_any
decreases-has_any l = l.count
