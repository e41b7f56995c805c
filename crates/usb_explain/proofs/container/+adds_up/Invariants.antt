use Rattle.usb_explain.proofs.container.+adds_up.Given as goal

abbrev pub decreases-adds_up : goal.decreases-adds_up
decreases-adds_up l = l.left
