use Rattle.usb_file_data.specs.inside.Ends.{AreEnds}
use Rattle.usb_file_data.proofs.order.ends_of.Given as goal

abbrev pub invariant-loop-place : goal.invariant-loop-place
invariant-loop-place l = AreEnds l.found l.place l.ends
