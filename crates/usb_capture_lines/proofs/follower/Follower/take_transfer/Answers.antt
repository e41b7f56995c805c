use Rattle.usb_capture_lines.proofs.follower.Follower.take_transfer.Goals as goal

pub returns-in-Some-clause-found : goal.returns-in-Some-clause-found
returns-in-Some-clause-found c = rw c.in-Some.is c.take_over.ensures.found
