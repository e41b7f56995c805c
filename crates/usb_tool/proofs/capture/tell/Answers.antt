use Rattle.usb_tool.proofs.capture.tell.Goals as goal

pub returns-in-Ok-clause-done : goal.returns-in-Ok-clause-done
returns-in-Ok-clause-done g c = record { found = c.in-Ok.found; report = c.in-Ok.ensures.ok; ended = c.from.ensures }
