use Rattle.usb_device.proofs.endpoint_zero.EndpointZero.serve.Goals as goal

pub returns-in-Setup-clause-of : goal.returns-in-Setup-clause-of
returns-in-Setup-clause-of c = λ h. c.begin.ensures.of c.args.room.now h.0

pub returns-then-ready-clause-of : goal.returns-then-ready-clause-of
returns-then-ready-clause-of c = λ h. c.send.ensures.of c.args.room.now h
