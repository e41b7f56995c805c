use Rattle.usb_device.proofs.endpoint_zero.EndpointZero.answer_with.Goals as goal

pub returns-clause-of : goal.returns-clause-of
returns-clause-of c = λ image h. c.send_kept.ensures.of image h.0
