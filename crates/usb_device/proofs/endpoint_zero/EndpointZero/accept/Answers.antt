use Rattle.std.proofs.Common.{rules, length, ◌≤◌}
use Rattle.usb_device.specs.Stages.{request_of}
use Rattle.usb_device.proofs.endpoint_zero.EndpointZero.accept.Goals as goal

pub returns-clause-of : goal.returns-clause-of
returns-clause-of c =
    λ image room long h.
    let fits : (request_of c.args.self.now).length ≤ length room = search rules in
    c.begin_write.ensures.of image room h.0 fits
