use Rattle.usb_remarks.proofs.EndpointWalks.{walk_has_endpoints}
use Rattle.usb_remarks.proofs.laws.a_walk_has_the_endpoints.Goals as goal

pub returns : goal.returns
returns c = walk_has_endpoints
