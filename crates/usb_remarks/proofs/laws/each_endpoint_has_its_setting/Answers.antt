use Rattle.usb_remarks.proofs.EndpointsShown.{whole_shows_endpoints}
use Rattle.usb_remarks.proofs.laws.each_endpoint_has_its_setting.Goals as goal

pub returns : goal.returns
returns c = whole_shows_endpoints
