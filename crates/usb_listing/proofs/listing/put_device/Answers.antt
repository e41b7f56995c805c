use Rattle.usb_listing.specs.Listing.{device_line}
use Rattle.usb_listing.proofs.listing.put_device.Goals as goal

pub returns : goal.returns
unfolding device_line
returns c = rw c.to_bytes.ensures at c.put_line.ensures
