use Rattle.usb_bus.proofs.WireArrivals.{whole_or_lost}
use Rattle.usb_bus.proofs.wire.a_damaged_packet_is_a_lost_one.Goals as goal

pub returns : goal.returns
returns c = λ p received is. whole_or_lost p received is
