use Rattle.usb_bus.proofs.Keeps.{stays_together}
use Rattle.usb_bus.proofs.laws.both_ends_stay_in_one_transfer.Goals as goal

pub returns : goal.returns
returns c = stays_together
