use Rattle.usb_set.proofs.Lifting.{keeps_bytes}
use Rattle.usb_set.proofs.laws.sets_keep_their_bytes.Goals as goal

pub returns : goal.returns
returns c = keeps_bytes
