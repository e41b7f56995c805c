use Rattle.usb_bus.proofs.Conversing.{talk_determined}
use Rattle.usb_bus.proofs.laws.a_talk_is_determined.Goals as goal

pub returns : goal.returns
returns c = talk_determined
