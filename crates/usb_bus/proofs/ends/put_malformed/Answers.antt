use Rattle.std.proofs.lemmas.Result.{on_ok_weaker}
use Rattle.usb_bus.proofs.JoinLemmas.{joined}
use Rattle.usb_bus.proofs.ends.put_malformed.Goals as goal

pub returns : goal.returns
returns c = on_ok_weaker c.put.result (joined _ _ _ _ _ c.in_ok-put_received.ensures) c.put.ensures
