use Rattle.usb_device.specs.Requests.{answer}
use Rattle.usb_bus.proofs.BesideLemmas.{beside_is}
use Rattle.usb_bus.proofs.laws.a_responder_is_such_an_owner.Goals as goal

pub returns : goal.returns
returns c = λ f room respond fits.
    beside_is f room respond fits (c.a_responder_keeps_a_table.ensures room (answer f) respond (c.a_device_keeps_its_table.ensures f))
