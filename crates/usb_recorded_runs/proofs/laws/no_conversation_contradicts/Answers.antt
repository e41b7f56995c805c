use Rattle.usb_recorded_runs.proofs.ShownLemmas.{no_conversation}
use Rattle.usb_recorded_runs.proofs.laws.no_conversation_contradicts.Goals as goal

pub returns : goal.returns
returns c = λ f speed transfers accepted bytes each. no_conversation f (c.a_device_keeps_its_table.ensures f) accepted.sets bytes transfers each
