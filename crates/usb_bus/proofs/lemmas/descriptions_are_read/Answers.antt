use Rattle.usb_bus.proofs.ReaderLemmas.{sets_are_read}
use Rattle.usb_bus.proofs.lemmas.descriptions_are_read.Goals as goal

pub returns : goal.returns
returns c = sets_are_read c.one_layout.ensures.begins c.one_judgement.ensures.not_both c.one_judgement.ensures.some
