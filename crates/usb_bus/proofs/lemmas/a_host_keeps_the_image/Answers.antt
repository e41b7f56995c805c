use Rattle.usb_bus.proofs.ImageLemmas.{stays}
use Rattle.usb_bus.proofs.KeepLemmas.{SetLaws}
use Rattle.usb_bus.proofs.lemmas.a_host_keeps_the_image.Goals as goal

pub returns : goal.returns
returns c = λ set_of limits terms exact.
    let laws : SetLaws = record {
      begins = c.one_layout.ensures.begins;
      not_both = c.one_judgement.ensures.not_both;
      more_layout = c.more_bytes.ensures.layout;
      more_fault = c.more_bytes.ensures.fault;
    } in
    stays laws set_of limits terms exact
