use Rattle.usb_bus.proofs.lemmas.all_is_asked.Goals as goal

pub returns : goal.returns
returns c = c.all_that_is_there_is_asked.ensures c.args.d.now.file c.args.d.now.speed c.known.ensures.accepted
