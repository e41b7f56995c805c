use Rattle.usb_bus.proofs.wire.enumeration.enumerate_on_the_wire_with.Goals as goal

pub returns-clause-slight : goal.returns-clause-slight
returns-clause-slight c = λ slight.
    c.slight_damage_ends_well.ensures.any_choice c.args.d.now.file c.args.d.now.speed c.args.limits c.args.choice c.args.fates.now c.args.changes.now c.run_bytes.result c.known.ensures.accepted
    c.known.ensures.fits c.known-2.ensures slight c.run_bytes.ensures
