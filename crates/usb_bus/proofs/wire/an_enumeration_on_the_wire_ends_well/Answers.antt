use Rattle.usb_bus.proofs.wire.an_enumeration_on_the_wire_ends_well.Goals as goal

pub returns : goal.returns
returns c = λ f table speed limits n run beside accepted fits range wired.
    let all = c.an_enumeration_on_the_wire_has_fates.ensures.everything table f.device.packet speed limits n run wired in
    (all.0, all.1, c.no_owner_changes_an_enumeration.ensures.everything f table speed limits all.0 run beside accepted fits range all.1.runs)
