use Rattle.std.proofs.Common.{arith, subst}
use Rattle.usb_host.specs.Terms.{everything}
use Rattle.usb_device.specs.Requests.{answer}
use Rattle.usb_bus.specs.DamagedLaws.{AnySlightDamageEndsWell, IsSlightFrom}
use Rattle.usb_bus.specs.DamagedRuns.{counts_of}
use Rattle.usb_bus.specs.Enumerate.{chosen_pair, new_pair}
use Rattle.usb_bus.specs.inside.Addresses.{AsksWithin}
use Rattle.usb_bus.proofs.OneBit.{single_changes}
use Rattle.usb_bus.proofs.WireDamages.{slightly_damaged}
use Rattle.usb_bus.proofs.wire.slight_damage_ends_well.Goals as goal

any : goal.After-all_that_is_there_is_asked → AnySlightDamageEndsWell
any c = λ f speed limits choice fates changes run accepted fits range slight damaged.
    let n = counts_of fates changes run.transactions in
    let new = chosen_pair limits speed choice in
    let low = range.address_to in
    let within : AsksWithin new.host = record { limits = omega arith; phase = tt } in
    let wired = slightly_damaged f new fates changes run within slight damaged in
    let all = c.an_enumeration_on_the_wire_has_fates.ensures.any_choice new (answer f) f.device.packet n run wired in
    record {
      on_wire = wired;
      fates = all.0;
      fated = all.1;
      ends_well = (c.an_enumeration_ends_well.ensures.any_choice f speed limits choice all.0 run accepted fits range all.1.runs).0;
    }

pub returns-clause-single : goal.returns-clause-single
returns-clause-single c = λ changes few. single_changes changes few

pub returns-clause-any_choice : goal.returns-clause-any_choice
returns-clause-any_choice c = any c

pub returns-clause-ends_well : goal.returns-clause-ends_well
returns-clause-ends_well c = λ f speed limits fates changes run accepted fits range slight damaged.
    subst (λ g. IsSlightFrom (new_pair limits speed) f g limits (counts_of fates changes run.transactions) run) (c.all_that_is_there_is_asked.ensures f speed accepted)
    (any c f speed limits everything fates changes run accepted fits range slight damaged)
