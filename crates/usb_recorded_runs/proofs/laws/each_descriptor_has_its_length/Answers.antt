use Rattle.std.proofs.Common.{refl}
use Rattle.usb_bus.specs.Enumerate.{chosen_pair}
use Rattle.usb_capture.specs.BusTransfers.{transfers_in}
use Rattle.usb_recorded_runs.specs.Exchanges.{exchanges, received}
use Rattle.usb_recorded_runs.proofs.DescriptorLengths.{none_of_other_length}
use Rattle.usb_recorded_runs.proofs.EndedLemmas.{transfers_ended}
use Rattle.usb_recorded_runs.proofs.KnownRuns.{all_small, run_right}
use Rattle.usb_recorded_runs.proofs.LengthLemmas.{short_run}
use Rattle.usb_recorded_runs.proofs.RunLemmas.{regular_plain}
use Rattle.usb_recorded_runs.proofs.laws.each_descriptor_has_its_length.Goals as goal

pub returns : goal.returns
returns c = λ f fates limits speed choice earlier n last times accepted run.
    let new = chosen_pair limits speed choice in
    let table = c.a_device_keeps_its_table.ensures f in
    let transfers = transfers_in (received times 1 (exchanges f fates earlier n)) in
    let regular = regular_plain f fates new earlier n last run.0 run.1 in
    let sound = (run_right f table fates times new earlier n last refl refl run.0
    (all_small (exchanges f fates earlier n) regular) (short_run f fates new earlier n last run.0)).transfers in
    let ended = transfers_ended f speed fates limits choice earlier n last times table accepted run in
    none_of_other_length f.device.packet f transfers sound ended
