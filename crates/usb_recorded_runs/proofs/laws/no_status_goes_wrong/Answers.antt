use Rattle.std.proofs.Common.{refl}
use Rattle.usb_bus.specs.Enumerate.{chosen_pair}
use Rattle.usb_recorded_runs.specs.Exchanges.{exchanges}
use Rattle.usb_recorded_runs.proofs.KnownRuns.{all_small, run_right}
use Rattle.usb_recorded_runs.proofs.LengthLemmas.{short_run}
use Rattle.usb_recorded_runs.proofs.RunLemmas.{regular_plain}
use Rattle.usb_recorded_runs.proofs.laws.no_status_goes_wrong.Goals as goal

pub returns : goal.returns
returns c = λ f fates limits speed choice earlier n last times run.
    let new = chosen_pair limits speed choice in
    (run_right f (c.a_device_keeps_its_table.ensures f) fates times new earlier n last refl refl run.0
    (all_small (exchanges f fates earlier n) (regular_plain f fates new earlier n last run.0 run.1)) (short_run f fates new earlier n last run.0)).directions
