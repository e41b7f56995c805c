use Rattle.std.proofs.Common.{refl}
use Rattle.usb_bus.specs.Enumerate.{chosen_pair}
use Rattle.usb_capture.specs.BusTransfers.{transfers_in}
use Rattle.usb_recorded_runs.specs.Exchanges.{exchanges, received}
use Rattle.usb_recorded_runs.proofs.RequestRuns.{none_answers_otherwise, run_requests}
use Rattle.usb_recorded_runs.proofs.laws.no_enumeration_answers_otherwise.Goals as goal

pub returns : goal.returns
returns c = λ f fates limits speed choice earlier n last times run.
    none_answers_otherwise (transfers_in (received times 1 (exchanges f fates earlier n)))
    (run_requests f fates times (chosen_pair limits speed choice) earlier n last refl run.0)
