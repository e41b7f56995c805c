use Rattle.usb_recorded_runs.specs.Exchanges.{exchanges}
use Rattle.usb_recorded_runs.proofs.FindingLemmas.{all_requests, none_refused}
use Rattle.usb_recorded_runs.proofs.RunLemmas.{regular_plain}
use Rattle.usb_recorded_runs.proofs.laws.each_setup_is_taken.Goals as goal

pub returns : goal.returns
returns c = λ f fates new earlier n last times run. (
  all_requests times 1 (exchanges f fates earlier n) (regular_plain f fates new earlier n last run.0 run.1),
  none_refused times 1 (exchanges f fates earlier n) (regular_plain f fates new earlier n last run.0 run.1),
)
