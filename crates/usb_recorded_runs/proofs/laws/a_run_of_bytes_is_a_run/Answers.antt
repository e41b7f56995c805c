use Rattle.usb_device.specs.Requests.{answer}
use Rattle.usb_recorded_runs.specs.Exchanges.{exchanges}
use Rattle.usb_recorded_runs.proofs.CapturedLemmas.{all_legal}
use Rattle.usb_recorded_runs.proofs.CarriedLemmas.{plain_run}
use Rattle.usb_recorded_runs.proofs.RunLemmas.{regular_run}
use Rattle.usb_recorded_runs.proofs.laws.a_run_of_bytes_is_a_run.Goals as goal

pub returns : goal.returns
returns c = λ f fates new earlier n last run. (
  plain_run (answer f) f.device.packet fates new earlier n last run,
  all_legal (exchanges f fates earlier n) (regular_run f fates new earlier n last run),
)
