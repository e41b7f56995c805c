use Rattle.usb_recorded_runs.specs.Exchanges.{exchanges}
use Rattle.usb_recorded_runs.proofs.FindingLemmas.{all_lost}
use Rattle.usb_recorded_runs.proofs.RunLemmas.{regular_plain}
use Rattle.usb_recorded_runs.proofs.laws.a_handshake_lacks_by_a_loss.Goals as goal

pub returns : goal.returns
returns c = λ f fates new earlier n last run. all_lost (exchanges f fates earlier n) (regular_plain f fates new earlier n last run.0 run.1)
