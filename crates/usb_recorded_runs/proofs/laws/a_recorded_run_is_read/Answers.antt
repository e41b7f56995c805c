use Rattle.usb_recorded_runs.proofs.RecordedLemmas.{read_again}
use Rattle.usb_recorded_runs.proofs.RunLemmas.{regular_plain}
use Rattle.usb_recorded_runs.specs.Exchanges.{exchanges}
use Rattle.usb_recorded_runs.proofs.laws.a_recorded_run_is_read.Goals as goal

pub returns : goal.returns
returns c = λ f fates new earlier n last clock recorded run are. read_again clock (exchanges f fates earlier n) recorded (regular_plain f fates new earlier n last run.0 run.1) are
