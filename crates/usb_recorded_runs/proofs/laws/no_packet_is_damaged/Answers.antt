use Rattle.usb_recorded_runs.specs.Exchanges.{exchanges, packets_in}
use Rattle.usb_recorded_runs.proofs.CapturedLemmas.{all_legal}
use Rattle.usb_recorded_runs.proofs.FindingLemmas.{all_undamaged}
use Rattle.usb_recorded_runs.proofs.RunLemmas.{regular_plain}
use Rattle.usb_recorded_runs.proofs.laws.no_packet_is_damaged.Goals as goal

pub returns : goal.returns
returns c = λ f fates new earlier n last clock recorded run are.
    all_undamaged clock 1 (packets_in (exchanges f fates earlier n)) recorded (all_legal (exchanges f fates earlier n) (regular_plain f fates new earlier n last run.0 run.1)) are
