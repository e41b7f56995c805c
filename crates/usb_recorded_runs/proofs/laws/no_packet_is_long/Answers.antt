use Rattle.usb_recorded_runs.specs.Exchanges.{exchanges}
use Rattle.usb_recorded_runs.proofs.LengthLemmas.{none_long, short_run}
use Rattle.usb_recorded_runs.proofs.laws.no_packet_is_long.Goals as goal

pub returns : goal.returns
returns c = λ f fates new earlier n last times run. none_long f.device.packet times 1 (exchanges f fates earlier n) (short_run f fates new earlier n last run.0)
