use Rattle.usb_recorded_runs.proofs.CapturedLemmas.{captured_again}
use Rattle.usb_recorded_runs.proofs.laws.a_captured_run_is_read.Goals as goal

pub returns : goal.returns
returns c = captured_again
