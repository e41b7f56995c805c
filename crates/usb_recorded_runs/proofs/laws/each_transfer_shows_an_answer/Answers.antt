use Rattle.usb_recorded_runs.proofs.ShownRuns.{transfers_shown}
use Rattle.usb_recorded_runs.proofs.laws.each_transfer_shows_an_answer.Goals as goal

pub returns : goal.returns
returns c = λ f fates limits speed choice earlier n last times accepted run.
    transfers_shown f speed fates limits choice earlier n last times (c.a_device_keeps_its_table.ensures f) accepted run
