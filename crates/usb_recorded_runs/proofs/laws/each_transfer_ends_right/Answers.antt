use Rattle.usb_recorded_runs.proofs.EndedLemmas.{transfers_ended}
use Rattle.usb_recorded_runs.proofs.laws.each_transfer_ends_right.Goals as goal

pub returns : goal.returns
returns c = λ f fates limits speed choice earlier n last times accepted run.
    transfers_ended f speed fates limits choice earlier n last times (c.a_device_keeps_its_table.ensures f) accepted run
