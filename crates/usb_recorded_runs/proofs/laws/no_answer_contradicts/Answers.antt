use Rattle.usb_recorded_runs.proofs.ShownRuns.{none_contradicts}
use Rattle.usb_recorded_runs.proofs.laws.no_answer_contradicts.Goals as goal

pub returns : goal.returns
returns c = λ f fates limits speed choice earlier n last times accepted bytes run.
    none_contradicts f speed fates limits choice earlier n last times (c.a_device_keeps_its_table.ensures f) accepted run
    c.no_device_answers_so.ensures bytes
