use Rattle.usb_recorded_runs.proofs.ShownLemmas.{no_answer}
use Rattle.usb_recorded_runs.proofs.laws.no_device_answers_so.Goals as goal

pub returns : goal.returns
returns c = λ f speed requests known t accepted bytes is. no_answer f requests known t (c.a_device_keeps_its_table.ensures f) accepted.sets bytes is
