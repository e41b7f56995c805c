use Rattle.usb_recorded_runs.proofs.LegalLemmas.{enumeration_legal}
use Rattle.usb_recorded_runs.proofs.laws.an_enumeration_is_a_run.Goals as goal

pub returns : goal.returns
returns c = λ f fates limits speed choice earlier n last are low run.
    (run, enumeration_legal f are (c.a_device_keeps_its_table.ensures f) fates limits speed choice earlier n last low run)
