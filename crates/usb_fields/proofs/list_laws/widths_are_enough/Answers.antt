use Rattle.usb_fields.proofs.FieldLemmas.{cells_fixed, cells_tailed}
use Rattle.usb_fields.proofs.list_laws.widths_are_enough.Goals as goal

pub returns-clause-tailed : goal.returns-clause-tailed
returns-clause-tailed g c = cells_tailed

pub returns-clause-fixed : goal.returns-clause-fixed
returns-clause-fixed g c = cells_fixed
