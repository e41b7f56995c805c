use Rattle.std.proofs.Common.{◌∙◌}
use Rattle.usb_names.specs.Classes.{class_has_names, class_of}
use Rattle.usb_names.proofs.RowLemmas.{answered}
use Rattle.usb_names.proofs.RowNames.{class_passes}
use Rattle.usb_names.proofs.class.class_row.Goals as goal

pub returns-clause-names : goal.returns-clause-names
returns-clause-names c =
    answered class_of class_has_names c.row_at.result _ (c.row_at.ensures ∙ c.place.ensures) (class_passes c.args.class)
