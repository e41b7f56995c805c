use Rattle.usb_explain.proofs.FieldSteps.{no_fields}
use Rattle.usb_explain.proofs.fields.Fields.none.Goals as goal

pub returns : goal.returns
returns c = no_fields c.none.result c.none.ensures
