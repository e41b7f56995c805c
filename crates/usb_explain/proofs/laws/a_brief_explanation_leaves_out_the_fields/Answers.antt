use Rattle.usb_explain.proofs.Brief.{leaves_out}
use Rattle.usb_explain.proofs.laws.a_brief_explanation_leaves_out_the_fields.Goals as goal

pub returns : goal.returns
returns c = leaves_out
