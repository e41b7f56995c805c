use Rattle.usb_set.proofs.Unrefused.{unrefused}
use Rattle.usb_set.proofs.laws.unrefused_sets_have_layouts.Goals as goal

pub returns : goal.returns
returns c = unrefused
