use Rattle.usb_file_data.proofs.Copies.{copied_other, if_copied}
use Rattle.usb_file_data.proofs.laws.a_copied_other_is_its_original.Goals as goal

pub returns : goal.returns
returns c = if_copied _ _ _ _ c.clone.ensures.cases (copied_other c.args.other.now)
