use Rattle.usb_file_data.proofs.Copies.{copied_file, if_copied}
use Rattle.usb_file_data.proofs.laws.a_copy_is_its_original.Goals as goal

pub returns : goal.returns
returns c = if_copied _ _ _ _ c.clone.ensures.cases (copied_file c.args.f.now)
