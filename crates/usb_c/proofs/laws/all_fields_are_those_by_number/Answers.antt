use Rattle.usb_c.proofs.FieldLists.{all_by_number}
use Rattle.usb_c.proofs.laws.all_fields_are_those_by_number.Goals as goal

pub returns : goal.returns
returns c = all_by_number
