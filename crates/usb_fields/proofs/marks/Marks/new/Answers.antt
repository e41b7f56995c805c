use Rattle.usb_fields.specs.Marks.{unmarked}
use Rattle.usb_fields.proofs.Cells.{funext}
use Rattle.usb_fields.proofs.WordLemmas.{none_in}
use Rattle.usb_fields.proofs.marks.Marks.new.Goals as goal

pub returns : goal.returns
returns c = funext _ unmarked (none_in 4)
