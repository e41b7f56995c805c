use Rattle.std.proofs.Common.{subst}
use Rattle.usb_fields.specs.Marks.{IsNextAbsent}
use Rattle.usb_file_data.specs.inside.Interfaces.{kept}
use Rattle.usb_file_data.proofs.interfaces.Interfaces.next_absent.Goals as goal

pub returns : goal.returns
unfolding kept
returns c = subst (λ t. IsNextAbsent (kept t).numbers c.args.number c.next_absent.result) c.self.view_is c.next_absent.ensures
