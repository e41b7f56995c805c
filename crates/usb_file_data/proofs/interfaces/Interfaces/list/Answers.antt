use Rattle.std.proofs.Common.{◌∙◌, ap, map}
use Rattle.usb_file_data.specs.inside.Interfaces.{first_of, kept}
use Rattle.usb_file_data.proofs.interfaces.Interfaces.list.Goals as goal

pub returns : goal.returns
unfolding kept
returns c = ap (map first_of) c.deref.ensures.value ∙ ap (λ t. (kept t).firsts) c.self.view_is
