use Rattle.std.proofs.Common.{◌∙◌, ap}
use Rattle.usb_fields.specs.Marks.{is_marked}
use Rattle.usb_file_data.specs.inside.Addresses.{claims, cleared, kept}
use Rattle.usb_file_data.proofs.addresses.Addresses.clear.Goals as goal

pub returns : goal.returns
unfolding kept
returns c =
    let t = c.self.inside in
    ap (λ marks. claims t.number (is_marked t.in_setting) marks t.owners) c.new-self-inside.ensures ∙ ap (λ v. cleared (kept v)) c.self.view_is
