use Rattle.std.proofs.Common.{◌∙◌, ap}
use Rattle.usb_fields.specs.Marks.{is_marked}
use Rattle.usb_file_data.specs.inside.Addresses.{claims, kept, begun}
use Rattle.usb_file_data.proofs.addresses.Addresses.begin.Goals as goal

pub returns : goal.returns
unfolding kept
returns c =
    let t = c.self.inside in
    ap (λ marks. claims c.args.number marks (is_marked t.in_set) t.owners) c.new-self-inside.ensures ∙ ap (λ v. begun c.args.number (kept v)) c.self.view_is
