use Rattle.std.proofs.Common.{◌∙◌, ap}
use Rattle.usb_fields.specs.Marks.{is_marked, marked}
use Rattle.usb_file_data.specs.inside.Addresses.{claims, kept}
use Rattle.usb_file_data.proofs.addresses.Addresses.repeat.Goals as goal

pub returns : goal.returns
unfolding kept
returns c =
    let t = c.self.inside in
    record {
      here = c.has-here.ensures ∙ ap (λ v. (kept v).here c.args.address) c.self.view_is;
      marked = ap (λ marks. claims t.number marks (is_marked t.in_set) t.owners) c.add.ensures
          ∙ ap (λ v. record (kept v) { here = marked (kept v).here c.args.address }) c.self.view_is;
    }
