use Rattle.std.proofs.Common.{◌∙◌, ap, map}
use Rattle.usb_fields.specs.Marks.{unmarked}
use Rattle.usb_file_data.specs.inside.Interfaces.{entries, first_of, kept}
use Rattle.usb_file_data.proofs.interfaces.Interfaces.clear.Goals as goal

pub returns : goal.returns
unfolding kept
returns c =
    let places = c.self.inside.places in
    let list = c.clear.new.self.items in
    ap (λ stands. entries stands (map (λ i. i.alternates) list) places (map first_of list)) c.new-self-inside.ensures
    ∙ ap (λ xs. entries unmarked (map (λ i. i.alternates) xs) places (map first_of xs)) c.clear.ensures.items
