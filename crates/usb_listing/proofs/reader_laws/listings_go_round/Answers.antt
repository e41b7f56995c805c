use Rattle.std.proofs.Common.{refl, subst, sym, ◌∙◌}
use Rattle.usb_file_data.specs.File.{File}
use Rattle.usb_listing.specs.Listing.{file_lines}
use Rattle.usb_listing.specs.Listings.{Lists}
use Rattle.usb_listing.proofs.reader_laws.listings_go_round.Goals as goal

pub returns : goal.returns
returns c = λ f g b d x y same.
    let first : Lists (file_lines f) f = record { lines = refl; bytes = b; file = x } in
    let second : Lists (file_lines f) g = record { lines = same; bytes = d; file = y } in
    let is = c.one_file.ensures.read (file_lines f) f g first second in
    let listed : File f d = subst (λ h. File h d) (sym is) y in
    x.bytes ∙ sym listed.bytes
