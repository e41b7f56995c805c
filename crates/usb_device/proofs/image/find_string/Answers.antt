use Rattle.std.proofs.Common.{◌≡◌, List, Some, ℕ, subst}
use Rattle.usb_device.specs.Images.{string_in}
use Rattle.usb_device.specs.inside.Places.{bytes_at, IsPlace}
use Rattle.usb_device.proofs.PlaceLemmas.{string_there}
use Rattle.usb_device.proofs.image.find_string.Goals as goal

pub returns-clause-found : goal.returns-clause-found
returns-clause-found c =
    let s = c.in_ok-strings.strings in
    let p = c.in_ok-place.place in
    let index = c.args.index in
    string_there c.args.pieces.now s p index c.args.language
    (subst (λ (b : List ℕ). IsPlace b p) c.bytes.ensures c.in_ok-place.ensures.within)
    c.in_ok-strings.ensures.found
    (subst (λ (b : List ℕ). Some (bytes_at b p) ≡ string_in index b) c.bytes.ensures c.in_ok-place.ensures.found)
