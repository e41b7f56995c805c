use Rattle.std.proofs.Common.{◌≡◌, arith, slice_set, ◌/◌}
use Rattle.usb_fields.specs.Marks.{is_marked, marked}
use Rattle.usb_fields.proofs.Cells.{funext}
use Rattle.usb_fields.proofs.WordLemmas.{set_bit, word_with}
use Rattle.usb_fields.proofs.marks.Marks.add.Goals as goal

pub returns : goal.returns
returns c =
    let words = c.self.inside.words in
    let n = c.from.result in
    let step : is_marked (slice_set words (n / 64) (word_with words n)) ≡ marked (is_marked words) n =
    funext _ _ (λ k. set_bit words n k (omega (arith, c.self.invariant, c.from.ensures, c.ranges.n))) in
    cc
