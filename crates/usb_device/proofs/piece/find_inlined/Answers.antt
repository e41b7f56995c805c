use Rattle.std.proofs.Common.{◌∙◌, ℕ, ◌+◌, ◌<◌, List, Some, drop, length, take, ap, sym, arith}
use Rattle.std.specs.Option.{option_map}
use Rattle.std.proofs.lemmas.Bool.Decides.{nat_tests}
use Rattle.usb_device.specs.Images.{body_of, count_in}
use Rattle.usb_device.proofs.PieceLemmas.{all_left, found_at}
use Rattle.usb_device.proofs.piece.find_inlined.Goals as goal

pub returns-clause-found : goal.returns-clause-found
returns-clause-found c =
    let at : ℕ = c.seek-at.result in
    let b : List ℕ = c.args.pieces.now in
    let some : at < length b = grind (arith, nat_tests, c.if-at-pieces.false) in
    ap (λ x. Some x) (c.new.ensures.place ∙ ap (λ n. take n (drop (at + 8) b)) (c.count-count.ensures.count ∙ ap count_in (all_left at b)))
    ∙ sym (found_at c.args.kind c.args.index c.args.number at b (c.seek-at.ensures.whole some) (c.seek-at.ensures.here some))
    ∙ ap (option_map body_of) c.seek-at.ensures.same
