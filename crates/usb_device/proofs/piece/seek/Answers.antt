use Rattle.std.proofs.Common.{◌≡◌, ◌∙◌, ℕ, ◌+◌, ◌-◌, ◌≤◌, false, List, drop, find, length, ap, sym, arith}
use Rattle.usb_device.specs.Images.{count_in, has_key, piece_in, pieces_of}
use Rattle.usb_device.proofs.PieceLemmas.{all_left, passed_at}
use Rattle.usb_device.proofs.piece.seek.Goals as goal

pub loop-start-preserved : goal.loop-start-preserved
loop-start-preserved c =
    let start : ℕ = c.loop-start.start in
    let at : ℕ = start - 8 in
    let b : List ℕ = c.args.pieces.now in
    let head : 8 ≤ start = c.loop-start.invariant.head in
    let within : at + 8 ≤ length b = omega (arith, c.loop-start-test.true, head) in
    let other : has_key c.args.kind c.args.index c.args.number (piece_in (drop at b)) ≡ false =
    ap (λ (x : List ℕ). has_key c.args.kind c.args.index c.args.number (piece_in x)) (sym (all_left at b)) ∙ sym c.has_key.ensures ∙ c.if-has_key.false in
    let count : c.count.result ≡ count_in (drop at b) = c.count.ensures.count ∙ ap count_in (all_left at b) in
    let next : start + (c.count.result + 8) - 8 ≡ at + 8 + count_in (drop at b) = omega (arith, count, head) in
    record {
      same =
          ap (λ n. find (has_key c.args.kind c.args.index c.args.number) (pieces_of (drop n b))) next
          ∙ passed_at c.args.kind c.args.index c.args.number at b within other
          ∙ c.loop-start.invariant.same;
      head = omega arith;
    }
