use Rattle.std.proofs.Common.{◌≡◌, ◌∙◌, List, ℕ, ap, arith, length, slice_index, sym}
use Rattle.usb_walk.specs.NamedStrings.{indices_in}
use Rattle.usb_walk.proofs.Named.{all_named, marked_before, named_is, none_behind}
use Rattle.usb_walk.proofs.string_place.named_at.Goals as goal

pub returns-then-left-eq0 : goal.returns-then-left-eq0
returns-then-left-eq0 c =
    let words = c.args.words.now in
    let is = named_is c.loop-index.index words (omega (arith, c.loop-index.auto.index)) (omega (arith, c.loop-index-test.true)) (sym c.is_named.ensures ∙ c.if-is_named.true) in
    let number : length (marked_before c.loop-index.index words) ≡ c.args.number = omega (arith, c.loop-index.invariant, c.if-left-eq0.true) in
    sym is ∙ ap (λ k. slice_index (indices_in words) k) number

pub returns : goal.returns
returns c =
    let words = c.args.words.now in
    let all : c.loop-index.index ≡ 256 = omega (arith, c.loop-index-test.false, c.loop-index.auto.index-end) in
    let count : length (marked_before c.loop-index.index words) ≡ length (indices_in words) =
    ap (λ n. length (marked_before n words)) all ∙ ap (λ (l : List ℕ). length l) (all_named words) in
    sym (none_behind (indices_in words) c.args.number (omega (arith, c.loop-index.invariant, count)))
