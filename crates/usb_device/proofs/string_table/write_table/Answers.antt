use Rattle.std.proofs.Common.{◌≡◌, suc, ◌+◌, ◌-◌, ◌<◌, ◌++◌, drop, length, get_or, sym, ap, ◌∙◌, arith, [], ◌∷◌}
use Rattle.usb_fields.specs.Units.{units_bytes}
use Rattle.usb_device.specs.FileImages.{places}
use Rattle.usb_device.specs.Images.{table_bytes}
use Rattle.usb_device.proofs.TableLemmas.{last_place, named_next, no_more, other_next}
use Rattle.usb_device.proofs.string_table.write_table.Goals.{then-from-index, else-from-index, then-loop-index-test+else-i-count, else-loop-index-test}
use Rattle.usb_device.proofs.string_table.write_table.Goals as goal

pub loop-index-preserved : goal.loop-index-preserved
loop-index-preserved c =
    let named = c.args.named.now in
    let texts = c.args.texts.now in
    let i = c.loop-index.i in
    let index = c.loop-index.index in
    let place = c.loop-index.place in
    let old = c.loop-index.table.items in
    let n = 256 - (index + 1) in
    let in_named : i < length named = omega (arith, c.if-i-count.true, c.min-count.ensures) in
    let in_texts : i < length texts = omega (arith, c.if-i-count.true, c.min-count.ensures) in
    let count : suc n ≡ 256 - index = omega (arith, c.loop-index-test.true) in
    let before : old ++ table_bytes (places (suc n) index place (drop i named) (drop i texts)) ≡ table_bytes (places 255 1 0 named texts) =
    ap (λ k. old ++ table_bytes (places k index place (drop i named) (drop i texts))) count ∙ c.loop-index.invariant in
    elim c.if-from-index.branch [
      | then-from-index w ↦
          let u = w.index-texts-i.result in
          let long : c.if-from-index.place ≡ place + length (units_bytes (get_or texts i u)) =
          w.place-is ∙ ap (λ k. place + k) (w.string_length-place.ensures.length ∙ ap (λ v. length (units_bytes v)) (w.deref.ensures ∙ w.index-texts-i.is)) in
          rw (c.in_ok-add_number.ensures.added, long, w.i-is) (named_next n index place i named texts u old in_named in_texts (sym c.from.ensures ∙ w.if-from-index.true) ∙ before)
      | else-from-index w ↦
          rw (c.in_ok-add_number.ensures.added, w.place-is, w.i-is) (other_next n index place i named texts [] old in_named in_texts (λ e. w.if-from-index.false (c.from.ensures ∙ e)) ∙ before)
    ]

pub returns : goal.returns
returns c =
    let named = c.args.named.now in
    let texts = c.args.texts.now in
    let i = c.loop-index.i in
    let index = c.loop-index.index in
    let place = c.loop-index.place in
    let last : places (256 - index) index place (drop i named) (drop i texts) ≡ place ∷ [] =
    elim c.loop-index-test.branch [
      | then-loop-index-test+else-i-count w ↦ last_place (256 - index) index place i named texts (omega (arith, w.if-i-count.false, c.min-count.ensures))
      | else-loop-index-test w ↦ no_more (256 - index) index place (drop i named) (drop i texts) (omega (arith, w.loop-index-test.false))
    ] in
    c.in_ok-add_number-2.ensures.added ∙ ap (λ ws. c.loop-index.table.items ++ table_bytes ws) (sym last) ∙ c.loop-index.invariant
