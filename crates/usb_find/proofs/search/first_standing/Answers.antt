use Rattle.std.proofs.Common.{sym, ◌∙◌, arith}
use Rattle.usb_find.proofs.Standing.{stands_here, stands_later, stands_nowhere}
use Rattle.usb_find.proofs.search.first_standing.Goals as goal

pub returns-in-Some-clause-value : goal.returns-in-Some-clause-value
returns-in-Some-clause-value g c = sym (c.loop-place.invariant.0 ∙ stands_here c.args.bytes.now c.loop-place.place c.in-Some.found c.loop-place-test.true (sym c.in-Some.ensures.value))

pub returns-in-Some-clause-looks : goal.returns-in-Some-clause-looks
returns-in-Some-clause-looks g c = λ ok.
    let i = c.loop-place.invariant in
    let on = c.in-Some.ensures.on in
    omega (arith, c.in-Some.ensures.looks ok, i.6 (c.in-Some.ensures.refused ok), i.2, on.0, on.1)

pub loop-place-preserved : goal.loop-place-preserved
loop-place-preserved g c =
    let i = c.loop-place.invariant in (
      i.0 ∙ stands_later c.args.bytes.now c.loop-place.place c.loop-place-test.true (sym c.in-None.ensures.value),
      c.in-None.ensures.kept,
      omega (arith, i.2),
      omega (arith, i.2, i.3, c.loop-place-test.true),
      omega (arith, c.in-None.ensures.base),
      (λ ok. i.5 (c.in-None.ensures.refused ok)),
      (λ ok. omega (arith, c.in-None.ensures.looks ok, i.6 (c.in-None.ensures.refused ok), i.2)),
    )

pub returns-clause-value : goal.returns-clause-value
returns-clause-value g c = sym (c.loop-place.invariant.0 ∙ stands_nowhere c.args.bytes.now c.loop-place.place (omega (arith, c.loop-place-test.false)))
