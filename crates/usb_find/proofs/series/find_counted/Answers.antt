use Rattle.std.proofs.Common.{rules, arith}
use Rattle.usb_find.proofs.OneByOne.{put_more, rest_more}
use Rattle.usb_find.proofs.series.find_counted.Goals as goal

pub loop-count-preserved : goal.loop-count-preserved
loop-count-preserved g c =
    let i = c.loop-count.invariant in
    let on = c.in-Some.ensures.on in (
      put_more c.args.bytes.now c.loop-count.found c.args.start c.loop-count.place c.loop-count.count c.in-Some.next c.loop-count-test.true i.0 c.in-Some.ensures.some,
      rest_more _ c.loop-count.found c.loop-count.count c.in-Some.next i.1,
      search rules,
      search rules,
      c.in-Some.ensures.kept,
      omega (arith, i.5, on.0, on.1),
      omega (arith, i.5, i.6, on.0, on.1, on.2),
      on.3,
      (λ ok. omega (arith, c.in-Some.ensures.looks ok, i.8 (c.in-Some.ensures.refused ok), i.5, on.0, on.1)),
    )
