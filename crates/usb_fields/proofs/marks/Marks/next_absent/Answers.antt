use Rattle.std.proofs.Common.{◌≡◌, ◌+◌, ◌<◌, ◌⊎◌, arith, inl, inr}
use Rattle.usb_fields.proofs.WordLemmas.{ends_at, runs_on}
use Rattle.usb_fields.proofs.marks.Marks.next_absent.Goals as goal
use Rattle.usb_fields.proofs.marks.Marks.next_absent.Goals.{then-ones-eq0-via-then-ones-eq0, then-ones-eq0-via-else-ones-eq0+then-next-gt255}

pub returns-then-ones-eq0 : goal.returns-then-ones-eq0
returns-then-ones-eq0 c =
    let words = c.args.self.now in
    let over : (c.trailing_ones-ones.result ≡ 0) ⊎ (255 < c.run.next + c.trailing_ones-ones.result) =
    elim c.then-ones-eq0.branch [
      | then-ones-eq0-via-then-ones-eq0 w ↦ inl w.if-ones-eq0.true
      | then-ones-eq0-via-else-ones-eq0+then-next-gt255 w ↦ inr w.if-next-gt255.true
    ] in
    record {
      least = omega (arith, c.run.invariant.least);
      before = runs_on words c.args.from c.run.next c.word.result c.trailing_ones-ones.result c.word.ensures.word c.word.type_inv c.trailing_ones-ones.ensures c.run.invariant.before;
      absent = ends_at words c.run.next c.word.result c.trailing_ones-ones.result c.word.ensures.words c.word.ensures.word c.word.type_inv c.trailing_ones-ones.ensures over;
    }

pub run-preserved : goal.run-preserved
run-preserved c = record {
  within = omega (arith, c.if-next-gt255.false);
  least = omega (arith, c.run.invariant.least);
  before = runs_on c.args.self.now c.args.from c.run.next c.word.result c.trailing_ones-ones.result c.word.ensures.word c.word.type_inv c.trailing_ones-ones.ensures c.run.invariant.before;
}
