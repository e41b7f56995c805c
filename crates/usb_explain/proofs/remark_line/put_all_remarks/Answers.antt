use Rattle.std.proofs.Common.{◌∙◌, ◌+◌, List, Option, None, ap, arith, drop, get_or, length, rules}
use Rattle.std.specs.List.{flat_map}
use Rattle.usb_text.specs.Shown.{Shown, showing_all}
use Rattle.usb_remarks.specs.declared.remark.Remark.{Remark}
use Rattle.usb_remarks.specs.Outline.{described}
use Rattle.usb_explain.specs.RemarkLines.{remark_line}
use Rattle.usb_remarks.specs.RemarkValues.{there}
use Rattle.usb_explain.proofs.RemarksCounted.{at_most_one, counted_next}
use Rattle.usb_explain.proofs.RemarksShown.{all_lines}
use Rattle.usb_explain.proofs.ShownInTurn.{shown_next}
use Rattle.usb_explain.proofs.remark_line.put_all_remarks.Goals as goal

pub loop-remark-init : goal.loop-remark-init
loop-remark-init g c = record {
  shown = ap (λ (l : List Shown). showing_all g.P.Page.showing l (g.P.Page.seen c.args.page.now)) (all_lines (described c.args.d.now) c.remarks-remarks.result c.remarks-remarks.ensures);
  counted = (let all = ap length c.remarks-remarks.ensures in omega (arith, all));
  few = omega arith;
}

pub loop-remark-preserved : goal.loop-remark-preserved
loop-remark-preserved g c =
    let lines = λ (r : Option Remark). flat_map (remark_line c.args.d.now.depth) (there r) in
    record {
      shown = ap (showing_all g.P.Page.showing (flat_map lines (drop (c.loop-remark.remark-index + 1) c.remarks-remarks.result))) c.in_ok-count.ensures.shown
          ∙ shown_next g.P.Page.showing lines c.remarks-remarks.result c.loop-remark.remark-index _ _ (search rules) ∙ c.loop-remark.invariant.shown;
      counted =
          (let one = c.in_ok-count.ensures.count in
          let next = counted_next c.remarks-remarks.result c.loop-remark.remark-index None (search rules) in
          omega (arith, one, next, c.loop-remark.invariant.counted));
      few =
          (let one = c.in_ok-count.ensures.count in
          let most = at_most_one (get_or c.remarks-remarks.result c.loop-remark.remark-index None) in
          omega (arith, one, most, c.loop-remark.invariant.few));
    }
