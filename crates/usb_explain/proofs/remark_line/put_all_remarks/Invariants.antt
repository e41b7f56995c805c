use Rattle.std.proofs.Common.{◌≡◌, ◌≤◌, ◌+◌, Option, drop, length}
use Rattle.std.specs.List.{flat_map}
use Rattle.usb_text.specs.Shown.{showing_all}
use Rattle.usb_remarks.specs.declared.remark.Remark.{Remark}
use Rattle.usb_explain.specs.LastLines.{remarks_of}
use Rattle.usb_remarks.specs.Outline.{described}
use Rattle.usb_explain.specs.RemarkLines.{remark_line, remark_lines}
use Rattle.usb_remarks.specs.RemarkValues.{there}
use Rattle.usb_explain.proofs.remark_line.put_all_remarks.Given as goal

abbrev pub invariant-loop-remark : goal.invariant-loop-remark
invariant-loop-remark g l = record {
  shown : showing_all g.P.Page.showing (flat_map (λ (r : Option Remark). flat_map (remark_line l.d.depth) (there r)) (drop l.remark-index l.remark-items)) (g.P.Page.seen l.page)
      ≡ showing_all g.P.Page.showing (remark_lines (described l.d)) (g.P.Page.seen l.initial.page);
  counted : l.count + length (flat_map there (drop l.remark-index l.remark-items)) ≡ remarks_of (described l.d);
  few : l.count ≤ l.remark-index;
}
