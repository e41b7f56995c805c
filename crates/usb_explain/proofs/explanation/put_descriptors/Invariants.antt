use Rattle.std.proofs.Common.{◌≡◌, ◌≤◌, ◌+◌, length, min}
use Rattle.std.specs.List.{sum_by}
use Rattle.usb_explain.specs.LastLines.{remark_count, remarks_of}
use Rattle.usb_remarks.specs.Outline.{bytes_of, outline}
use Rattle.usb_explain.specs.inside.Explaining.{ShowsSoFar}
use Rattle.usb_explain.proofs.explanation.put_descriptors.Given as goal

abbrev pub invariant-loop-descriptor : goal.invariant-loop-descriptor
invariant-loop-descriptor g l = record {
  shown : ShowsSoFar g.P.Page.seen g.P.Page.showing g.P.PassingPage.passed g.P.PassingPage.broken l.subject (outline l.subject.manner.speed l.fn.found l.fn.bytes) l.descriptor-iterator
      l.initial.page l.initial.w l.page l.w;
  end : l.end + length (bytes_of l.descriptor-iterator) ≡ length (bytes_of (outline l.subject.manner.speed l.fn.found l.fn.bytes));
  remarks : min (l.remarks + sum_by remarks_of l.descriptor-iterator) 18446744073709551615 ≡ remark_count (outline l.subject.manner.speed l.fn.found l.fn.bytes);
  most : l.remarks ≤ 18446744073709551615;
}
