use Rattle.std.proofs.Common.{◌≡◌, ◌≤◌, ◌+◌, length}
use Rattle.std.specs.List.{flat_map}
use Rattle.usb_text.specs.Shown.{showing_all}
use Rattle.usb_explain.specs.Descriptors.{lines_of}
use Rattle.usb_explain.specs.Fragments.{fragment, fragment_from}
use Rattle.usb_remarks.specs.Outline.{bytes_of}
use Rattle.usb_walk.specs.Trees.{descriptors}
use Rattle.usb_explain.proofs.fragment.put_descriptors.Given as goal

abbrev pub invariant-loop-length : goal.invariant-loop-length
invariant-loop-length g l = record {
  shown : showing_all g.P.Page.showing (flat_map (lines_of l.subject) (fragment_from l.speed l.position (descriptors l.rest))) (g.P.Page.seen l.page)
      ≡ showing_all g.P.Page.showing (flat_map (lines_of l.subject) (fragment l.speed l.bytes)) (g.P.Page.seen l.initial.page);
  ends : l.position.at + length (bytes_of (fragment_from l.speed l.position (descriptors l.rest))) ≡ length (bytes_of (fragment l.speed l.bytes));
  room : l.position.at + length l.rest ≡ length l.bytes;
  counted : l.position.associations ≤ l.position.at;
}

abbrev pub decreases-loop-length : goal.decreases-loop-length
decreases-loop-length g l = length l.rest
