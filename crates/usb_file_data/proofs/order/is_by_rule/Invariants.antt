use Rattle.std.proofs.Common.{◌≡◌, ◌≤◌, take}
use Rattle.usb_file_data.specs.Findings.{by_rule}
use Rattle.usb_file_data.proofs.Sorting.{EndsAt}
use Rattle.usb_file_data.proofs.order.is_by_rule.Given as goal

abbrev pub invariant-loop-one : goal.invariant-loop-one
invariant-loop-one l = record {
  some : 1 ≤ l.last;
  ends : EndsAt l.last (take l.one-index l.found);
  same : l.last ≤ 13 → by_rule (take l.one-index l.found) ≡ take l.one-index l.found;
}
