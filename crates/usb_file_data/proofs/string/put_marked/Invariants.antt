use Rattle.std.proofs.Common.{◌≡◌, ◌-◌, ◌≤◌, length}
use Rattle.usb_fields.specs.Marks.{is_marked}
use Rattle.usb_file_data.specs.inside.Walk.{marked_among}
use Rattle.usb_file_data.proofs.string.put_marked.Given as goal

abbrev pub invariant-search : goal.invariant-search
invariant-search l = record {
  some : 1 ≤ l.from;
  last : l.from ≤ 255;
  numbers : l.out.items ≡ marked_among 1 (l.from - 1) (is_marked l.marks);
  most : length l.out.items ≤ l.from - 1;
}

abbrev pub decreases-search : goal.decreases-search
decreases-search l = 256 - l.from
