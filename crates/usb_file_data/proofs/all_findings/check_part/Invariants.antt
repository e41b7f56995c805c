use Rattle.std.proofs.Common.{◌≡◌, drop, take, map}
use Rattle.usb_fields.specs.Marks.{is_marked}
use Rattle.usb_file_data.specs.Places.{at_each, is_among}
use Rattle.usb_file_data.specs.Rules.{value_of}
use Rattle.usb_file_data.specs.Findings.{part_in_order}
use Rattle.usb_file_data.specs.inside.Reports.{walked}
use Rattle.usb_file_data.specs.inside.Walk.{set_at}
use Rattle.usb_file_data.proofs.all_findings.check_part.Given as goal

abbrev pub invariant-loop-set : goal.invariant-loop-set
invariant-loop-set l = record {
  found : walked l.found (at_each (set_at l.part l.sets) l.set (drop l.set l.sets)) ≡ walked l.fn.found (part_in_order l.part l.sets);
  values : is_marked l.values ≡ is_among (map value_of (take l.set l.sets));
}
