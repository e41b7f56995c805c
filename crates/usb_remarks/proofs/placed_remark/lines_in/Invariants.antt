use Rattle.std.proofs.Common.{◌≡◌, ◌++◌}
use Rattle.std.specs.List.{flat_map}
use Rattle.usb_remarks.specs.PlacedRemarks.{remark_lines_of}
use Rattle.usb_remarks.proofs.placed_remark.lines_in.Given as goal

abbrev pub invariant-loop-descriptor : goal.invariant-loop-descriptor
invariant-loop-descriptor l = l.text.items ++ flat_map remark_lines_of l.descriptor-iterator ≡ flat_map remark_lines_of l.fn.outline
