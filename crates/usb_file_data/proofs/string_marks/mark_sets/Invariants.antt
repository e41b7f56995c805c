use Rattle.std.proofs.Common.{◌≡◌, drop}
use Rattle.std.specs.Prelude.{fold}
use Rattle.std.specs.List.{flat_map}
use Rattle.usb_fields.specs.Marks.{marked, is_marked}
use Rattle.usb_file_data.specs.File.{set_string_indices}
use Rattle.usb_file_data.proofs.string_marks.mark_sets.Given as goal

abbrev pub invariant-loop-c : goal.invariant-loop-c
invariant-loop-c l = fold marked (is_marked l.marks) (flat_map set_string_indices (drop l.c-index l.sets)) ≡ fold marked (is_marked l.fn.marks) (flat_map set_string_indices l.sets)
