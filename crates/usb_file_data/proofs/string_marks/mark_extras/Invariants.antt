use Rattle.std.proofs.Common.{◌≡◌, drop}
use Rattle.std.specs.Prelude.{fold}
use Rattle.std.specs.List.{flat_map}
use Rattle.usb_fields.specs.Marks.{marked, is_marked}
use Rattle.usb_file_data.specs.inside.Walk.{extra_indices}
use Rattle.usb_file_data.proofs.string_marks.mark_extras.Given as goal

abbrev pub invariant-loop-extra : goal.invariant-loop-extra
invariant-loop-extra l = fold marked (is_marked l.marks) (flat_map extra_indices (drop l.extra-index l.extras)) ≡ fold marked (is_marked l.fn.marks) (flat_map extra_indices l.extras)
