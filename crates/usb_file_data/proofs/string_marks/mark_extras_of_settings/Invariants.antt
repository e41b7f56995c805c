use Rattle.std.proofs.Common.{◌≡◌, drop}
use Rattle.std.specs.Prelude.{fold}
use Rattle.std.specs.List.{flat_map}
use Rattle.usb_fields.specs.Marks.{marked, is_marked}
use Rattle.usb_file_data.specs.inside.Walk.{setting_extra_indices}
use Rattle.usb_file_data.proofs.string_marks.mark_extras_of_settings.Given as goal

abbrev pub invariant-loop-setting : goal.invariant-loop-setting
invariant-loop-setting l = fold marked (is_marked l.marks) (flat_map setting_extra_indices (drop l.setting-index l.settings)) ≡ fold marked (is_marked l.fn.marks) (flat_map setting_extra_indices l.settings)
