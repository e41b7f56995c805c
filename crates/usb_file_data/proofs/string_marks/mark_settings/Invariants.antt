use Rattle.std.proofs.Common.{◌≡◌, drop}
use Rattle.std.specs.Prelude.{fold, map}
use Rattle.usb_fields.specs.Marks.{marked, is_marked}
use Rattle.usb_file_data.specs.File.{interface_string_index}
use Rattle.usb_file_data.proofs.string_marks.mark_settings.Given as goal

abbrev pub invariant-loop-setting : goal.invariant-loop-setting
invariant-loop-setting l = fold marked (is_marked l.marks) (map interface_string_index (drop l.setting-index l.settings)) ≡ fold marked (is_marked l.fn.marks) (map interface_string_index l.settings)
