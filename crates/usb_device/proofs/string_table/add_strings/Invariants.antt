use Rattle.std.proofs.Common.{◌≡◌, ◌++◌, take}
use Rattle.std.specs.List.{flat_map}
use Rattle.usb_fields.specs.Units.{units_bytes}
use Rattle.usb_device.proofs.string_table.add_strings.Given as goal

abbrev pub invariant-loop-i : goal.invariant-loop-i
invariant-loop-i l = l.strings.items ≡ l.fn.strings.items ++ flat_map units_bytes (take l.i l.texts)
