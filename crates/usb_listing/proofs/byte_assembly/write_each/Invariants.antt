use Rattle.std.proofs.Common.{◌≡◌, ◌++◌, take}
use Rattle.usb_file_data.specs.File.{each_string_bytes}
use Rattle.usb_listing.proofs.byte_assembly.write_each.Given as goal

abbrev pub invariant-loop-units : goal.invariant-loop-units
invariant-loop-units l = l.out.items ≡ l.fn.out.items ++ each_string_bytes (take l.units-index l.texts)
