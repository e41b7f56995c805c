use Rattle.std.proofs.Common.{◌≡◌, ◌++◌, take}
use Rattle.usb_file_data.specs.File.{each_string_bytes}
use Rattle.usb_file.proofs.file_writer.put_each_string.Given as goal

abbrev pub invariant-loop-string : goal.invariant-loop-string
invariant-loop-string l = l.out.items ≡ l.fn.out.items ++ each_string_bytes (take l.string-index l.strings)
