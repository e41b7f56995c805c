use Rattle.std.proofs.Common.{◌≡◌, ◌++◌, false, take}
use Rattle.std.specs.List.{list_any}
use Rattle.usb_file_data.specs.File.{has_no_layout, sets_bytes}
use Rattle.usb_file.proofs.file_writer.put_sets.Given as goal

abbrev pub invariant-loop-c : goal.invariant-loop-c
invariant-loop-c l = record {
  bytes : l.out.items ≡ l.fn.out.items ++ sets_bytes (take l.c-index l.sets);
  allowed : list_any has_no_layout (take l.c-index l.sets) ≡ false;
}
