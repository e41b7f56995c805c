use Rattle.std.proofs.Common.{◌≡◌, ◌++◌, drop, false, map, take}
use Rattle.std.specs.List.{list_any}
use Rattle.usb_file_data.specs.File.{has_no_layout, whole_set}
use Rattle.usb_device.specs.Images.{image_bytes}
use Rattle.usb_device.specs.FileImages.{indexed}
use Rattle.usb_device.proofs.file_image.add_sets.Given as goal

-- what is written, and what is to be written of the sets that are left
abbrev pub invariant-loop-i : goal.invariant-loop-i
invariant-loop-i l = record {
  written : l.pieces.items ++ image_bytes (indexed l.kind l.i (map whole_set (drop l.i l.sets))) ≡ l.fn.pieces.items ++ image_bytes (indexed l.kind 0 (map whole_set l.sets));
  allowed : list_any has_no_layout (take l.i l.sets) ≡ false;
}
