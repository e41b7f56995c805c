use Rattle.std.proofs.Common.{◌≡◌, ◌-◌, ◌++◌, drop}
use Rattle.usb_device.specs.FileImages.{places}
use Rattle.usb_device.specs.Images.{table_bytes}
use Rattle.usb_device.proofs.string_table.write_table.Given as goal

-- what is written, and what is to be written of the indices that are left
abbrev pub invariant-loop-index : goal.invariant-loop-index
invariant-loop-index l = l.table.items ++ table_bytes (places (256 - l.index) l.index l.place (drop l.i l.named) (drop l.i l.texts)) ≡ table_bytes (places 255 1 0 l.named l.texts)

abbrev pub decreases-loop-index : goal.decreases-loop-index
decreases-loop-index l = 256 - l.index
