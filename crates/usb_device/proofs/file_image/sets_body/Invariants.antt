use Rattle.std.proofs.Common.{◌≡◌, map, take}
use Rattle.usb_device.specs.Images.{image_bytes}
use Rattle.usb_device.specs.FileImages.{set_piece}
use Rattle.usb_device.proofs.file_image.sets_body.Given as goal

abbrev pub invariant-loop-c : goal.invariant-loop-c
invariant-loop-c l = l.body.items ≡ image_bytes (map set_piece (take l.c-index l.sets))
