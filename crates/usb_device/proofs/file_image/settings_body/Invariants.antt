use Rattle.std.proofs.Common.{◌≡◌, map, take}
use Rattle.usb_device.specs.Images.{image_bytes}
use Rattle.usb_device.specs.FileImages.{setting_piece}
use Rattle.usb_device.proofs.file_image.settings_body.Given as goal

abbrev pub invariant-loop-t : goal.invariant-loop-t
invariant-loop-t l = l.body.items ≡ image_bytes (map setting_piece (take l.t-index l.settings))
