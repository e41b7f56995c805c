use Rattle.std.proofs.Common.{◌≡◌, take}
use Rattle.std.specs.List.{flat_map}
use Rattle.usb_device.specs.FileImages.{endpoint_bytes}
use Rattle.usb_device.proofs.file_image.endpoints_body.Given as goal

abbrev pub invariant-loop-e : goal.invariant-loop-e
invariant-loop-e l = l.body.items ≡ flat_map endpoint_bytes (take l.e-index l.endpoints)
