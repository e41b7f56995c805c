use Rattle.std.proofs.Common.{◌≡◌, ◌++◌, take}
use Rattle.std.specs.List.{flat_map}
use Rattle.usb_capture_lines.specs.Recordings.{device_part}
use Rattle.usb_capture_lines.proofs.last_lines.put_devices.Given as goal

abbrev pub invariant-loop-device : goal.invariant-loop-device
invariant-loop-device l = l.text ≡ l.initial.text ++ flat_map (device_part l.selection l.kept) (take l.device-index l.devices)
