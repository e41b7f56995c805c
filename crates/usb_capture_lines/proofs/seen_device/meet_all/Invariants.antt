use Rattle.std.proofs.Common.{◌≡◌, take}
use Rattle.usb_capture_lines.specs.Recordings.{met_all}
use Rattle.usb_capture_lines.proofs.seen_device.meet_all.Given as goal

abbrev pub invariant-loop-finding : goal.invariant-loop-finding
invariant-loop-finding l = l.devices.items ≡ met_all (take l.finding-index l.found) l.initial.devices.items
