use Rattle.std.proofs.Common.{◌≡◌, ◌++◌, take}
use Rattle.std.specs.List.{flat_map}
use Rattle.usb_capture_lines.specs.Recordings.{bus_part}
use Rattle.usb_capture_lines.proofs.finding_lines.put_bus_findings.Given as goal

abbrev pub invariant-loop-finding : goal.invariant-loop-finding
invariant-loop-finding l = l.text ≡ l.initial.text ++ flat_map (bus_part l.selection l.origin) (take l.finding-index l.found)
