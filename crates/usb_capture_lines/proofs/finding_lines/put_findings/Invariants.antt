use Rattle.std.proofs.Common.{◌≡◌, ◌++◌, take}
use Rattle.std.specs.List.{flat_map}
use Rattle.usb_capture_lines.specs.FindingLines.{finding_line}
use Rattle.usb_capture_lines.proofs.finding_lines.put_findings.Given as goal

abbrev pub invariant-loop-finding : goal.invariant-loop-finding
invariant-loop-finding l = l.text ≡ l.initial.text ++ flat_map finding_line (take l.finding-index l.found)
