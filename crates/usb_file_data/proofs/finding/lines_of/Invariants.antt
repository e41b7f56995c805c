use Rattle.std.proofs.Common.{◌≡◌, ◌++◌, drop}
use Rattle.usb_file_data.specs.FindingLine.{finding_lines}
use Rattle.usb_file_data.proofs.finding.lines_of.Given as goal

abbrev pub invariant-loop-finding : goal.invariant-loop-finding
invariant-loop-finding l = l.text.items ++ finding_lines (drop l.finding-index l.found) ≡ finding_lines l.found
