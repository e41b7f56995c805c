use Rattle.std.proofs.Common.{◌-◌, ◌≤◌, length}
use Rattle.usb_file.specs.inside.Reading.{ReadsDueStrings}
use Rattle.usb_file.proofs.strings.read_due_strings.Given as goal

abbrev pub invariant-due : goal.invariant-due
invariant-due l = ReadsDueStrings l.b l.place l.strings l.end × (length l.strings ≤ l.due)

abbrev pub decreases-due : goal.decreases-due
decreases-due l = l.due - length l.strings
