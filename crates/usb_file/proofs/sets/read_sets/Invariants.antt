use Rattle.std.proofs.Common.{◌-◌, ◌≤◌, length}
use Rattle.usb_file.specs.inside.Reading.{ReadsSets}
use Rattle.usb_file.proofs.sets.read_sets.Given as goal

abbrev pub invariant-sets : goal.invariant-sets
invariant-sets l = ReadsSets l.kind l.b l.place l.sets l.end × (length l.sets ≤ l.declared)

abbrev pub decreases-sets : goal.decreases-sets
decreases-sets l = l.declared - length l.sets
