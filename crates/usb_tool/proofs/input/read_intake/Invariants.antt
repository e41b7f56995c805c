use Rattle.std.proofs.Common.{◌-◌, ◌+◌, ◌≤◌}
use Rattle.usb_tool.specs.inside.Intake.{ReadsSoFar}
use Rattle.usb_tool.proofs.input.read_intake.Given as goal

abbrev pub invariant-loop-intake : goal.invariant-loop-intake
invariant-loop-intake g l = record {
  so_far : ReadsSoFar (g.R.Read.remaining l.fn.r) (g.R.Read.remaining l.r) l.intake l.count;
  many : 2 ≤ l.count;
  within : l.count ≤ l.limit;
}

abbrev pub decreases-loop-intake : goal.decreases-loop-intake
decreases-loop-intake g l = (l.limit + 1) - l.count
