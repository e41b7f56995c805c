use Rattle.std.proofs.Common.{◌≡◌, length}
use Rattle.usb_hex.specs.inside.Runs.{has_run}
use Rattle.usb_hex.proofs.column.has_run.Given as goal

abbrev pub invariant-loop-rest : goal.invariant-loop-rest
invariant-loop-rest l = has_run l.rest ≡ has_run l.text

abbrev pub decreases-loop-rest : goal.decreases-loop-rest
decreases-loop-rest l = length l.rest
