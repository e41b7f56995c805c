use Rattle.std.proofs.Common.{◌-◌, ◌+◌, ◌≤◌, length, vec_len}
use Rattle.std.specs.Io.KnownBytes.{Consumes}
use Rattle.usb_tool.proofs.input.read_all.Given as goal

abbrev pub invariant-loop-bytes : goal.invariant-loop-bytes
invariant-loop-bytes g l = record {
  read : Consumes (g.R.Read.remaining l.initial.r) (g.R.Read.remaining l.r) l.bytes.items;
  within : length l.bytes.items ≤ l.limit;
}

abbrev pub decreases-loop-bytes : goal.decreases-loop-bytes
decreases-loop-bytes g l = (l.limit + 1) - vec_len l.bytes
