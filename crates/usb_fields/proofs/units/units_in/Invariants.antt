use Rattle.std.proofs.Common.{◌≡◌, ◌++◌, ◌+◌, ◌*◌, ◌%◌, ◌≤◌, length, vec_capacity}
use Rattle.std.specs.List.{flat_map}
use Rattle.usb_fields.specs.Bytes.{little_endian}
use Rattle.usb_fields.proofs.units.units_in.Given as goal

abbrev pub invariant-loop-rest : goal.invariant-loop-rest
invariant-loop-rest l = record {
  even : length l.rest % 2 ≡ 0;
  long : 2 * length l.units.items + length l.rest ≡ length l.b;
  room : length l.b ≤ 2 * vec_capacity l.units;
  parts : l.b ≡ flat_map little_endian l.units.items ++ l.rest;
}

abbrev pub decreases-loop-rest : goal.decreases-loop-rest
decreases-loop-rest l = length l.rest
