use Rattle.std.proofs.Common.{◌≡◌, ◌+◌, ◌*◌, ◌≤◌, ◌++◌, length, take, vec_len, vec_capacity}
use Rattle.std.specs.List.{flat_map}
use Rattle.usb_fields.specs.Bytes.{little_endian}
use Rattle.usb_fields.proofs.units.put_units.Given as goal

abbrev pub invariant-loop-unit : goal.invariant-loop-unit
invariant-loop-unit l = record {
  room : vec_len l.out + 2 * length l.u ≤ vec_capacity l.out + 2 * l.unit-index;
  parts : l.out.items ≡ l.fn.out.items ++ flat_map little_endian (take l.unit-index l.u);
}
