use Rattle.std.proofs.Common.{◌≡◌, ◌*◌, length, take}
use Rattle.std.specs.List.{flat_map}
use Rattle.usb_fields.specs.Bytes.{little_endian}
use Rattle.usb_fields.proofs.units.put_many_units.Given as goal

abbrev pub invariant-units : goal.invariant-units
invariant-units l = record {
  count : length l.bytes ≡ 252;
  parts : take (2 * l.i) l.bytes ≡ flat_map little_endian (take l.i l.u);
}
