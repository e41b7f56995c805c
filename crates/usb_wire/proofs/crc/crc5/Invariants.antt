use Rattle.std.proofs.Common.{◌≡◌, ◌<◌}
use Rattle.usb_wire.specs.Crc.{low_bits, token_register}
use Rattle.usb_wire.proofs.crc.crc5.Given as goal

abbrev pub invariant-loop-place : goal.invariant-loop-place
invariant-loop-place l = record {
  is : l.after ≡ token_register (low_bits l.place l.fields);
  five : l.after < 32;
}
