-- The length of a string descriptor.
use Rattle.std.proofs.Common.{◌≡◌, ℕ, ◌+◌, ◌*◌, List, length, arith}
use Rattle.usb_fields.specs.Units.{units_bytes}
use Rattle.usb_fields.proofs.UnitLemmas.{length-flat_map}

pub length-units_bytes : (u : List ℕ) → length (units_bytes u) ≡ 2 + 2 * length u
length-units_bytes u = omega (arith, length-flat_map u)
