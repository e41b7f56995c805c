use Rattle.std.proofs.Common.{◌≡◌, ◌<◌, ◌&&◌, ℕ, nat_le, nat_lt, if◌then◌else◌, length, slice_index}
use Rattle.usb_remarks.specs.inside.Walking.{bound_first}
use Rattle.usb_remarks.proofs.bindings.bind_cells.Given as goal

abbrev pub invariant-loop-number : goal.invariant-loop-number
invariant-loop-number l = record {
  cells : length l.cells ≡ 256;
  bound : (n : ℕ) → n < 256
      → slice_index l.cells n ≡ (if nat_le l.first n && nat_lt n l.number then bound_first (slice_index l.initial.cells n) l.association else slice_index l.initial.cells n);
}
