use Rattle.std.proofs.Common.{◌≡◌, ◌-◌, ◌≤◌, length, take, vec_len, vec_capacity}
use Rattle.usb_set.proofs.encoder.add_zeros.Given as goal

abbrev pub invariant-loop-out : goal.invariant-loop-out
invariant-loop-out l = record {
  below : vec_len l.out ≤ l.end;
  room : l.end ≤ vec_capacity l.out;
  front : take (length l.fn.out.items) l.out.items ≡ l.fn.out.items;
  grows : length l.fn.out.items ≤ vec_len l.out;
}

abbrev pub decreases-loop-out : goal.decreases-loop-out
decreases-loop-out l = l.end - vec_len l.out
