use Rattle.std.proofs.Common.{◌-◌, ◌≡◌, ℕ, ◌<◌, ◌≤◌, true}
use Rattle.usb_fields.specs.Marks.{is_marked}
use Rattle.usb_fields.proofs.marks.Marks.next_absent.Given as goal

abbrev pub invariant-run : goal.invariant-run
invariant-run l = record {
  within : l.next < 256;
  least : l.fn.from ≤ l.next;
  before : (n : ℕ) → l.fn.from ≤ n → n < l.next → is_marked l.self n ≡ true;
}

abbrev pub decreases-run : goal.decreases-run
decreases-run l = 256 - l.next
