-- Past a set more.
use Rattle.std.proofs.Common.{◌≡◌, ℕ, ◌+◌, List, add-one, ap, drop}
use Rattle.usb_fields.specs.Bytes.{little_endian_at}
use Rattle.usb_file_data.specs.Likeness.{after_sets}

-- the bytes after one set more
pub one_more : (n : ℕ) (b : List ℕ) → after_sets (n + 1) b ≡ drop (little_endian_at (after_sets n b) 2) (after_sets n b)
unfolding after_sets
one_more n b = ap (λ k. after_sets k b) (add-one n)
