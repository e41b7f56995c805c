-- Bytes that were marked, as a test of numbers.
use Rattle.std.specs.Prelude.{◌≡◌, ◌≤◌, ◌<◌, ℕ, List, ◌==◌, ◌||◌, ◌/◌, ◌%◌, Bool, true, false, slice_index_or}
use Rattle.std.specs.Int.{bit_at}

-- no number is marked
abbrev pub unmarked : ℕ → Bool
unmarked n = false

-- this number is marked too
unfoldable pub marked : (ℕ → Bool) → ℕ → ℕ → Bool
marked marks n k = (n == k) || marks k

-- whether the bit of the number is one, in words of 64 bits
unfoldable pub is_marked : List ℕ → ℕ → Bool
is_marked words n = bit_at (slice_index_or words (n / 64) 0) (n % 64) == 1

-- the first number from this one on that isn't marked
pub record IsNextAbsent (marks : ℕ → Bool) (from next : ℕ) : Type 0 where
  pub least : from ≤ next
  pub before : (n : ℕ) → from ≤ n → n < next → marks n ≡ true
  pub absent : marks next ≡ false
