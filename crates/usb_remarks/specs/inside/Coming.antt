-- Which interfaces are still to come in a set.
use Rattle.std.specs.Prelude.{◌≡◌, ◌≤◌, ◌<◌, ◌+◌, ℕ, List, [], ◌∷◌, if◌then◌else◌, length, slice_index, take}
use Rattle.usb_remarks.specs.InterfaceNumbers.{is_numbered}
use Rattle.usb_walk.specs.Trees.{descriptors}

-- how many interfaces of this number there are
abbrev pub interfaces_of : ℕ → List (List ℕ) → ℕ
interfaces_of n [] = 0
interfaces_of n (d ∷ ds) = interfaces_of n ds + (if is_numbered n d then 1 else 0)

-- for each number
pub record Counts (counts : List ℕ) (ds : List (List ℕ)) : Type 0 where
  pub cells : length counts ≡ 256
  pub each : (n : ℕ) → n < 256 → slice_index counts n ≡ interfaces_of n ds

-- those in the bytes that are left of a set, where they are all there
abbrev pub Awaits : List ℕ → ℕ → List ℕ → Type 0
Awaits counts left ahead = left ≤ length ahead → Counts counts (descriptors (take left ahead))
