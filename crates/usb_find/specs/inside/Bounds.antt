-- How many looks there are.
use Rattle.std.specs.Prelude.{◌≡◌, ℕ, ◌+◌, ◌*◌, ◌<◌, ◌≤◌, List, length, drop, true, false, Some, None, ◌⊎◌}
use Rattle.usb_find.specs.declared.kept.Kept.{Kept}
use Rattle.usb_find.specs.inside.Walks.{AreWays, reaches, spot}
use Rattle.usb_find.specs.inside.Seeking.{set_length}

-- What is kept of the bytes is right: the ways of 131,000 places, or none. Fewer bytes than that and a set were walked over.
pub record IsKept (b : List ℕ) (k : Kept) : Type 0 where
  pub ways : AreWays b k.base k.ways.items 0
  pub count : (length k.ways.items ≡ 0) ⊎ ((length k.ways.items ≡ 131000) × (k.base ≤ length b))
  pub walked : k.walked < 1048576 + 65536

-- The looks that were taken for what is kept: four a way, and one for two bytes that were walked over. Those of the ways that were
-- thrown away are paid by the places since: nine a place, as they were more than 65,000.
abbrev pub paid : Kept → ℕ
paid k = 9 * k.base + 4 * length k.ways.items + k.walked

-- a set of n bytes begins at the place where its descriptors lead to its end, and none does otherwise
pub record IsTotal (b : List ℕ) (place n : ℕ) : Type 0 where
  pub least : 9 ≤ n
  pub most : n ≤ 65535
  pub within : place + n ≤ length b
  pub whole : reaches b (spot (place + 9) false) (place + n) ≡ true → set_length (drop place b) ≡ Some n
  pub broken : reaches b (spot (place + 9) false) (place + n) ≡ false → set_length (drop place b) ≡ None
