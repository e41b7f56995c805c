-- The widths of units.
use Rattle.std.specs.Prelude.{ℕ, ◌<◌, List}
use Rattle.std.specs.List.{AllByRecursion}

-- each of these numbers has 16 bits
abbrev pub AreUnits : List ℕ → Type 0
AreUnits units = AllByRecursion (λ u. u < 65536) units
