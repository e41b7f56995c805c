-- How many findings there are up to the last one of each rule.
use Rattle.std.specs.Prelude.{◌≡◌, ◌≤◌, ◌<◌, ◌==◌, ℕ, List, filter, length, slice_index_or, take}
use Rattle.usb_file_data.specs.declared.finding.Finding.{Finding}

-- those of a number
abbrev pub numbered : ℕ → List Finding → List Finding
numbered n found = filter (λ f. f.rule == n) found

-- of the first findings, up to this place, none of a number comes after its end
pub record AreEnds (found : List Finding) (place : ℕ) (ends : List ℕ) : Type 0 where
  pub room : length ends ≡ 16
  pub within : (n : ℕ) → slice_index_or ends n 0 ≤ place
  pub all : (n : ℕ) → n < 16 → numbered n (take (slice_index_or ends n 0) found) ≡ numbered n (take place found)
