-- What a walk keeps.
use Rattle.std.specs.Prelude.{◌≡◌, ◌≢◌, slice_index, ℕ, List, Bool, ◌==◌, ◌||◌, ◌<◌, if◌then◌else◌, length, Option, Some, None}
use Rattle.std.specs.List.{list_any}
use Rattle.usb_remarks.specs.SetSpeeds.{excludes_low, hints_low_or_full, is_companion, proves_full, proves_high}
use Rattle.usb_remarks.specs.declared.speed_evidence.Evidence.{Evidence}
use Rattle.std.specs.Option.{option_or}
use Rattle.usb_remarks.specs.Bindings.{binding, bound_at}
use Rattle.usb_remarks.specs.InterfaceNumbers.{has_number, has_setting}

-- What is collected of the speed of a set, descriptor by descriptor.

-- with what the descriptors before said, these descriptors say what all do
pub record Collects (all : List (List ℕ)) (e : Evidence) (ds : List (List ℕ)) : Type 0 where
  pub companion : list_any is_companion all ≡ e.companion || list_any is_companion ds
  pub high : list_any proves_high all ≡ e.high || list_any proves_high ds
  pub full : list_any proves_full all ≡ e.full || list_any proves_full ds
  pub above_low : list_any excludes_low all ≡ e.above_low || list_any excludes_low ds
  pub slow : list_any hints_low_or_full all ≡ e.slow || list_any hints_low_or_full ds

-- with what one descriptor more says
abbrev pub collected : List ℕ → Evidence → Evidence
collected d e = record {
  companion = e.companion || is_companion d;
  high = e.high || proves_high d;
  full = e.full || proves_full d;
  above_low = e.above_low || excludes_low d;
  slow = e.slow || hints_low_or_full d;
}

-- What is gathered of a set, descriptor by descriptor.

-- what a cell of a number says: the number of an association, or that there is none
abbrev pub bound_cell : ℕ → Option ℕ
bound_cell cell = if cell == 65535 then None else Some cell

-- an association binds each number below this one
abbrev pub AllBound : ℕ → List ℕ → Type 0
AllBound bound cells = (n : ℕ) → n < bound → slice_index cells n ≢ 65535

-- what is in a cell after an association that binds its number
abbrev pub bound_first : ℕ → ℕ → ℕ
bound_first cell association = if cell == 65535 then association else cell

-- the association that binds a number, with these descriptors after `count` associations
abbrev pub bound_with : List (Option ℕ) → ℕ → ℕ → List (List ℕ) → Option ℕ
bound_with table count n ds = option_or (bound_at table n) (binding n count ds)

-- with what was gathered of the descriptors before, these descriptors make up all
pub record Gathers (all : List (List ℕ)) (e : Evidence) (table : List (Option ℕ)) (count : ℕ) (there : List Bool) (ds : List (List ℕ)) : Type 0 where
  pub cells : length table ≡ 256
  pub evidence : Collects all e ds
  pub bindings : (n : ℕ) → n < 256 → binding n 0 all ≡ bound_with table count n ds
  pub number_cells : length there ≡ 256
  pub numbers : (n : ℕ) → n < 256 → has_setting n all ≡ has_number there n || has_setting n ds
