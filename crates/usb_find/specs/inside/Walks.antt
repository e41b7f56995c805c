-- How descriptors lead from one to the next.
use Rattle.std.specs.Prelude.{◌≡◌, ℕ, ◌+◌, ◌-◌, ◌*◌, ◌/◌, ◌<◌, ◌≤◌, ◌==◌, ◌&&◌, ◌||◌, nat_le, List, length, take, drop, slice_index, get_or, Bool, true, false, not, Option, Some, None, if◌then◌else◌}
use Rattle.usb_set.specs.Faults.{is_set_type, least_length}
use Rattle.usb_find.specs.declared.walk.Spot.{Spot}
use Rattle.usb_find.specs.declared.ways.Exit.{Exit}
use Rattle.usb_find.specs.declared.ways.Ways.{Ways}
use Rattle.usb_find.specs.inside.Seeking.{are_items}

abbrev pub spot : ℕ → Bool → Spot
spot place in_setting = record { place = place; in_setting = in_setting }

-- a descriptor of this length and type may follow in a set: it is no shorter than its type is, of no set's type, and an endpoint comes
-- after an interface
abbrev pub may_follow : Bool → ℕ → ℕ → Bool
may_follow in_setting len kind = nat_le (least_length kind) len && (not (is_set_type kind) && (in_setting || not (kind == 5)))

-- where the descriptor at a spot leads
abbrev pub next_spot : List ℕ → Spot → Option Spot
next_spot b s =
    if may_follow s.in_setting (slice_index b s.place) (slice_index b (s.place + 1))
    then Some (record { place = s.place + slice_index b s.place; in_setting = s.in_setting || (slice_index b (s.place + 1) == 4) })
    else None

-- one descriptor after another leads from a spot to a place, which is within the bytes
unfoldable pub reaches : List ℕ → Spot → ℕ → Bool
reaches b s t = nat_le s.place t && (nat_le t (length b) && are_items 0 s.in_setting (take (t - s.place) (drop s.place b)))

-- the way leads from a spot to the first one from an edge on, or nowhere
abbrev pub LeadsOut : List ℕ → ℕ → Spot → Option Spot → Type 0
LeadsOut b edge s None = (t : ℕ) → edge ≤ t → reaches b s t ≡ false
LeadsOut b edge s (Some x) = (edge ≤ x.place) × (x.place ≤ edge + 254) × ((t : ℕ) → edge ≤ t → reaches b s t ≡ reaches b x t)

abbrev pub exit_of : Bool → Ways → Option Exit
exit_of true w = w.inside
exit_of false w = w.outside

abbrev pub spot_after : ℕ → Option Exit → Option Spot
spot_after place None = None
spot_after place (Some e) = Some (record { place = place + e.ahead; in_setting = e.in_setting })

abbrev pub nowhere : Ways
nowhere = record { outside = None; inside = None }

-- where the ways that are kept from a place on lead
abbrev pub way_of : ℕ → List Ways → Spot → Option Spot
way_of base ways s = spot_after s.place (exit_of s.in_setting (get_or ways (s.place - base) nowhere))

-- the end of the block of a place
abbrev pub edge_of : ℕ → ℕ
edge_of index = (index / 1000 + 1) * 1000

-- from an index on, the ways lead out of their blocks
abbrev pub AreWays : List ℕ → ℕ → List Ways → ℕ → Type 0
AreWays b base ways from =
    (i : ℕ) (s : Bool) → from ≤ i → i < length ways → LeadsOut b (base + edge_of i) (spot (base + i) s) (way_of base ways (spot (base + i) s))
