-- Which interface numbers have an address.
use Rattle.std.specs.Prelude.{ℕ, ◌==◌, ◌&&◌, ◌||◌, not, Bool, true, false, List, map, slice_index_or}
use Rattle.usb_set.specs.declared.tree.Endpoint.{Endpoint}
use Rattle.usb_file_data.specs.Places.{is_among}
use Rattle.usb_file_data.specs.Rules.{address_of}
use Rattle.usb_fields.specs.Marks.{marked, unmarked, is_marked}
use Rattle.usb_file_data.specs.declared.addresses.Owner.{Owner}
use Rattle.usb_file_data.specs.declared.addresses.Owner.TheVariants as owners

-- whether another number than this owns the address
abbrev pub is_other : Owner → ℕ → Bool
is_other (owners.One m) n = not (m == n)
is_other owners.Several n = true

-- the interface number of the current setting, the addresses that it has, and of each address and each number
-- whether another number of the set has the address
pub record Claims : Type 0 where
  pub number : ℕ
  pub here : ℕ → Bool
  pub elsewhere : ℕ → ℕ → Bool

-- a set begins
abbrev pub cleared : Claims → Claims
cleared t = record t { elsewhere = λ b m. false }

-- a setting of this number begins
abbrev pub begun : ℕ → Claims → Claims
begun n t = record t { number = n; here = unmarked }

-- the number has this address too
unfoldable pub owned_at : ℕ → (ℕ → ℕ → Bool) → ℕ → ℕ → ℕ → Bool
owned_at n t a b m = (not (n == m) && (a == b)) || t b m

-- the current setting has the address
abbrev pub claimed : ℕ → Claims → Claims
claimed a t = record t { here = marked t.here a; elsewhere = owned_at t.number t.elsewhere a }

-- the number has the addresses of these endpoints too
unfoldable pub owned : ℕ → List Endpoint → (ℕ → ℕ → Bool) → ℕ → ℕ → Bool
owned n endpoints t b m = (not (n == m) && is_among (map address_of endpoints) b) || t b m

-- the fields of a value that keeps this
pub record AddressTable : Type 0 where
  pub number : ℕ
  pub in_setting : List ℕ
  pub in_set : List ℕ
  pub owners : List Owner

-- what these say, by the addresses of the setting and of the set
abbrev pub claims : ℕ → (ℕ → Bool) → (ℕ → Bool) → List Owner → Claims
claims n here stands cells = record {
  number = n;
  here = here;
  elsewhere = λ b m. stands b && is_other (slice_index_or cells b (owners.One 0)) m;
}

-- what the fields say
unfoldable pub kept : AddressTable → Claims
kept t = claims t.number (is_marked t.in_setting) (is_marked t.in_set) t.owners
