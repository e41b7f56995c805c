-- Which association binds an interface (ECN on interface associations, 9.X.Y).
use Rattle.std.specs.Prelude.{ℕ, ◌+◌, List, [], ◌∷◌, map, slice_index, slice_index_or, Bool, nat_le, nat_lt, ◌&&◌, Option, Some, None, if◌then◌else◌}
use Rattle.std.specs.List.{range_with_len}
use Rattle.usb_walk.specs.Roles.{is_association}

-- from bFirstInterface on as many numbers as bInterfaceCount are bound; the sum doesn't wrap
abbrev pub binds : ℕ → ℕ → ℕ → Bool
binds first count number = nat_le first number && nat_lt number (first + count)

-- an association that binds an interface of this number
abbrev pub is_association_of : ℕ → List ℕ → Bool
is_association_of number d = binds (slice_index d 2) (slice_index d 3) number

-- the first association that binds an interface of this number; the associations are numbered from `next` on
abbrev pub binding : ℕ → ℕ → List (List ℕ) → Option ℕ
binding number next [] = None
binding number next (d ∷ ds) =
    if is_association d then (if is_association_of number d then Some next else binding number (next + 1) ds)
    else binding number next ds

-- that association for each of the 256 numbers
unfoldable pub bindings : List (List ℕ) → List (Option ℕ)
bindings ds = map (λ number. binding number 0 ds) (range_with_len 0 256)

-- the association that binds an interface of this number
abbrev pub bound_at : List (Option ℕ) → ℕ → Option ℕ
bound_at bindings number = slice_index_or bindings number None
