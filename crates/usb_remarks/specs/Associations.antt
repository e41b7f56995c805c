-- Whether the sets of a device or a qualifier have associations (their ECN).
use Rattle.std.specs.Prelude.{ℕ, zero, suc, List, slice_index, length, drop, Bool, true, false, nat_le, nat_lt, ◌&&◌, Option, Some, None, if◌then◌else◌}
use Rattle.std.specs.List.{list_any}
use Rattle.usb_fields.specs.Bytes.{little_endian_at}
use Rattle.usb_walk.specs.declared.role.Role.{Role}
use Rattle.usb_walk.specs.declared.role.Role.TheVariants.{Device, Qualifier}
use Rattle.usb_walk.specs.Roles.{is_association}
use Rattle.usb_remarks.specs.SetStart.{sets_ahead}
use Rattle.usb_walk.specs.Trees.{descriptors}

-- one of these descriptors is an association
unfoldable pub has_association : List (List ℕ) → Bool
has_association ds = list_any is_association ds

-- the bytes begin with a set that is all there, as many bytes as its wTotalLength says (USB 2.0, 9.6.3)
abbrev pub is_whole : List ℕ → Bool
is_whole b = let total = little_endian_at b 2 in nat_le 9 total && nat_le total (length b)

-- so do they with n, one after another
unfoldable pub are_whole : ℕ → List ℕ → Bool
are_whole zero b = true
are_whole (suc n) b = is_whole b && are_whole n (drop (little_endian_at b 2) b)

-- the first `sets` sets have one, as far as they are there; or have none, where they all are
abbrev pub associations_in : ℕ → List ℕ → Option Bool
associations_in sets after =
    if has_association (descriptors (sets_ahead sets after)) then Some true
    else if nat_lt 0 sets && are_whole sets after then Some false
    else None

-- the sets of a descriptor of this role, where these bytes come after it: they are counted at the end of a device, or before
-- bReserved of a qualifier (USB 2.0, 9.6.1 and 9.6.2)
unfoldable pub has_associations : Role → List ℕ → List ℕ → Option Bool
has_associations Device d after = associations_in (slice_index d 17) after
has_associations Qualifier d after = associations_in (slice_index d 8) after
has_associations role d after = None
