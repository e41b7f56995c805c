-- How whole sets and device descriptors are found.
use Rattle.std.specs.Prelude.{ℕ, zero, suc, ◌+◌, ◌-◌, ◌==◌, ◌&&◌, ◌||◌, nat_le, List, [], ◌∷◌, length, slice_index, Bool, true, false, not, Option, Some, None, if◌then◌else◌}
use Rattle.usb_set.specs.Faults.{is_set_type, least_length, total_of}
use Rattle.usb_set.specs.inside.Reading.{Reading, first, later, whole, faulty, reading_of}
use Rattle.usb_find.specs.declared.search.Found.{Found}
use Rattle.usb_find.specs.Found.{begins_device}

-- how long a set is that was read
abbrev pub length_of : Reading → Option ℕ
length_of (whole c place) = Some place
length_of (first b) = None
length_of (later c total place b) = None
length_of (faulty place why) = None

-- they begin as a whole set does, as far as its first descriptor says
unfoldable pub has_header : List ℕ → Bool
has_header b = (slice_index b 0 == 9) && (is_set_type (slice_index b 1) && (nat_le 9 (total_of b) && nat_le (total_of b) (length b)))

-- the set with which the bytes begin, where its first descriptor has 9 bytes
unfoldable pub set_length : List ℕ → Option ℕ
set_length b = if slice_index b 0 == 9 then length_of (reading_of b) else None

-- The bytes, which end with the set, begin with a whole descriptor without fault: no shorter than its type is, of no set's type,
-- and an endpoint comes after an interface.
abbrev pub is_item : Bool → List ℕ → Bool
is_item in_setting [] = false
is_item in_setting (len ∷ []) = false
is_item in_setting (len ∷ kind ∷ rest) =
    nat_le (least_length kind) len && (nat_le len (2 + length rest) && (not (is_set_type kind) && (in_setting || not (kind == 5))))

-- after `skip` bytes they are such descriptors to their end
unfoldable pub are_items : ℕ → Bool → List ℕ → Bool
are_items zero in_setting [] = true
are_items (suc skip) in_setting [] = false
are_items (suc skip) in_setting (x ∷ b) = are_items skip in_setting b
are_items zero in_setting (len ∷ b) =
    if is_item in_setting (len ∷ b) then are_items (len - 1) (in_setting || (slice_index (len ∷ b) 1 == 4)) b else false

abbrev pub set_at : ℕ → Option ℕ → Option Found
set_at place (Some n) = Some (record { place = place; length = n; next = place + n; kind = 1 })
set_at place None = None

-- what stands at the first byte, which is at this place
abbrev pub standing : ℕ → List ℕ → Option Found
standing place b =
    if begins_device b then Some (record { place = place; length = 18; next = place + 1; kind = 4 }) else set_at place (set_length b)

abbrev pub or_later : Option Found → Option Found → Option Found
or_later (Some f) o = Some f
or_later None o = o

-- the first that stands there or after it
unfoldable pub first_standing : ℕ → List ℕ → Option Found
first_standing place [] = None
first_standing place (x ∷ b) = or_later (standing place (x ∷ b)) (first_standing (place + 1) b)
