-- The numbers of the interfaces of a set, and which of them a descriptor names: an association (its ECN, 9.X.Y), or a functional
-- descriptor of a communications interface, of call management (PSTN 1.2, 5.3.1) or a union (CDC 1.2, 5.2.3.2).
use Rattle.std.specs.Prelude.{ℕ, ◌%◌, List, [], ◌∷◌, map, take, drop, length, slice_index, slice_index_or, Bool, false, nat_le, ◌==◌, ◌&&◌, Option, Some, None, if◌then◌else◌}
use Rattle.std.specs.List.{list_any, range_with_len}
use Rattle.usb_names.specs.declared.codes.ClassCodes.{ClassCodes}
use Rattle.usb_walk.specs.declared.role.Role.{Role}
use Rattle.usb_walk.specs.declared.role.Role.TheVariants.{Association}
use Rattle.usb_walk.specs.Roles.{is_interface}
use Rattle.usb_walk.specs.Trees.{descriptors}

-- an interface of this number
abbrev pub is_numbered : ℕ → List ℕ → Bool
is_numbered number d = is_interface d && (slice_index d 2 == number)

-- another setting of the interface follows
unfoldable pub has_setting : ℕ → List (List ℕ) → Bool
has_setting number ds = list_any (is_numbered number) ds

-- so it is in the rest of a set, where all of that is there
abbrev pub follows : ℕ → Option (List ℕ) → Bool
follows number None = false
follows number (Some rest) = has_setting number (descriptors rest)

-- for each of the 256 numbers, whether an interface has it
unfoldable pub interface_numbers : List (List ℕ) → List Bool
interface_numbers ds = map (λ number. has_setting number ds) (range_with_len 0 256)

-- an interface has this number
abbrev pub has_number : List Bool → ℕ → Bool
has_number numbers number = slice_index_or numbers number false

-- a descriptor of this type behind an interface of this class
abbrev pub is_of_class : ℕ → ℕ → Option ClassCodes → List ℕ → Bool
is_of_class class type None d = false
is_of_class class type (Some codes) d = (codes.class == class) && (slice_index d 1 == type)

-- a functional descriptor of a communications interface
abbrev pub is_functional : Option ClassCodes → List ℕ → Bool
is_functional interface d = is_of_class 0x02 0x24 interface d

-- call management goes over a data interface: bits 1 and 0 of bmCapabilities, without which bDataInterface has no meaning
abbrev pub has_data_interface : List ℕ → Bool
has_data_interface d = slice_index d 3 % 4 == 3

-- the interfaces that a functional descriptor names: call management its data interface, the fifth byte, and a union a controlling
-- interface and those below it, from the fourth byte on
abbrev pub function_interfaces : List ℕ → List ℕ
function_interfaces d =
    if slice_index d 2 == 1 then (if has_data_interface d then take 1 (drop 4 d) else [])
    else if slice_index d 2 == 6 then drop 3 d
    else []

-- those that a descriptor names: a functional one of five bytes at least
abbrev pub named_interfaces : Option ClassCodes → List ℕ → List ℕ
named_interfaces interface d = if is_functional interface d && nat_le 5 (length d) then function_interfaces d else []

-- the first of these numbers that no interface has
abbrev pub first_missing : List Bool → List ℕ → Option ℕ
first_missing numbers [] = None
first_missing numbers (n ∷ ns) = if has_number numbers n then first_missing numbers ns else Some n

-- the first interface that a descriptor names and that isn't there
unfoldable pub missing_interface : List Bool → Option ClassCodes → List ℕ → Option ℕ
missing_interface numbers interface d = first_missing numbers (named_interfaces interface d)

-- an association that comes after an interface that it binds, where those before it have these numbers (its ECN, 9.X.Y)
unfoldable pub is_late : List Bool → Role → List ℕ → Bool
is_late before Association d = list_any (has_number before) (range_with_len (slice_index d 2) (slice_index d 3))
is_late before role d = false
