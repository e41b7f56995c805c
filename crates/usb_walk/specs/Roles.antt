-- What a descriptor is at its place (USB 2.0, table 9-5 and 9.6).
use Rattle.std.specs.Prelude.{ℕ, List, length, slice_index, Bool, not, nat_le, ◌==◌, ◌&&◌, ◌%◌, take, true, false, ◌||◌, Option, Some, None, option_and_then, if◌then◌else◌}
use Rattle.std.specs.Option.{option_map}
use Rattle.usb_fields.specs.Bytes.{little_endian_at}
use Rattle.usb_file_data.specs.Likeness.{names_languages}
use Rattle.usb_walk.specs.Trees.{descriptor_length}
use Rattle.usb_walk.specs.declared.role.Role.{Role}
use Rattle.usb_walk.specs.declared.role.Role.TheVariants.{Device, Qualifier, Configuration, Association, Interface, Endpoint, Raw, Languages, Text}
use Rattle.usb_walk.specs.declared.position.Position.{Position}

-- What the descriptors of a set are, by bDescriptorType and bLength (USB 2.0, 9.6.5 and 9.6.6, and the ECN on interface
-- associations, 9.X.Y).

-- the type of a descriptor, and that it has this many bytes at least
abbrev pub is_of_type : ℕ → ℕ → List ℕ → Bool
is_of_type type least d = (slice_index d 1 == type) && nat_le least (length d)

-- an interface
abbrev pub is_interface : List ℕ → Bool
is_interface d = is_of_type 4 9 d

-- an endpoint
abbrev pub is_endpoint : List ℕ → Bool
is_endpoint d = is_of_type 5 7 d

-- an interface association
abbrev pub is_association : List ℕ → Bool
is_association d = is_of_type 11 8 d

-- this role, if it has what the role asks for
abbrev pub role_if : Bool → Role → Option Role
role_if holds role = if holds then Some role else None

-- this role, and else that of a descriptor without one of its own
abbrev pub typed_role : Bool → Role → Role
typed_role holds role = if holds then role else Raw

-- a string descriptor: first comes the language list, which has one language at least; then come strings
abbrev pub string_role : Bool → ℕ → Option Role
string_role true n = role_if (n % 2 == 0) Text
string_role false n = role_if ((n % 2 == 0) && nat_le 4 n) Languages

-- a string descriptor is a string though no language list came: after no device, and where it names no languages itself
abbrev pub is_alone : Position → List ℕ → Bool
is_alone p d = not p.has_device && not (names_languages d)

-- outside of a set: the device at the first byte, a qualifier after it, the first descriptor of a set, and strings
unfoldable pub outer_role : Position → List ℕ → Option Role
outer_role p d =
    let kind = slice_index d 1 in
    if kind == 1 then role_if ((p.at == 0) && (length d == 18)) Device
    else if kind == 6 then role_if (p.has_device && (length d == 10)) Qualifier
    else if (kind == 2) || (kind == 7) then role_if (nat_le 9 (length d) && nat_le (length d) (little_endian_at d 2)) Configuration
    else if kind == 3 then string_role (p.has_languages || is_alone p d) (length d)
    else None

-- in a set
unfoldable pub inner_role : Position → List ℕ → Option Role
inner_role p d =
    let kind = slice_index d 1 in
    if (kind == 2) || (kind == 7) then None
    else if kind == 4 then Some (typed_role (nat_le 9 (length d)) Interface)
    else if kind == 5 then Some (typed_role (nat_le 1 p.settings && nat_le 7 (length d)) Endpoint)
    else if kind == 11 then Some (typed_role (nat_le 8 (length d)) Association)
    else Some Raw

-- what a descriptor is here; one that ends after its set can't be here
unfoldable pub role_of : Position → List ℕ → Option Role
role_of p d =
    if p.left == 0 then outer_role p d
    else if nat_le (length d) p.left then inner_role p d
    else None

-- the descriptor with which the bytes begin: what it is, and how long
unfoldable pub next_role : Position → List ℕ → Option (Role × ℕ)
next_role p ahead = option_and_then (λ n. option_map (λ role. (role, n)) (role_of p (take n ahead))) (descriptor_length ahead)
