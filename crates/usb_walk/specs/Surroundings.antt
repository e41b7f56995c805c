-- What a position says of a descriptor at it.
use Rattle.std.specs.Prelude.{ℕ, List, length, slice_index, nat_le, ◌-◌, ◌==◌, take, Option, Some, None, if◌then◌else◌}
use Rattle.usb_names.specs.declared.codes.ClassCodes.{ClassCodes}
use Rattle.usb_walk.specs.declared.role.Role.{Role}
use Rattle.usb_walk.specs.declared.role.Role.TheVariants.{Configuration, Association, Interface, Endpoint, Raw}
use Rattle.usb_walk.specs.declared.position.Position.{Position}

-- what the interface is that a descriptor follows
abbrev pub codes_of : Position → Option ClassCodes
codes_of p = if p.settings == 0 then None else Some (record { class = p.class; subclass = p.subclass; protocol = p.protocol })

-- the number of the interface that it is, or else of the one that it follows
abbrev pub interface_number : Position → Role → List ℕ → ℕ
interface_number p Interface d = slice_index d 2
interface_number p _ d = p.interface

-- the depth of its heading
unfoldable pub depth_of : Position → Role → ℕ
depth_of p Configuration = 1
depth_of p Interface = 2
depth_of p Endpoint = 3
depth_of p Association = 2
depth_of p Raw = p.below
depth_of p _ = 0

-- the bytes of its set after a descriptor, where they are all there
abbrev pub rest_of_set : Position → List ℕ → List ℕ → Option (List ℕ)
rest_of_set p d after =
    let count = p.left - length d in if nat_le count (length after) then Some (take count after) else None
