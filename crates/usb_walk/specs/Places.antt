-- Where a descriptor is among the parts, sets, settings and endpoints of an input, by the numbers that a finding has.
use Rattle.std.specs.Prelude.{ℕ, ◌-◌, ◌==◌, if◌then◌else◌}
use Rattle.usb_file_data.specs.declared.finding.Part.{Part}
use Rattle.usb_file_data.specs.declared.finding.Part.TheVariants as parts
use Rattle.usb_walk.specs.declared.place.Place.{Place}
use Rattle.usb_walk.specs.declared.position.Position.{Position}
use Rattle.usb_walk.specs.declared.role.Role.{Role}
use Rattle.usb_walk.specs.declared.role.Role.TheVariants as roles
use Rattle.usb_walk.specs.Owners.{part_in}

-- the number of a part
abbrev pub part_number : Part → ℕ
part_number parts.Device = 0
part_number parts.Main = 1
part_number parts.Other = 2

-- in a part, and in none of its sets
abbrev pub outside : Part → Place
outside part = record { part = part; set = 0; setting = 0; endpoint = 0 }

-- in the set of a position, with these numbers
abbrev pub within : Position → ℕ → ℕ → Place
within p setting endpoint = record { part = part_in p; set = p.set; setting = setting; endpoint = endpoint }

-- what extends the last endpoint, the last interface, or the set
abbrev pub raw_place : Position → Place
raw_place p =
    if p.below == 4 then within p p.setting (p.endpoints - 1)
    else if p.below == 3 then within p p.setting 0
    else within p 0 0

-- a descriptor of this role at a position: an association has the number of associations before it in the place of a setting's
unfoldable pub place_in : Position → Role → Place
place_in p roles.Device = outside parts.Device
place_in p roles.Qualifier = outside parts.Other
place_in p roles.Configuration = within p 0 0
place_in p roles.Association = within p p.associations 0
place_in p roles.Interface = within p p.settings 0
place_in p roles.Endpoint = within p p.setting p.endpoints
place_in p roles.Raw = raw_place p
place_in p _ = outside parts.Device
