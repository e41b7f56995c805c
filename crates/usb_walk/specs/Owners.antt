-- Whose a descriptor is (USB 2.0, 9.5: what has no type of its own follows the descriptor that it extends).
use Rattle.std.specs.Prelude.{ℕ, ◌==◌, ◌||◌, List, slice_index, Option, Some, None, if◌then◌else◌}
use Rattle.usb_file_data.specs.declared.finding.Part.{Part}
use Rattle.usb_file_data.specs.declared.finding.Part.TheVariants.{Main, Other}
use Rattle.usb_walk.specs.declared.owner.InterfaceSetting.{InterfaceSetting}
use Rattle.usb_walk.specs.declared.owner.DescriptorOwner.{DescriptorOwner}
use Rattle.usb_walk.specs.declared.position.Position.{Position}
use Rattle.usb_walk.specs.declared.role.Role.{Role}
use Rattle.usb_walk.specs.declared.role.Role.TheVariants.{Configuration, Association, Interface, Endpoint, Raw}

-- the set of this number in a part
abbrev pub of_set : Part → ℕ → DescriptorOwner
of_set part set = record { part = part; set = set; setting = None; endpoint = None }

-- an interface of a set, by bInterfaceNumber and bAlternateSetting
abbrev pub of_interface : DescriptorOwner → ℕ → ℕ → DescriptorOwner
of_interface set number alternate = record set { setting = Some (record { interface = number; alternate = alternate }) }

-- an endpoint of an interface, by bEndpointAddress
abbrev pub of_endpoint : DescriptorOwner → ℕ → DescriptorOwner
of_endpoint interface address = record interface { endpoint = Some address }

-- the part that has the set in which a descriptor stands
abbrev pub part_in : Position → Part
part_in p = if p.is_other then Other else Main

-- that set
abbrev pub set_of : Position → DescriptorOwner
set_of p = of_set (part_in p) p.set

-- the last interface before it, by its numbers
abbrev pub setting_in : Position → InterfaceSetting
setting_in p = record { interface = p.interface; alternate = p.alternate }

-- the owner of what is so deep, which is of a set, of an interface or of an endpoint of it
abbrev pub owner_above : ℕ → DescriptorOwner → InterfaceSetting → ℕ → DescriptorOwner
owner_above depth set setting address = record set {
  setting = if (depth == 3) || (depth == 4) then Some setting else None;
  endpoint = if depth == 4 then Some address else None;
}

-- the nearest configuration, interface or endpoint before it
abbrev pub last_owner : Position → DescriptorOwner
last_owner p = owner_above p.below (set_of p) (setting_in p) p.endpoint

-- whose a descriptor of this role and these bytes is; one outside of sets is nobody's
unfoldable pub owner_of : Position → Role → List ℕ → Option DescriptorOwner
owner_of p Configuration d = Some (set_of p)
owner_of p Association d = Some (set_of p)
owner_of p Interface d = Some (of_interface (set_of p) (slice_index d 2) (slice_index d 3))
owner_of p Endpoint d = Some (of_endpoint (of_interface (set_of p) p.interface p.alternate) (slice_index d 2))
owner_of p Raw d = Some (last_owner p)
owner_of p _ d = None
