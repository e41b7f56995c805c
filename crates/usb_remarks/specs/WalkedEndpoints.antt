-- The endpoints of a walk over descriptors as numbers, each with its setting.
use Rattle.std.specs.Prelude.{◌≡◌, ℕ, ◌==◌, List, [], ◌∷◌, take, drop, Some, if◌then◌else◌}
use Rattle.std.specs.List.{flat_map}
use Rattle.usb_file_data.specs.declared.file.Input.{Input}
use Rattle.usb_file_data.specs.Inputs.{IsInput}
use Rattle.usb_walk.specs.declared.role.Role.TheVariants as roles
use Rattle.usb_remarks.specs.OwnedEndpoints.{OwnedEndpoint, input_endpoints}
use Rattle.usb_walk.specs.Owners.{of_endpoint, of_interface, set_of}
use Rattle.usb_walk.specs.declared.walked_descriptor.WalkedDescriptor.{WalkedDescriptor}
use Rattle.usb_walk.specs.RoleNumbers.{role_number}
use Rattle.usb_walk.specs.WalkedDescriptors.{walked}

-- the endpoint of this descriptor: of its set, its interface and alternate setting, by its address, and its bytes
abbrev pub endpoint_at : List ℕ → WalkedDescriptor → OwnedEndpoint
endpoint_at b d = record {
  owner = Some (of_endpoint (of_interface (set_of d.position) d.position.interface d.position.alternate) d.position.endpoint);
  bytes = take d.length (drop d.place b);
}

-- it, if the descriptor is one
abbrev pub endpoint_walked : List ℕ → WalkedDescriptor → List OwnedEndpoint
endpoint_walked b d = if d.role == role_number roles.Endpoint then endpoint_at b d ∷ [] else []

-- the endpoints among the descriptors that are walked over from {0} on are those of the sets of the input, in their order, each
-- with the interface, the alternate setting and the address that its struct has
abbrev pub WalkHasEndpoints : Type 0
WalkHasEndpoints = (input : Input) (b : List ℕ) → IsInput input b → flat_map (endpoint_walked b) (walked b) ≡ input_endpoints input
