-- The endpoints of an input, each with its setting (USB 2.0, 9.6.5 and 9.6.6).
use Rattle.std.specs.Prelude.{◌≡◌, ℕ, List, [], ◌∷◌, ◌++◌, map, Option, Some}
use Rattle.std.specs.List.{flat_map}
use Rattle.usb_set.specs.declared.tree.Configuration.{Configuration}
use Rattle.usb_set.specs.declared.tree.Endpoint.{Endpoint}
use Rattle.usb_set.specs.declared.tree.Setting.{Setting}
use Rattle.usb_set.specs.Descriptors.{descriptor_bytes, endpoint_descriptor}
use Rattle.usb_set.specs.Owners.{endpoints_of}
use Rattle.usb_file_data.specs.declared.file.Input.{Input}
use Rattle.usb_file_data.specs.declared.file.Input.TheVariants as inputs
use Rattle.usb_file_data.specs.declared.finding.Part.{Part}
use Rattle.usb_file_data.specs.declared.finding.Part.TheVariants as parts
use Rattle.usb_file_data.specs.File.{other_sets}
use Rattle.usb_file_data.specs.Findings.{found_in_order, part_of_kind}
use Rattle.usb_file_data.specs.Inputs.{IsInput}
use Rattle.usb_file_data.specs.Places.{at_each}
use Rattle.usb_walk.specs.declared.owner.DescriptorOwner.{DescriptorOwner}
use Rattle.usb_walk.specs.declared.role.Role.{Role}
use Rattle.usb_walk.specs.declared.role.Role.TheVariants as roles
use Rattle.usb_remarks.specs.declared.speed.SetSpeed.{SetSpeed}
use Rattle.usb_remarks.specs.Outline.{Described, outline}
use Rattle.usb_walk.specs.Owners.{of_endpoint, of_interface, of_set}

-- an endpoint by what it is an owner of, which has its set, its interface, its setting and its address, and its bytes
pub record OwnedEndpoint : Type 0 where
  pub owner : Option DescriptorOwner
  pub bytes : List ℕ

-- The endpoints of the sets.

-- an endpoint of a set with its setting
abbrev pub owned_endpoint : DescriptorOwner → Setting × Endpoint → OwnedEndpoint
owned_endpoint set x = record {
  owner = Some (of_endpoint (of_interface set x.0.number x.0.alternate) x.1.address);
  bytes = descriptor_bytes (endpoint_descriptor x.1);
}

-- the endpoints of the set of this number in a part, each with its setting
abbrev pub set_endpoints : Part → ℕ → Configuration → List OwnedEndpoint
set_endpoints part i c = map (owned_endpoint (of_set part i)) (endpoints_of c)

-- those of an input, set after set
abbrev pub input_endpoints : Input → List OwnedEndpoint
input_endpoints (inputs.Set set) = set_endpoints (part_of_kind set.kind) 0 set
input_endpoints (inputs.File file) = at_each (set_endpoints parts.Main) 0 file.sets ++ at_each (set_endpoints parts.Other) 0 (other_sets file.other)
input_endpoints (inputs.Dump file) = at_each (set_endpoints parts.Main) 0 file.sets

-- The endpoints of the outline.

-- the endpoint that a descriptor of this role, this owner and these bytes is, if it is one
abbrev pub endpoint_by_role : Role → Option DescriptorOwner → List ℕ → List OwnedEndpoint
endpoint_by_role roles.Endpoint owner bytes = record { owner = owner; bytes = bytes } ∷ []
endpoint_by_role role owner bytes = []

-- that of a descriptor of an outline
abbrev pub endpoint_shown : Described → List OwnedEndpoint
endpoint_shown d = endpoint_by_role d.role d.owner d.bytes

-- the endpoints among the descriptors of an input are those of its sets, in their order, each with its setting and its bytes
abbrev pub WholeShowsEndpoints : Type 0
WholeShowsEndpoints =
    (running : Option SetSpeed) (input : Input) (b : List ℕ) → IsInput input b →
    flat_map endpoint_shown (outline running (found_in_order input) b) ≡ input_endpoints input
