-- The descriptors of an input by its tree, each with its depth and its owner.
use Rattle.std.specs.Prelude.{ℕ, zero, suc, ◌+◌, List, [], ◌∷◌, length, take, drop, nat_lt, ◌||◌, Option, Some, None, unwrap_or, if◌then◌else◌, ◌++◌, map}
use Rattle.std.specs.Option.{option_map}
use Rattle.std.specs.List.{flat_map}
use Rattle.usb_fields.specs.Device.{device_bytes, qualifier_bytes}
use Rattle.usb_fields.specs.Units.{units_bytes}
use Rattle.usb_set.specs.declared.extra.Extra.{Extra}
use Rattle.usb_set.specs.declared.extra.Extra.TheVariants as extras
use Rattle.usb_set.specs.declared.tree.Endpoint.{Endpoint}
use Rattle.usb_set.specs.declared.tree.Setting.{Setting}
use Rattle.usb_set.specs.declared.tree.Configuration.{Configuration}
use Rattle.usb_set.specs.Descriptors.{configuration_descriptor, descriptor_bytes, endpoint_descriptor, extra_descriptor, interface_descriptor}
use Rattle.usb_set.specs.Layout.{set_length}
use Rattle.usb_file_data.specs.declared.file.Other.{Other}
use Rattle.usb_file_data.specs.declared.finding.Part.{Part}
use Rattle.usb_file_data.specs.declared.finding.Part.TheVariants as parts
use Rattle.usb_file_data.specs.Findings.{part_of_kind}
use Rattle.usb_file_data.specs.Places.{at_each}
use Rattle.usb_file_data.specs.declared.file.Strings.{Strings}
use Rattle.usb_file_data.specs.declared.file.Input.{Input}
use Rattle.usb_file_data.specs.declared.file.Input.TheVariants as inputs
use Rattle.usb_walk.specs.declared.owner.DescriptorOwner.{DescriptorOwner}
use Rattle.usb_walk.specs.declared.role.Role.{Role}
use Rattle.usb_walk.specs.declared.role.Role.TheVariants as roles
use Rattle.usb_walk.specs.Owners.{of_endpoint, of_interface, of_set}

-- Descriptors one after another, each as long as its first byte says (USB 2.0, 9.5).

-- bLength of the descriptor that the bytes begin with, where it is 2 at least and all of its bytes are there
abbrev pub descriptor_length : List ℕ → Option ℕ
descriptor_length [] = None
descriptor_length (len ∷ rest) = if nat_lt len 2 || nat_lt (length rest + 1) len then None else Some len

-- the first descriptors, at most n
abbrev pub first_descriptors : ℕ → List ℕ → List (List ℕ)
first_descriptors zero b = []
first_descriptors (suc n) b =
    unwrap_or (option_map (λ len. take len b ∷ first_descriptors n (drop len b)) (descriptor_length b)) []

-- all of them; there are no more than bytes
abbrev pub descriptors : List ℕ → List (List ℕ)
descriptors b = first_descriptors (length b) b

-- A descriptor of a tree: what it is, its depth, whose it is, and its bytes. It belongs to the last one before it that is less
-- deep.
pub record TreeDescriptor : Type 0 where
  pub role : Role
  pub depth : ℕ
  pub owner : Option DescriptorOwner
  pub bytes : List ℕ

-- one of these four facts
abbrev pub tree_descriptor : Role → ℕ → Option DescriptorOwner → List ℕ → TreeDescriptor
tree_descriptor role depth owner bytes = record { role = role; depth = depth; owner = owner; bytes = bytes }

-- an association is one, and any other extra is raw bytes
abbrev pub extra_role : Extra → Role
extra_role (extras.Raw raw) = roles.Raw
extra_role (extras.Association association) = roles.Association

-- an association belongs to the configuration, and any other extra is of this depth
abbrev pub extra_depth : ℕ → Extra → ℕ
extra_depth depth (extras.Raw raw) = depth
extra_depth depth (extras.Association association) = 2

-- an association belongs to the configuration, and any other extra to this owner
abbrev pub extra_owner : DescriptorOwner → Extra → DescriptorOwner
extra_owner owner (extras.Raw raw) = owner
extra_owner owner (extras.Association association) = of_set owner.part owner.set

-- an extra of this depth, of this owner
abbrev pub extra_in_tree : ℕ → DescriptorOwner → Extra → TreeDescriptor
extra_in_tree depth owner x =
    tree_descriptor (extra_role x) (extra_depth depth x) (Some (extra_owner owner x)) (descriptor_bytes (extra_descriptor x))

-- the extras of a configuration, an interface or an endpoint, one deeper than it
abbrev pub extra_descriptors : ℕ → DescriptorOwner → List Extra → List TreeDescriptor
extra_descriptors depth owner xs = map (extra_in_tree depth owner) xs

-- an endpoint of an interface, and its extras
abbrev pub endpoint_descriptors : DescriptorOwner → Endpoint → List TreeDescriptor
endpoint_descriptors interface e =
    let owner = of_endpoint interface e.address in
    tree_descriptor roles.Endpoint 3 (Some owner) (descriptor_bytes (endpoint_descriptor e)) ∷ extra_descriptors 4 owner e.extras

-- a setting of a set, its extras, and its endpoints
abbrev pub setting_descriptors : DescriptorOwner → Setting → List TreeDescriptor
setting_descriptors set s =
    let owner = of_interface set s.number s.alternate in
    tree_descriptor roles.Interface 2 (Some owner) (descriptor_bytes (interface_descriptor s))
    ∷ extra_descriptors 3 owner s.extras ++ flat_map (endpoint_descriptors owner) s.endpoints

-- a set of this wTotalLength, its extras, and its settings
abbrev pub set_descriptors_by : DescriptorOwner → Configuration → ℕ → List TreeDescriptor
set_descriptors_by owner c total =
    tree_descriptor roles.Configuration 1 (Some owner) (descriptor_bytes (configuration_descriptor c total))
    ∷ extra_descriptors 2 owner c.extras ++ flat_map (setting_descriptors owner) c.settings

-- the set of this number in a part, whose wTotalLength is the count of its bytes
abbrev pub set_descriptors : Part → ℕ → Configuration → List TreeDescriptor
set_descriptors part i c = set_descriptors_by (of_set part i) c (set_length c)

-- the qualifier and the sets of the other speed
abbrev pub other_descriptors : Option Other → List TreeDescriptor
other_descriptors None = []
other_descriptors (Some o) = tree_descriptor roles.Qualifier 0 None (qualifier_bytes o.qualifier) ∷ at_each (set_descriptors parts.Other) 0 o.sets

-- a string
abbrev pub text_descriptor : List ℕ → TreeDescriptor
text_descriptor units = tree_descriptor roles.Text 0 None (units_bytes units)

-- the language list and the strings
abbrev pub string_descriptors : Option Strings → List TreeDescriptor
string_descriptors None = []
string_descriptors (Some s) = tree_descriptor roles.Languages 0 None (units_bytes s.languages) ∷ map text_descriptor s.texts

-- all descriptors of an input, in the order of its bytes
abbrev pub tree_descriptors : Input → List TreeDescriptor
tree_descriptors (inputs.Set set) = set_descriptors (part_of_kind set.kind) 0 set
tree_descriptors (inputs.File file) =
    tree_descriptor roles.Device 0 None (device_bytes file.device)
    ∷ at_each (set_descriptors parts.Main) 0 file.sets ++ other_descriptors file.other ++ string_descriptors file.strings
tree_descriptors (inputs.Dump file) =
    tree_descriptor roles.Device 0 None (device_bytes file.device) ∷ at_each (set_descriptors parts.Main) 0 file.sets
