-- What the descriptors of a walk are in the tree of an input, as numbers.
use Rattle.std.specs.Prelude.{◌≡◌, ℕ, List, [], ◌∷◌, map, Option, Some, None}
use Rattle.usb_file_data.specs.declared.file.Input.{Input}
use Rattle.usb_file_data.specs.Inputs.{IsInput}
use Rattle.usb_walk.specs.declared.owner.DescriptorOwner.{DescriptorOwner}
use Rattle.usb_walk.specs.declared.role.Role.{Role}
use Rattle.usb_walk.specs.declared.role.Role.TheVariants as roles
use Rattle.usb_walk.specs.Places.{part_number}
use Rattle.usb_walk.specs.Trees.{TreeDescriptor, tree_descriptors}
use Rattle.usb_walk.specs.declared.walked_descriptor.WalkedDescriptor.{WalkedDescriptor}
use Rattle.usb_walk.specs.RoleNumbers.{role_number}
use Rattle.usb_walk.specs.WalkedDescriptors.{walked}

-- what a descriptor is, what an extra belongs to, how deep it is, and the part that has it
pub record TreeNumbers : Type 0 where
  pub role : ℕ
  pub owner : ℕ
  pub depth : ℕ
  pub part : ℕ

-- those of a descriptor of a walk
abbrev pub numbers_of : WalkedDescriptor → TreeNumbers
numbers_of d = record { role = d.role; owner = d.owner; depth = d.depth; part = d.part }

-- the role of the nearest configuration, interface or endpoint before a descriptor, where these are the roles of those before it,
-- the nearest first; 0 outside of sets
abbrev pub nearest : List Role → ℕ
nearest [] = 0
nearest (roles.Configuration ∷ before) = role_number roles.Configuration
nearest (roles.Interface ∷ before) = role_number roles.Interface
nearest (roles.Endpoint ∷ before) = role_number roles.Endpoint
nearest (roles.Association ∷ before) = nearest before
nearest (roles.Raw ∷ before) = nearest before
nearest (_ ∷ before) = 0

-- an association and a raw descriptor belong to it, and others are no extras (USB 2.0, 9.5)
abbrev pub held_by : List Role → Role → ℕ
held_by before roles.Association = nearest before
held_by before roles.Raw = nearest before
held_by before role = 0

-- the part that has a descriptor of this owner
abbrev pub part_of_owner : Option DescriptorOwner → ℕ
part_of_owner None = 0
part_of_owner (Some owner) = part_number owner.part

-- the part of a descriptor: the qualifier's is that of the sets after it, and of what is in no set 0
abbrev pub part_in_tree : Role → Option DescriptorOwner → ℕ
part_in_tree roles.Qualifier owner = 2
part_in_tree role owner = part_of_owner owner

-- the numbers of descriptors of a tree, one after another, after those of these roles
abbrev pub tree_numbers : List Role → List TreeDescriptor → List TreeNumbers
tree_numbers before [] = []
tree_numbers before (d ∷ ds) =
    record { role = role_number d.role; owner = held_by before d.role; depth = d.depth; part = part_in_tree d.role d.owner }
    ∷ tree_numbers (d.role ∷ before) ds

-- the descriptors that are walked over from {0} on are those of the input's tree: in its order, each with its role, its owner,
-- its depth and its part
abbrev pub WalkIsTree : Type 0
WalkIsTree = (input : Input) (b : List ℕ) → IsInput input b → map numbers_of (walked b) ≡ tree_numbers [] (tree_descriptors input)
