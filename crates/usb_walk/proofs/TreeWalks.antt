-- The walk over descriptors as numbers is that over the tree that they are of.
use Rattle.std.proofs.Common.{◌≡◌, ℕ, if◌then◌else◌, Bool, true, false, List, [], ◌∷◌, map, drop, refl, ap, ap₂, ◌∙◌}
use Rattle.usb_file_data.specs.declared.finding.Part.TheVariants as parts
use Rattle.usb_walk.specs.declared.position.Position.{Position}
use Rattle.usb_walk.specs.declared.role.Role.{Role}
use Rattle.usb_walk.specs.declared.role.Role.TheVariants as roles
use Rattle.usb_walk.specs.Numbered.{Numbered, next_position}
use Rattle.usb_walk.specs.Owners.{owner_of}
use Rattle.usb_walk.specs.Places.{part_number}
use Rattle.usb_walk.specs.Positions.{noted, position_at, with_set}
use Rattle.usb_walk.specs.RoleNumbers.{role_number}
use Rattle.usb_walk.specs.Surroundings.{depth_of}
use Rattle.usb_walk.specs.Trees.{TreeDescriptor, tree_descriptor}
use Rattle.usb_walk.specs.WalkedDescriptors.{all_as_numbers, as_numbers, holder_of_role, part_of_role, walked}
use Rattle.usb_walk.specs.WalkedTrees.{held_by, nearest, numbers_of, part_in_tree, tree_numbers}
use Rattle.usb_walk.proofs.WalkSteps.{Behind, Continues, by_steps, numbered, numbered_at}
use Rattle.usb_walk.proofs.Walking.{walk_by_positions}

-- a descriptor at its position as one of a tree
abbrev pub by_tree : Numbered → TreeDescriptor
by_tree n = tree_descriptor n.role (depth_of n.position n.role) (owner_of n.position n.role n.bytes) n.bytes

still_other : (other : Bool) (p : Position) → (with_set other p).is_other ≡ p.is_other
still_other true p = refl
still_other false p = refl

still_below : (other : Bool) (p : Position) → (with_set other p).below ≡ p.below
still_below true p = refl
still_below false p = refl

-- a descriptor of this role at its position
abbrev at_role : Role → List ℕ → List ℕ → Position → Numbered
at_role role bytes ahead p = record { position = position_at role ahead p; role = role; bytes = bytes }

-- what it belongs to and its part are those by the tree, where this is the nearest before it, and so is the nearest behind it
record Agrees (before : List Role) (n : Numbered) : Type 0 where
  owner : holder_of_role n.role (next_position n) ≡ held_by before n.role
  part : part_of_role n.role (next_position n) ≡ part_in_tree n.role (owner_of n.position n.role n.bytes)
  below : (next_position n).below ≡ nearest (n.role ∷ before)

agrees : (before : List Role) (role : Role) (bytes ahead : List ℕ) (p : Position) → p.below ≡ nearest before → Agrees before (at_role role bytes ahead p)
unfolding noted owner_of
agrees before roles.Device bytes ahead p e = record { owner = refl; part = refl; below = refl }
agrees before roles.Qualifier bytes ahead p e = record { owner = refl; part = refl; below = refl }
agrees before roles.Configuration bytes ahead p e =
    let q = position_at roles.Configuration ahead p in
    record { owner = refl; part = ap (λ other. part_number (if other then parts.Other else parts.Main)) (still_other q.is_other q); below = still_below q.is_other q }
agrees before roles.Association bytes ahead p e = record { owner = e; part = refl; below = e }
agrees before roles.Interface bytes ahead p e = record { owner = refl; part = refl; below = refl }
agrees before roles.Endpoint bytes ahead p e = record { owner = refl; part = refl; below = refl }
agrees before roles.Raw bytes ahead p e = record { owner = e; part = refl; below = e }
agrees before roles.Languages bytes ahead p e = record { owner = refl; part = refl; below = refl }
agrees before roles.Text bytes ahead p e = record { owner = refl; part = refl; below = refl }

-- the numbers of a walk are those along the descriptors of a tree
abbrev NumbersAlong : List ℕ → Behind
NumbersAlong b n was ns =
    (before : List Role) → was.position.below ≡ nearest before → map numbers_of (all_as_numbers b was ns) ≡ tree_numbers before (map by_tree ns)

one_more : (b : List ℕ) → Continues b (NumbersAlong b)
unfolding as_numbers
one_more b n was next ns step later before e =
    let role = next.0 in
    let m = numbered_at b was.position next in
    let same = agrees before role m.bytes (drop was.position.at b) was.position e in
    ap₂ ◌∷◌ (ap₂ (λ owner part. record { role = role_number role; owner = owner; depth = depth_of m.position role; part = part }) same.owner same.part)
    (later (role ∷ before) same.below)

-- the numbers of a walk are those of these descriptors
pub walk_by_tree : (b : List ℕ) → map numbers_of (walked b) ≡ tree_numbers [] (map by_tree (numbered b))
walk_by_tree b =
    ap (λ l. map numbers_of l) (walk_by_positions b) ∙ by_steps b (NumbersAlong b) (λ n was none before e. refl) (one_more b) [] refl
