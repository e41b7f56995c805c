-- The endpoints of a walk over descriptors as numbers are those of the sets.
use Rattle.std.proofs.Common.{◌≡◌, ℕ, List, [], ◌∷◌, ◌++◌, map, take, drop, slice_index, refl, ap, ap₂, ◌∙◌}
use Rattle.std.specs.List.{flat_map}
use Rattle.usb_walk.specs.declared.position.Position.{Position}
use Rattle.usb_walk.specs.declared.role.Role.{Role}
use Rattle.usb_walk.specs.declared.role.Role.TheVariants as roles
use Rattle.usb_walk.specs.declared.walked_descriptor.WalkedDescriptor.{WalkedDescriptor}
use Rattle.usb_walk.specs.Numbered.{Numbered}
use Rattle.usb_walk.specs.Owners.{owner_of}
use Rattle.usb_walk.specs.Positions.{noted}
use Rattle.usb_walk.specs.WalkedDescriptors.{all_as_numbers, as_numbers}
use Rattle.usb_walk.proofs.TreeWalks.{by_tree}
use Rattle.usb_walk.proofs.WalkSteps.{Behind, by_steps, numbered, numbered_at}
use Rattle.usb_walk.proofs.Walking.{walk_by_positions}
use Rattle.usb_remarks.specs.OwnedEndpoints.{OwnedEndpoint, endpoint_by_role}
use Rattle.usb_remarks.specs.WalkedEndpoints.{WalkHasEndpoints, endpoint_walked}
use Rattle.usb_remarks.proofs.EndpointsShown.{among, in_tree}
use Rattle.usb_remarks.proofs.WalkedOutlines.{numbered_tree}

-- the endpoint that a descriptor at its position is, if it is one
abbrev endpoint_numbered : Numbered → List OwnedEndpoint
endpoint_numbered n = endpoint_by_role n.role (owner_of n.position n.role n.bytes) n.bytes

one_same : (b : List ℕ) (was : WalkedDescriptor) (role : Role) (count : ℕ) (p : Position) → slice_index (take count (drop p.at b)) 0 ≡ count
    → (let n = numbered_at b p (role, count) in endpoint_walked b (as_numbers b was n) ≡ endpoint_numbered n)
unfolding as_numbers noted owner_of
one_same b was roles.Device count p first = refl
one_same b was roles.Qualifier count p first = refl
one_same b was roles.Configuration count p first = refl
one_same b was roles.Association count p first = refl
one_same b was roles.Interface count p first = refl
one_same b was roles.Endpoint count p first =
    let n = numbered_at b p (roles.Endpoint, count) in
    ap (λ k. endpoint_by_role roles.Endpoint (owner_of p roles.Endpoint n.bytes) (take k (drop p.at b))) first
one_same b was roles.Raw count p first = refl
one_same b was roles.Languages count p first = refl
one_same b was roles.Text count p first = refl

-- the endpoints of a walk are those of its descriptors by their positions
abbrev EndpointsSame : List ℕ → Behind
EndpointsSame b n was ns = flat_map (endpoint_walked b) (all_as_numbers b was ns) ≡ flat_map endpoint_numbered ns

in_numbered : (ns : List Numbered) → flat_map endpoint_numbered ns ≡ among (map by_tree ns)
in_numbered [] = refl
in_numbered (n ∷ ns) = ap (λ l. endpoint_numbered n ++ l) (in_numbered ns)

pub walk_has_endpoints : WalkHasEndpoints
walk_has_endpoints input b is =
    ap (λ l. flat_map (endpoint_walked b) l) (walk_by_positions b)
    ∙ by_steps b (EndpointsSame b) (λ n was none. refl) (λ n was next ns step later. ap₂ ◌++◌ (one_same b was next.0 next.1 was.position step.first) later)
    ∙ in_numbered (numbered b) ∙ ap among (numbered_tree input b is) ∙ in_tree input
