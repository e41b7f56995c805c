-- A walk, step by step.
use Rattle.std.proofs.Common.{◌≡◌, ◌≤◌, ◌⊎◌, ℕ, suc, ◌+◌, List, [], ◌∷◌, length, take, drop, slice_index, Option, Some, None, refl, sym, ap, ap₂, subst, ◌∙◌, arith}
use Rattle.std.proofs.lemmas.List.{drop-drop, length-take-le, map-id}
use Rattle.usb_walk.specs.declared.position.Position.{Position}
use Rattle.usb_walk.specs.declared.role.Role.{Role}
use Rattle.usb_walk.specs.declared.walked_descriptor.WalkedDescriptor.{WalkedDescriptor}
use Rattle.usb_walk.specs.Numbered.{Numbered, next_position, numbered_next}
use Rattle.usb_walk.specs.Positions.{first_position}
use Rattle.usb_walk.specs.Roles.{next_role}
use Rattle.usb_fields.specs.Unfolded.{unfolded}
use Rattle.usb_walk.specs.WalkedDescriptors.{as_numbers, nothing}
use Rattle.usb_walk.proofs.NextRoles.{next_bounds, next_first}
use Rattle.usb_walk.proofs.Positions.{noted_at, same_at}
use Rattle.usb_fields.proofs.Unfolded.{by_each_step, unfolded_map}

-- ---- the descriptors of bytes by their positions

-- what may come in these bytes at a position
abbrev pub next_numbered : Position × List ℕ → Option (Role × ℕ)
next_numbered here = next_role here.0 here.1

-- the descriptor that it is, and the position and the bytes after it
abbrev pub pass_numbered : Position × List ℕ → Role × ℕ → Numbered × (Position × List ℕ)
pass_numbered here next = let m = numbered_next here.0 here.1 next in (m, (next_position m, drop next.1 here.1))

-- all of them: there are no more than bytes
abbrev pub numbered : List ℕ → List Numbered
numbered b = unfolded next_numbered pass_numbered (length b) (first_position, b)

-- ---- one step

-- the descriptor with which these bytes begin at a position: how long it is, where, and where the walk goes on
pub record Step (p : Position) (ahead : List ℕ) (next : Role × ℕ) : Type 0 where
  pub is : next_role p ahead ≡ Some next
  pub least : 2 ≤ next.1
  pub most : next.1 ≤ length ahead
  pub taken : length (take next.1 ahead) ≡ next.1
  pub first : slice_index (take next.1 ahead) 0 ≡ next.1
  pub place : (numbered_next p ahead next).position.at ≡ p.at
  pub at : (next_position (numbered_next p ahead next)).at ≡ p.at + next.1

pub step_of : (p : Position) (ahead : List ℕ) (next : Role × ℕ) → next_role p ahead ≡ Some next → Step p ahead next
step_of p ahead next is =
    let m = numbered_next p ahead next in
    let bounds = next_bounds p ahead next is in
    let taken : length m.bytes ≡ next.1 = length-take-le next.1 ahead bounds.1 in
    let place : m.position.at ≡ p.at = same_at next.0 ahead p in
    record {
      is = is;
      least = bounds.0;
      most = bounds.1;
      taken = taken;
      first = next_first p ahead next is;
      place = place;
      at = omega (arith, noted_at next.0 m.bytes m.position, place, taken);
    }

-- ---- all of them

-- the descriptor that may come at a position, and how long it is
abbrev pub coming : List ℕ → Position → Option (Role × ℕ)
coming b p = next_role p (drop p.at b)

-- the descriptor that these bytes have at a position
abbrev pub numbered_at : List ℕ → Position → Role × ℕ → Numbered
numbered_at b p next = numbered_next p (drop p.at b) next

pub behind_is : (b : List ℕ) (was : WalkedDescriptor) (n : Numbered) → (as_numbers b was n).position ≡ next_position n
unfolding as_numbers
behind_is b was n = refl

-- what is said of a struct, and of the descriptors behind it, of which there are at most this many
abbrev pub Behind : Type 1
Behind = ℕ → WalkedDescriptor → List Numbered → Type 0

-- it holds where there is none
abbrev pub Ends : List ℕ → Behind → Type 0
Ends b P = (n : ℕ) (was : WalkedDescriptor) → (n ≡ 0) ⊎ (coming b was.position ≡ None) → P n was []

-- it holds of a descriptor more, where it holds of those behind that
abbrev pub Continues : List ℕ → Behind → Type 0
Continues b P =
    (n : ℕ) (was : WalkedDescriptor) (next : Role × ℕ) (ns : List Numbered) → Step was.position (drop was.position.at b) next
    → (let m = numbered_at b was.position next in P n (as_numbers b was m) ns → P (suc n) was (m ∷ ns))

-- one of them behind a struct, and the struct after it
abbrev pass_struct : List ℕ → WalkedDescriptor → Role × ℕ → Numbered × WalkedDescriptor
pass_struct b was next = let m = numbered_at b was.position next in (m, as_numbers b was m)

-- from struct to struct they are the same
same_step : (b : List ℕ) (was : WalkedDescriptor) (next : Role × ℕ) → coming b was.position ≡ Some next
    → (let m = numbered_at b was.position next in let q = (as_numbers b was m).position in
    pass_numbered (was.position, drop was.position.at b) next ≡ (m, (q, drop q.at b)))
same_step b was next is =
    let p = was.position in
    let m = numbered_at b p next in
    let behind = behind_is b was m in
    let at = (step_of p (drop p.at b) next is).at in
    ap₂ (λ q rest. (m, (q, rest))) (sym behind) (drop-drop next.1 p.at b ∙ ap (λ k. drop k b) (sym at ∙ ap (λ (q : Position). q.at) (sym behind)))

-- so it holds of all of them
pub by_steps : (b : List ℕ) (P : Behind) → Ends b P → Continues b P → P (length b) nothing (numbered b)
by_steps b P ends more =
    let next = λ (was : WalkedDescriptor). coming b was.position in
    subst (P (length b) nothing)
    (sym (map-id (unfolded next (pass_struct b) (length b) nothing))
    ∙ unfolded_map (λ m. m) (λ was. (was.position, drop was.position.at b)) next (pass_struct b) next_numbered pass_numbered (λ was. refl) (same_step b) (length b) nothing)
    (by_each_step next (pass_struct b) P ends (λ n was next ns is later. more n was next ns (step_of was.position (drop was.position.at b) next is) later) (length b) nothing)
