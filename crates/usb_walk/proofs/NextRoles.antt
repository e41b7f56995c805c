-- The length of the descriptor that comes at a position.
use Rattle.std.proofs.Common.{◌≡◌, ◌≤◌, ℕ, zero, suc, ◌+◌, List, [], ◌∷◌, ◌||◌, if◌then◌else◌, nat_lt, length, slice_index, take, Option, Some, None, unwrap_or, option_and_then, refl, ap, ◌∙◌, arith}
use Rattle.std.specs.Option.{option_map}
use Rattle.std.proofs.lemmas.Bool.Decides.{nat_tests}
use Rattle.std.proofs.lemmas.Option.{none-some}
use Rattle.usb_walk.specs.declared.position.Position.{Position}
use Rattle.usb_walk.specs.declared.role.Role.{Role}
use Rattle.usb_walk.specs.Roles.{next_role, role_of}
use Rattle.usb_walk.specs.Trees.{descriptor_length}
use Rattle.usb_walk.proofs.Cuts.{length_within}

some_length : (r : Role) (n : ℕ) (next : Role × ℕ) → Some (r, n) ≡ Some next → n ≡ next.1
some_length r n next e = ap (λ (o : Option (Role × ℕ)). unwrap_or (option_map (λ next. next.1) o) n) e

role_length : (role : Option Role) (n : ℕ) (next : Role × ℕ) → option_map (λ role. (role, n)) role ≡ Some next → n ≡ next.1
role_length None n next e = absurd (none-some next e)
role_length (Some r) n next e = some_length r n next e

next_length : (p : Position) (ahead : List ℕ) (len : Option ℕ) (next : Role × ℕ)
    → option_and_then (λ n. option_map (λ role. (role, n)) (role_of p (take n ahead))) len ≡ Some next → len ≡ Some next.1
next_length p ahead None next e = absurd (none-some next e)
next_length p ahead (Some n) next e = ap Some (role_length (role_of p (take n ahead)) n next e)

-- it is what its first byte says
pub next_says : (p : Position) (ahead : List ℕ) (next : Role × ℕ) → next_role p ahead ≡ Some next → descriptor_length ahead ≡ Some next.1
unfolding next_role
next_says p ahead next e = next_length p ahead (descriptor_length ahead) next e

-- a descriptor has two bytes at least, and no more than there are
pub next_bounds : (p : Position) (ahead : List ℕ) (next : Role × ℕ) → next_role p ahead ≡ Some next → (2 ≤ next.1) × (next.1 ≤ length ahead)
next_bounds p ahead next e = length_within ahead next.1 (next_says p ahead next e)

-- its two tests
length_if : (len m n : ℕ) → (if nat_lt len 2 || nat_lt m len then None else Some len) ≡ Some n → (2 ≤ n) × (n ≤ m) × (len ≡ n)
length_if len m n e = grind (arith, nat_tests)

-- the first byte of a descriptor is its length
first_byte : (k len : ℕ) (rest : List ℕ) → 2 ≤ k → slice_index (take k (len ∷ rest)) 0 ≡ len
first_byte zero len rest some = absurd (omega arith)
first_byte (suc k) len rest some = refl

length_first : (b : List ℕ) (n : ℕ) → descriptor_length b ≡ Some n → slice_index (take n b) 0 ≡ n
length_first [] n e = absurd (none-some n e)
length_first (len ∷ rest) n e =
    let bounds = length_if len (length rest + 1) n e in
    first_byte n len rest bounds.0 ∙ bounds.2

pub next_first : (p : Position) (ahead : List ℕ) (next : Role × ℕ) → next_role p ahead ≡ Some next → slice_index (take next.1 ahead) 0 ≡ next.1
next_first p ahead next e = length_first ahead next.1 (next_says p ahead next e)
