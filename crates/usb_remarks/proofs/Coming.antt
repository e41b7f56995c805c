-- Which interfaces are still to come in a set, descriptor by descriptor.
use Rattle.std.proofs.Common.{◌≡◌, ◌≤◌, ◌<◌, ◌∙◌, ℕ, zero, suc, ◌+◌, ◌-◌, ◌==◌, ◌&&◌, ◌||◌, Bool, true, false, List, [], ◌∷◌, if◌then◌else◌, nat_le, nat_lt, length, slice_index, take, drop, Option, Some, None, IfSome, option_and_then, refl, sym, ap, arith, length-drop}
use Rattle.std.specs.Borrow.{Bor}
use Rattle.std.specs.Option.{option_copied, option_map}
use Rattle.std.proofs.lemmas.Bool.Decides.{nat_tests}
use Rattle.std.proofs.lemmas.Option.{none-some, same_Some}
use Rattle.std.proofs.lemmas.List.{length-take-le}
use Rattle.usb_walk.specs.declared.position.Position.{Position}
use Rattle.usb_walk.specs.declared.role.Role.{Role}
use Rattle.usb_walk.specs.declared.role.Role.TheVariants.{Device, Qualifier, Configuration, Association, Interface, Endpoint, Raw, Languages, Text}
use Rattle.usb_walk.specs.Surroundings.{rest_of_set}
use Rattle.usb_walk.specs.Positions.{position_at}
use Rattle.usb_walk.specs.Roles.{inner_role, is_interface, next_role, outer_role, role_of, typed_role}
use Rattle.usb_remarks.specs.InterfaceNumbers.{has_setting, is_numbered}
use Rattle.usb_remarks.specs.OutlineStates.{start}
use Rattle.usb_walk.specs.Trees.{descriptor_length, descriptors}
use Rattle.usb_remarks.specs.inside.Coming.{Awaits, Counts, interfaces_of}
use Rattle.usb_walk.proofs.Cuts.{descriptors_step, length_within}
use Rattle.usb_walk.proofs.NextRoles.{next_says}

-- ---- one comes where there is one to come

comes_of : (b : Bool) (k : ℕ) (rest : Bool) → nat_lt 0 k ≡ rest → nat_lt 0 (k + (if b then 1 else 0)) ≡ (b || rest)
comes_of true k rest e = grind (arith, nat_tests)
comes_of false k rest e = let none : k + 0 ≡ k = omega arith in ap (λ (n : ℕ). nat_lt 0 n) none ∙ e

pub comes : (n : ℕ) (ds : List (List ℕ)) → nat_lt 0 (interfaces_of n ds) ≡ has_setting n ds
unfolding has_setting
comes n [] = refl
comes n (d ∷ ds) = comes_of (is_numbered n d) (interfaces_of n ds) _ (comes n ds)

-- ---- one descriptor more or less

pub at_most_one : (b : Bool) → (if b then 1 else 0) ≤ 1
at_most_one true = omega arith
at_most_one false = omega arith

pub less_one : (counts new : List ℕ) (d : List ℕ) (ds : List (List ℕ)) → Counts counts (d ∷ ds)
    → (length counts ≡ 256 → length new ≡ 256)
    → (length counts ≡ 256 → (n : ℕ) → n < 256 → slice_index new n ≡ slice_index counts n - (if is_numbered n d then 1 else 0))
    → Counts new ds
less_one counts new d ds c cells minus = record {
  cells = cells c.cells;
  each = λ n within.
      let same : slice_index new n ≡ slice_index counts n - (if is_numbered n d then 1 else 0) = minus c.cells n within in
      let all : slice_index counts n ≡ interfaces_of n ds + (if is_numbered n d then 1 else 0) = c.each n within in
      omega (arith, same, all);
}

less_none : (counts new : List ℕ) (d : List ℕ) → Counts counts []
    → (length counts ≡ 256 → length new ≡ 256)
    → (length counts ≡ 256 → (n : ℕ) → n < 256 → slice_index new n ≡ slice_index counts n - (if is_numbered n d then 1 else 0))
    → Counts new []
less_none counts new d c cells minus = record {
  cells = cells c.cells;
  each = λ n within.
      let same : slice_index new n ≡ slice_index counts n - (if is_numbered n d then 1 else 0) = minus c.cells n within in
      let none : slice_index counts n ≡ 0 = c.each n within in
      omega (arith, same, none);
}

-- ---- the bytes of a set, and those after them

front_of_front : (n m : ℕ) (xs : List ℕ) → n ≤ m → take n (take m xs) ≡ take n xs
front_of_front zero m xs h = refl
front_of_front (suc n) zero xs h = absurd (omega arith)
front_of_front (suc n) (suc m) [] h = refl
front_of_front (suc n) (suc m) (x ∷ xs) h = ap (λ l. x ∷ l) (front_of_front n m xs (omega arith))

nothing : (m : ℕ) → ◌≡◌ {A = List ℕ} [] (take m [])
nothing zero = refl
nothing (suc m) = refl

-- what is behind the first ones, of a front
pub behind_front : (n m : ℕ) (xs : List ℕ) → drop n (take m xs) ≡ take (m - n) (drop n xs)
behind_front zero m xs = let same : m ≡ m - 0 = omega arith in ap (λ (k : ℕ). take k xs) same
behind_front (suc n) zero xs = let none : 0 ≡ 0 - suc n = omega arith in ap (λ (k : ℕ). take k (drop (suc n) xs)) none
behind_front (suc n) (suc m) [] = nothing (suc m - suc n)
behind_front (suc n) (suc m) (x ∷ xs) = let same : m - n ≡ suc m - suc n = omega arith in behind_front n m xs ∙ ap (λ (k : ℕ). take k (drop n xs)) same

length_tests : (len m n : ℕ) → (if nat_lt len 2 || nat_lt m len then None else Some len) ≡ Some n → (2 ≤ n) × (n ≤ m) × (len ≡ n)
length_tests len m n e = grind (arith, nat_tests)

length_if : (len m n : ℕ) → len ≡ n → 2 ≤ n → n ≤ m → (if nat_lt len 2 || nat_lt m len then None else Some len) ≡ Some n
length_if len m n e least most = grind (arith, nat_tests)

-- the first descriptor is as long in a front that has it
length_in_front : (b : List ℕ) (left n : ℕ) → descriptor_length b ≡ Some n → n ≤ left → left ≤ length b → descriptor_length (take left b) ≡ Some n
length_in_front [] left n e fits whole = absurd (none-some n e)
length_in_front (len ∷ rest) zero n e fits whole = let t = length_tests len (length rest + 1) n e in absurd (omega (arith, t.0))
length_in_front (len ∷ rest) (suc m) n e fits whole =
    let t = length_tests len (length rest + 1) n e in
    let taken : length (take m rest) ≡ m = length-take-le m rest (omega arith) in
    length_if len (length (take m rest) + 1) n t.2 t.0 (omega (arith, taken, fits))

-- past the first descriptor of a set, or outside of sets
pub awaits_on : (counts new : List ℕ) (left count : ℕ) (ahead : List ℕ) → descriptor_length ahead ≡ Some count → (0 < left → count ≤ left) → Awaits counts left ahead
    → (length counts ≡ 256 → length new ≡ 256)
    → (length counts ≡ 256 → (n : ℕ) → n < 256 → slice_index new n ≡ slice_index counts n - (if is_numbered n (take count ahead) then 1 else 0))
    → Awaits new (left - count) (drop count ahead)
awaits_on counts new zero count ahead e fits awaits cells minus within =
    let none : 0 - count ≡ 0 = omega arith in
    let before : Counts counts [] = awaits (omega arith) in
    rw none (less_none counts new (take count ahead) before cells minus)
awaits_on counts new (suc k) count ahead e fits awaits cells minus within =
    let left : ℕ = suc k in
    let bounds : (2 ≤ count) × (count ≤ length ahead) = length_within ahead count e in
    let room : count ≤ left = fits (omega arith) in
    let more : length (drop count ahead) ≡ length ahead - count = length-drop count ahead in
    let whole : left ≤ length ahead = omega (arith, within, more, room, bounds.1) in
    let first : descriptors (take left ahead) ≡ take count (take left ahead) ∷ descriptors (drop count (take left ahead)) =
    descriptors_step (take left ahead) count (length_in_front ahead left count e room whole) in
    let before : Counts counts (take count ahead ∷ descriptors (take (left - count) (drop count ahead))) =
    rw (first, front_of_front count left ahead room, behind_front count left ahead) at (awaits whole) in
    less_one counts new (take count ahead) (descriptors (take (left - count) (drop count ahead))) before cells minus

-- ---- a descriptor of a set is within it

room_if : (left n : ℕ) (x y : Option Role) (role : Role) → (if left == 0 then x else if nat_le n left then y else None) ≡ Some role → 0 < left → n ≤ left
room_if left n x y role e some = grind (arith, nat_tests)

role_room : (role : Option Role) (p : Position) (d : List ℕ) (n : ℕ) (next : Role × ℕ) → role_of p d ≡ role → option_map (λ role. (role, n)) role ≡ Some next → 0 < p.left → length d ≤ p.left
unfolding role_of
role_room None p d n next is e some = absurd (none-some next e)
role_room (Some role) p d n next is e some = room_if p.left (length d) (outer_role p d) (inner_role p d) role is some

abbrev length_or : ℕ → Option (Role × ℕ) → ℕ
length_or n None = n
length_or n (Some next) = next.1

same_length : (role : Option Role) (n : ℕ) (next : Role × ℕ) → option_map (λ role. (role, n)) role ≡ Some next → n ≡ next.1
same_length None n next e = absurd (none-some next e)
same_length (Some role) n next e = ap (λ (o : Option (Role × ℕ)). length_or n o) e

next_room : (p : Position) (ahead : List ℕ) (len : Option ℕ) (next : Role × ℕ) → descriptor_length ahead ≡ len
    → option_and_then (λ n. option_map (λ role. (role, n)) (role_of p (take n ahead))) len ≡ Some next → 0 < p.left → next.1 ≤ p.left
next_room p ahead None next is e some = absurd (none-some next e)
next_room p ahead (Some n) next is e some =
    let bounds : (2 ≤ n) × (n ≤ length ahead) = length_within ahead n is in
    let within : length (take n ahead) ≤ p.left = role_room (role_of p (take n ahead)) p (take n ahead) n next refl e some in
    let taken : length (take n ahead) ≡ n = length-take-le n ahead bounds.1 in
    let same : n ≡ next.1 = same_length (role_of p (take n ahead)) n next e in
    omega (arith, within, taken, same)

pub fits_set : (p : Position) (ahead : List ℕ) (next : Role × ℕ) → next_role p ahead ≡ Some next → 0 < p.left → next.1 ≤ p.left
unfolding next_role
fits_set p ahead next e some = next_room p ahead (descriptor_length ahead) next refl e some

rest_tests : (count : ℕ) (behind r : List ℕ) → Some r ≡ (if nat_le count (length behind) then Some (take count behind) else None) → (count ≤ length behind) × (r ≡ take count behind)
rest_tests count behind r e = grind (arith, nat_tests)

-- past the first descriptor of a set
pub awaits_begun : (counts : List ℕ) (total count : ℕ) (ahead set : List ℕ) → set ≡ drop count (take total ahead) → Counts counts (descriptors set) → Awaits counts (total - count) (drop count ahead)
awaits_begun counts total count ahead set e c within = rw (e, behind_front count total ahead) at c

-- what comes in the rest of a set is known
pub rest_counts : (counts : List ℕ) (p : Position) (d behind : List ℕ) (rest : Option (Bor (List ℕ))) → option_copied rest ≡ rest_of_set p d behind → Awaits counts (p.left - length d) behind
    → IfSome rest (λ r. Counts counts (descriptors r.now))
rest_counts counts p d behind None e awaits = tt
rest_counts counts p d behind (Some r) e awaits =
    let t : (p.left - length d ≤ length behind) × (r.now ≡ take (p.left - length d) behind) = rest_tests (p.left - length d) behind r.now e in
    rw (← t.1) at (awaits t.0)

-- at the first byte of an input nothing is counted
pub awaits_start : (counts ahead : List ℕ) → Counts counts [] → Awaits counts start.position.left ahead
unfolding start
awaits_start counts ahead c within = c

-- coming to any but the first of a set begins none
pub other_left : (role : Role) (ahead : List ℕ) (p : Position) → (role ≡ Configuration → ⊥) → (position_at role ahead p).left ≡ p.left
other_left Configuration ahead p other = absurd (other refl)
other_left Device ahead p other = refl
other_left Qualifier ahead p other = refl
other_left Association ahead p other = refl
other_left Interface ahead p other = refl
other_left Endpoint ahead p other = refl
other_left Raw ahead p other = refl
other_left Languages ahead p other = refl
other_left Text ahead p other = refl

-- so that what comes after any but the first of a set is known
pub awaits_next : (p : Position) (role : Role) (counts new : List ℕ) (count : ℕ) (ahead : List ℕ) → next_role p ahead ≡ Some (role, count) → Awaits counts p.left ahead
    → (length counts ≡ 256 → length new ≡ 256)
    → (length counts ≡ 256 → (n : ℕ) → n < 256 → slice_index new n ≡ slice_index counts n - (if is_numbered n (take count ahead) then 1 else 0))
    → Awaits new (p.left - count) (drop count ahead)
awaits_next p role counts new count ahead e awaits cells minus =
    awaits_on counts new p.left count ahead (next_says p ahead (role, count) e) (fits_set p ahead (role, count) e) awaits cells minus

-- ---- a descriptor whose role is no interface's is no interface

inner_interface : (set four long : Bool) (x : Option Role) (role : Role) → (if set then None else if four then Some (typed_role long Interface) else x) ≡ Some role → (role ≡ Interface → ⊥) → (four && long) ≡ false
inner_interface set false long x role e other = refl
inner_interface set true false x role e other = refl
inner_interface true true true x role e other = absurd (none-some role e)
inner_interface false true true x role e other = absurd (other (sym (same_Some Interface role e)))

outer_interface : (kind : ℕ) (long : Bool) (a b c d : Option Role) (role : Role)
    → (if kind == 1 then a else if kind == 6 then b else if (kind == 2) || (kind == 7) then c else if kind == 3 then d else None) ≡ Some role → ((kind == 4) && long) ≡ false
outer_interface kind long a b c d role e = grind (arith, nat_tests)

of_role : (outside fits : Bool) (x y : Option Role) (role : Role) (is : Bool) → (if outside then x else if fits then y else None) ≡ Some role
    → (x ≡ Some role → is ≡ false) → (y ≡ Some role → is ≡ false) → is ≡ false
of_role true fits x y role is e outer inner = outer e
of_role false true x y role is e outer inner = inner e
of_role false false x y role is e outer inner = absurd (none-some role e)

no_interface : (p : Position) (d : List ℕ) (role : Role) → role_of p d ≡ Some role → (role ≡ Interface → ⊥) → is_interface d ≡ false
unfolding role_of inner_role outer_role
no_interface p d role e other =
    of_role (p.left == 0) (nat_le (length d) p.left) (outer_role p d) (inner_role p d) role (is_interface d) e
    (λ outer. outer_interface (slice_index d 1) (nat_le 9 (length d)) _ _ _ _ role outer)
    (λ inner. inner_interface _ (slice_index d 1 == 4) (nat_le 9 (length d)) _ role inner other)

mapped_role : (o : Option Role) (n : ℕ) (next : Role × ℕ) → option_map (λ role. (role, n)) o ≡ Some next → o ≡ Some next.0
mapped_role None n next e = absurd (none-some next e)
mapped_role (Some role) n next e = ap (λ (o : Option (Role × ℕ)). option_map (λ (next : Role × ℕ). next.0) o) e

next_is : (p : Position) (ahead : List ℕ) (len : Option ℕ) (next : Role × ℕ) → len ≡ Some next.1
    → option_and_then (λ n. option_map (λ role. (role, n)) (role_of p (take n ahead))) len ≡ Some next → role_of p (take next.1 ahead) ≡ Some next.0
next_is p ahead None next is e = absurd (none-some next.1 is)
next_is p ahead (Some n) next is e = rw (same_Some n next.1 is) at (mapped_role (role_of p (take n ahead)) n next e)

next_role_is : (p : Position) (ahead : List ℕ) (next : Role × ℕ) → next_role p ahead ≡ Some next → role_of p (take next.1 ahead) ≡ Some next.0
unfolding next_role
next_role_is p ahead next e = next_is p ahead (descriptor_length ahead) next (next_says p ahead next e) e

less_nothing : (is number : Bool) (k : ℕ) → is ≡ false → k ≡ k - (if is && number then 1 else 0)
less_nothing false number k e = omega arith
less_nothing true number k e = absurd (cc)

-- past it nothing is left out
pub awaits_other : (p : Position) (role : Role) (counts : List ℕ) (count : ℕ) (ahead : List ℕ) → next_role p ahead ≡ Some (role, count) → (role ≡ Interface → ⊥) → Awaits counts p.left ahead
    → Awaits counts (p.left - count) (drop count ahead)
awaits_other p role counts count ahead e other awaits =
    let none : is_interface (take count ahead) ≡ false = no_interface p (take count ahead) role (next_role_is p ahead (role, count) e) other in
    awaits_next p role counts counts count ahead e awaits (λ len. len)
    (λ len n within. less_nothing (is_interface (take count ahead)) (slice_index (take count ahead) 2 == n) (slice_index counts n) none)

-- where the bytes end, nothing comes
pub awaits_end : (counts : List ℕ) (left : ℕ) (ahead : List ℕ) → Awaits counts left ahead → Awaits counts left []
awaits_end counts zero ahead awaits within = awaits (omega arith)
awaits_end counts (suc k) ahead awaits within = absurd (omega (arith, within))
