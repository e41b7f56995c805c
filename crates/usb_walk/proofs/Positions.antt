-- Where one stands at a descriptor, and behind it.
use Rattle.std.proofs.Common.{◌≡◌, ◌≤◌, ℕ, ◌-◌, Bool, true, false, List, ap, length, refl, arith}
use Rattle.usb_walk.specs.declared.role.Role.{Role}
use Rattle.usb_walk.specs.declared.role.Role.TheVariants.{Device, Qualifier, Configuration, Association, Interface, Endpoint, Raw, Languages, Text}
use Rattle.usb_walk.specs.declared.position.Position.{Position}
use Rattle.usb_walk.specs.Positions.{Counted, moved, noted, position_after, position_at, with_set}
use Rattle.usb_walk.specs.Surroundings.{depth_of}

with_set_at : (is_other : Bool) (p : Position) → (with_set is_other p).at ≡ p.at
with_set_at true p = refl
with_set_at false p = refl

-- what is kept of a descriptor doesn't move
pub noted_at : (role : Role) (d : List ℕ) (p : Position) → (noted role d p).at ≡ p.at
unfolding noted
noted_at Device d p = refl
noted_at Qualifier d p = refl
noted_at Configuration d p = with_set_at p.is_other p
noted_at Association d p = refl
noted_at Interface d p = refl
noted_at Endpoint d p = refl
noted_at Raw d p = refl
noted_at Languages d p = refl
noted_at Text d p = refl

with_set_left : (is_other : Bool) (p : Position) → (with_set is_other p).left ≡ p.left
with_set_left true p = refl
with_set_left false p = refl

noted_left : (role : Role) (d : List ℕ) (p : Position) → (noted role d p).left ≡ p.left
unfolding noted
noted_left Device d p = refl
noted_left Qualifier d p = refl
noted_left Configuration d p = with_set_left p.is_other p
noted_left Association d p = refl
noted_left Interface d p = refl
noted_left Endpoint d p = refl
noted_left Raw d p = refl
noted_left Languages d p = refl
noted_left Text d p = refl

-- fewer bytes of the set are left behind it
pub after_left : (role : Role) (d : List ℕ) (p : Position) → (position_after role d p).left ≡ p.left - length d
after_left role d p = ap (λ k. k - length d) (noted_left role d p)

-- its depth can be read behind it too
pub depth_after : (role : Role) (d : List ℕ) (p : Position) → depth_of (position_after role d p) role ≡ depth_of p role
unfolding noted depth_of
depth_after Device d p = refl
depth_after Qualifier d p = refl
depth_after Configuration d p = refl
depth_after Association d p = refl
depth_after Interface d p = refl
depth_after Endpoint d p = refl
depth_after Raw d p = refl
depth_after Languages d p = refl
depth_after Text d p = refl

-- coming to one doesn't move either
pub same_at : (role : Role) (ahead : List ℕ) (p : Position) → (position_at role ahead p).at ≡ p.at
same_at Device ahead p = refl
same_at Qualifier ahead p = refl
same_at Configuration ahead p = refl
same_at Association ahead p = refl
same_at Interface ahead p = refl
same_at Endpoint ahead p = refl
same_at Raw ahead p = refl
same_at Languages ahead p = refl
same_at Text ahead p = refl

counted_set : (is_other : Bool) (n : ℕ) (p : Position) → 1 ≤ n → Counted p → Counted (moved n (with_set is_other p))
counted_set true n p more c = record { strings = omega arith; main_sets = omega arith; other_sets = omega arith; associations = omega arith; settings = omega arith; endpoints = omega arith }
counted_set false n p more c = record { strings = omega arith; main_sets = omega arith; other_sets = omega arith; associations = omega arith; settings = omega arith; endpoints = omega arith }

-- there are no more of anything than bytes before, behind a descriptor too
pub counted_noted : (role : Role) (d : List ℕ) (n : ℕ) (p : Position) → 1 ≤ n → Counted p → Counted (moved n (noted role d p))
unfolding noted
counted_noted Device d n p more c = record { strings = omega arith; main_sets = omega arith; other_sets = omega arith; associations = omega arith; settings = omega arith; endpoints = omega arith }
counted_noted Qualifier d n p more c = record { strings = omega arith; main_sets = omega arith; other_sets = omega arith; associations = omega arith; settings = omega arith; endpoints = omega arith }
counted_noted Configuration d n p more c = counted_set p.is_other n p more c
counted_noted Association d n p more c = record { strings = omega arith; main_sets = omega arith; other_sets = omega arith; associations = omega arith; settings = omega arith; endpoints = omega arith }
counted_noted Interface d n p more c = record { strings = omega arith; main_sets = omega arith; other_sets = omega arith; associations = omega arith; settings = omega arith; endpoints = omega arith }
counted_noted Endpoint d n p more c = record { strings = omega arith; main_sets = omega arith; other_sets = omega arith; associations = omega arith; settings = omega arith; endpoints = omega arith }
counted_noted Raw d n p more c = record { strings = omega arith; main_sets = omega arith; other_sets = omega arith; associations = omega arith; settings = omega arith; endpoints = omega arith }
counted_noted Languages d n p more c = record { strings = omega arith; main_sets = omega arith; other_sets = omega arith; associations = omega arith; settings = omega arith; endpoints = omega arith }
counted_noted Text d n p more c = record { strings = omega arith; main_sets = omega arith; other_sets = omega arith; associations = omega arith; settings = omega arith; endpoints = omega arith }

pub counted_at : (role : Role) (ahead : List ℕ) (p : Position) → Counted p → Counted (position_at role ahead p)
counted_at Configuration ahead p c = record { strings = c.strings; main_sets = c.main_sets; other_sets = c.other_sets; associations = omega arith; settings = omega arith; endpoints = omega arith }
counted_at Association ahead p c = c
counted_at Interface ahead p c = c
counted_at Endpoint ahead p c = c
counted_at Raw ahead p c = c
counted_at Device ahead p c = record { strings = c.strings; main_sets = c.main_sets; other_sets = c.other_sets; associations = omega arith; settings = omega arith; endpoints = omega arith }
counted_at Qualifier ahead p c = record { strings = c.strings; main_sets = c.main_sets; other_sets = c.other_sets; associations = omega arith; settings = omega arith; endpoints = omega arith }
counted_at Languages ahead p c = record { strings = c.strings; main_sets = c.main_sets; other_sets = c.other_sets; associations = omega arith; settings = omega arith; endpoints = omega arith }
counted_at Text ahead p c = record { strings = c.strings; main_sets = c.main_sets; other_sets = c.other_sets; associations = omega arith; settings = omega arith; endpoints = omega arith }
