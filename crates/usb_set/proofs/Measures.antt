-- Laws of the encoder's pass over a set.
use Rattle.std.proofs.Common.{◌≡◌, ◌∙◌, ℕ, ◌+◌, Bool, true, false, ◌||◌, Option, refl, ap, arith}
use Rattle.usb_set.specs.inside.Trees.{counted, measured}

-- descriptors after others are measured from what the others came to
pub measured_then : (start : ℕ) (long typed : Bool) (count : ℕ) (more_long more_typed : Bool) (more : ℕ) → measured (measured start long typed count) more_long more_typed more ≡ measured start (long || more_long) (typed || more_typed) (count + more)
measured_then start true true count true more_typed more = refl
measured_then start true true count false true more = refl
measured_then start true true count false false more = omega arith
measured_then start true false count true more_typed more = refl
measured_then start true false count false true more = refl
measured_then start true false count false false more = omega arith
measured_then start false true count true more_typed more = refl
measured_then start false true count false true more = refl
measured_then start false true count false false more = omega arith
measured_then start false false count true more_typed more = refl
measured_then start false false count false true more = refl
measured_then start false false count false false more = omega arith

-- where what was before has no count, none has what is after it
pub counted_then : (start : ℕ) (long typed : Bool) (count : ℕ) (before : Option ℕ) (more_long more_typed : Bool) (more : ℕ)
    → counted before ≡ measured start long typed count
    → measured (counted before) more_long more_typed more ≡ measured start (long || more_long) (typed || more_typed) (count + more)
counted_then start long typed count before more_long more_typed more is =
    ap (λ n. measured n more_long more_typed more) is ∙ measured_then start long typed count more_long more_typed more
