-- On values that are read one after another.
use Rattle.std.proofs.Common.{◌≡◌, ℕ, zero, suc, ◌+◌, ◌-◌, ◌<◌, List, [], ◌∷◌, length, Some, None, refl, arith}
use Rattle.usb_listing.specs.declared.row.Written.{Written}
use Rattle.usb_listing.specs.inside.Fields.{value_first, values_from, values_then}

pub values_end : (form : Written) (most : ℕ) (done rest : List ℕ) → length rest ≡ 0 → values_from form most done rest ≡ Some done
unfolding values_from
values_end form zero done [] e = refl
values_end form (suc most) done [] e = refl
values_end form most done (x ∷ rest) e = absurd (omega arith)

pub values_full : (form : Written) (most : ℕ) (done rest : List ℕ) → most ≡ 0 → 0 < length rest → values_from form most done rest ≡ None
unfolding values_from
values_full form most done [] z lt = absurd (omega arith)
values_full form zero done (x ∷ rest) z lt = refl
values_full form (suc most) done (x ∷ rest) z lt = absurd (omega arith)

pub values_step : (form : Written) (most : ℕ) (done rest : List ℕ) → 0 < length rest
    → values_from form (suc most) done rest ≡ values_then (values_from form most) done (value_first form rest)
unfolding values_from
values_step form most done [] lt = absurd (omega arith)
values_step form most done (x ∷ rest) lt = refl

pub values_next : (form : Written) (k : ℕ) (done rest : List ℕ) → k < 126 → 0 < length rest
    → values_from form (126 - k) done rest ≡ values_then (values_from form (126 - (k + 1))) done (value_first form rest)
values_next form k done rest below lt =
    let more : 126 - k ≡ suc (126 - (k + 1)) = omega arith in
    rw more (values_step form (126 - (k + 1)) done rest lt)
