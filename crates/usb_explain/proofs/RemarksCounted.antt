-- Counts of remarks, which stop at the greatest number.
use Rattle.std.proofs.Common.{◌≡◌, ◌≤◌, ◌<◌, ◌∙◌, suc, ◌+◌, ℕ, List, ◌∷◌, Option, Some, None, ap, arith, drop, get_or, length, length-append, min, sym}
use Rattle.std.specs.List.{flat_map}
use Rattle.std.proofs.Math.Seq.{drop-cons}
use Rattle.usb_remarks.specs.declared.remark.Remark.{Remark}
use Rattle.usb_remarks.specs.RemarkValues.{there}
use Rattle.std.proofs.Math.Nat.{min-eq_left}

-- where nothing is left to count, what was counted is all
pub all_counted : (count all : ℕ) → count ≤ 18446744073709551615 → min (count + 0) 18446744073709551615 ≡ all → count ≡ all
all_counted count all most done =
    let same : count + 0 ≡ count = omega arith in
    sym (ap (λ (n : ℕ). min n 18446744073709551615) same ∙ min-eq_left most) ∙ done

pub at_most_one : (r : Option Remark) → length (there r) ≤ 1
at_most_one None = omega arith
at_most_one (Some remark) = omega arith

-- those from one on are that one, if it is there, and those after it
pub counted_next : (rs : List (Option Remark)) (i : ℕ) (r : Option Remark) → i < length rs
    → length (there (get_or rs i r)) + length (flat_map there (drop (i + 1) rs)) ≡ length (flat_map there (drop i rs))
counted_next rs i r below =
    let rest : suc i ≡ i + 1 = omega arith in
    let this = get_or rs i r in
    let next : drop i rs ≡ this ∷ drop (i + 1) rs = drop-cons rs i r below ∙ ap (λ (n : ℕ). this ∷ drop n rs) rest in
    sym (ap (λ (l : List (Option Remark)). length (flat_map there l)) next ∙ length-append (there this) (flat_map there (drop (i + 1) rs)))
