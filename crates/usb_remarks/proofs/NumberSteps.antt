-- Numbers of interfaces one after another, of which one may be there.
use Rattle.std.proofs.Common.{◌≡◌, ◌≢◌, ◌+◌, ◌-◌, ◌||◌, ℕ, zero, suc, List, Bool, false, arith, refl}
use Rattle.std.specs.List.{list_any, range_with_len}
use Rattle.usb_remarks.specs.InterfaceNumbers.{has_number}

pub any_none : (numbers : List Bool) (first count : ℕ) → count ≡ 0 → list_any (has_number numbers) (range_with_len first count) ≡ false
any_none numbers first zero e = refl
any_none numbers first (suc n) e = absurd (omega arith)

pub any_step : (numbers : List Bool) (first count : ℕ) → count ≢ 0
    → list_any (has_number numbers) (range_with_len first count) ≡ (has_number numbers first || list_any (has_number numbers) (range_with_len (first + 1) (count - 1)))
any_step numbers first zero e = absurd (e refl)
any_step numbers first (suc n) e = let one_less : suc n - 1 ≡ n = omega arith in rw one_less refl
