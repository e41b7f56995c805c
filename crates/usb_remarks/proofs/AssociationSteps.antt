-- Sets and their associations, one by one.
use Rattle.std.proofs.Common.{◌≡◌, ◌≢◌, ◌-◌, ◌&&◌, ◌||◌, ℕ, zero, suc, List, [], ◌∷◌, true, false, arith, ap, drop, refl}
use Rattle.std.specs.List.{list_any}
use Rattle.usb_fields.specs.Bytes.{little_endian_at}
use Rattle.usb_remarks.specs.Associations.{are_whole, has_association, is_whole}
use Rattle.usb_walk.specs.Roles.{is_association}

pub none_there : (ds : List (List ℕ)) → ds ≡ [] → has_association ds ≡ false
unfolding has_association
none_there ds none = rw none refl

pub found_there : (ds more : List (List ℕ)) (d : List ℕ) → ds ≡ d ∷ more → is_association d ≡ true → has_association ds ≡ true
unfolding has_association
found_there ds more d step is = rw step (ap (λ b. b || list_any is_association more) is)

pub found_later : (ds more : List (List ℕ)) (d : List ℕ) → ds ≡ d ∷ more → is_association d ≡ false → has_association ds ≡ has_association more
unfolding has_association
found_later ds more d step other = rw step (ap (λ b. b || list_any is_association more) other)

pub whole_none : (sets : ℕ) (b : List ℕ) → sets ≡ 0 → are_whole sets b ≡ true
unfolding are_whole
whole_none zero b e = refl
whole_none (suc n) b e = absurd (omega arith)

pub whole_step : (sets : ℕ) (b : List ℕ) → sets ≢ 0 → are_whole sets b ≡ (is_whole b && are_whole (sets - 1) (drop (little_endian_at b 2) b))
unfolding are_whole
whole_step zero b e = absurd (e refl)
whole_step (suc n) b e = let one_less : suc n - 1 ≡ n = omega arith in rw one_less refl
