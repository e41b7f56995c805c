-- What a setting has, and which settings follow, descriptor by descriptor.
use Rattle.std.proofs.Common.{◌≡◌, ◌∙◌, ℕ, List, [], ◌∷◌, true, false, ◌||◌, refl, ap}
use Rattle.std.specs.List.{list_any, take_while}
use Rattle.std.proofs.lemmas.List.Sums.{take_while-cons}
use Rattle.usb_remarks.specs.declared.remarks.settings.Wanted.{Wanted}
use Rattle.usb_walk.specs.Roles.{is_interface}
use Rattle.usb_remarks.specs.SettingRemarks.{has_wanted, is_wanted, no_interface}

-- the next interface ends a setting
ends_there : (d : List ℕ) (more : List (List ℕ)) → is_interface d ≡ true → take_while no_interface (d ∷ more) ≡ []
ends_there d more is = take_while-cons no_interface d more ∙ rw is refl

-- any other descriptor is of it
goes_on : (d : List ℕ) (more : List (List ℕ)) → is_interface d ≡ false → take_while no_interface (d ∷ more) ≡ d ∷ take_while no_interface more
goes_on d more is = take_while-cons no_interface d more ∙ rw is refl

pub none_wanted : (what : Wanted) (ds : List (List ℕ)) → ds ≡ [] → has_wanted what ds ≡ false
unfolding has_wanted
none_wanted what ds none = rw none refl

pub wanted_ends : (what : Wanted) (ds more : List (List ℕ)) (d : List ℕ) → ds ≡ d ∷ more → is_interface d ≡ true → has_wanted what ds ≡ false
unfolding has_wanted
wanted_ends what ds more d step is = rw step (ap (list_any (is_wanted what)) (ends_there d more is))

pub wanted_found : (what : Wanted) (ds more : List (List ℕ)) (d : List ℕ) → ds ≡ d ∷ more → is_interface d ≡ false → is_wanted what d ≡ true
    → has_wanted what ds ≡ true
unfolding has_wanted
wanted_found what ds more d step is found =
    rw step (ap (list_any (is_wanted what)) (goes_on d more is) ∙ ap (λ b. b || list_any (is_wanted what) (take_while no_interface more)) found)

pub wanted_later : (what : Wanted) (ds more : List (List ℕ)) (d : List ℕ) → ds ≡ d ∷ more → is_interface d ≡ false → is_wanted what d ≡ false
    → has_wanted what ds ≡ has_wanted what more
unfolding has_wanted
wanted_later what ds more d step is other =
    rw step (ap (list_any (is_wanted what)) (goes_on d more is) ∙ ap (λ b. b || list_any (is_wanted what) (take_while no_interface more)) other)
