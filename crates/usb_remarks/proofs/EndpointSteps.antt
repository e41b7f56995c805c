-- Addresses of endpoints, descriptor by descriptor.
use Rattle.std.proofs.Common.{◌≡◌, ℕ, List, [], ◌∷◌, true, false, Some, None, refl, slice_index}
use Rattle.usb_remarks.specs.EndpointAddresses.{another, is_another}

pub none_other : (one other : ℕ) (ds : List (List ℕ)) → ds ≡ [] → another one other ds ≡ None
unfolding another
none_other one other ds none = rw none refl

pub another_there : (one other : ℕ) (ds more : List (List ℕ)) (d : List ℕ) → ds ≡ d ∷ more → is_another one other d ≡ true
    → another one other ds ≡ Some (slice_index d 2)
unfolding another
another_there one other ds more d step is = rw (step, is) refl

pub another_later : (one other : ℕ) (ds more : List (List ℕ)) (d : List ℕ) → ds ≡ d ∷ more → is_another one other d ≡ false
    → another one other ds ≡ another one other more
unfolding another
another_later one other ds more d step is = rw (step, is) refl
