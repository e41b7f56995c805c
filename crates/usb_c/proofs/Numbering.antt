-- On the remarks that there are, as numbers.
use Rattle.std.proofs.Common.{◌≡◌, ◌∙◌, List, [], ◌∷◌, Option, None, Some, ap, flat_map, map, refl}
use Rattle.usb_remarks.specs.declared.remark.Remark.{Remark}
use Rattle.usb_remarks.specs.RemarkValues.{there}

-- what is made of the remarks that there are
map_there : {A : Type 0} (f : Remark → A) (remarks : List (Option Remark)) → flat_map (λ (r : Option Remark). map f (there r)) remarks ≡ map f (flat_map there remarks)
map_there f [] = refl
map_there f (None ∷ remarks) = map_there f remarks
map_there f (Some remark ∷ remarks) = ap (λ l. f remark ∷ l) (map_there f remarks)

-- where these are they
pub all_there : {A : Type 0} (f : Remark → A) (remarks : List (Option Remark)) (all : List Remark) → flat_map there remarks ≡ all
    → flat_map (λ (r : Option Remark). map f (there r)) remarks ≡ map f all
all_there f remarks all e = map_there f remarks ∙ ap (map f) e
