-- On what a draft keeps of a set that was written.
use Rattle.std.proofs.Common.{◌≡◌, ℕ, ◌+◌, ◌<◌, ◌==◌, not, Bool, true, false, cond, List, [], ◌∷◌, ◌++◌, map, take, get_or, length, refl, ap, ◌∙◌}
use Rattle.std.specs.List.{list_any}
use Rattle.std.proofs.lemmas.List.{map-append}
use Rattle.std.proofs.lemmas.List.Elements.{filter_more}
use Rattle.usb_set.specs.declared.tree.Setting.{Setting}
use Rattle.usb_listing.specs.inside.Thinning.{naming, without}

pub others_more : (all others : List ℕ) (i d : ℕ) → i < length all
    → map naming (without (take (i + 1) all) others) ≡ map naming (without (take i all) others) ++ cond (not (list_any (λ m. m == get_or all i d) others)) (naming (get_or all i d) ∷ []) []
others_more all others i d lt =
    ap (map naming) (filter_more (λ n. not (list_any (λ m. m == n) others)) all i d lt) ∙ map-append naming (without (take i all) others) _
    ∙ ap (λ (xs : List Setting). map naming (without (take i all) others) ++ xs) (at (not (list_any (λ m. m == get_or all i d) others)) (get_or all i d))
  where
    at : (b : Bool) (n : ℕ) → map naming (cond b (n ∷ []) []) ≡ cond b (naming n ∷ []) []
    at true n = refl
    at false n = refl
