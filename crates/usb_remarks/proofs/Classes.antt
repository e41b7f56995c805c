-- The lengths of class descriptors one after another.
use Rattle.std.proofs.Common.{◌≡◌, ℕ, ◌+◌, List, ◌∷◌, true, length, refl, ap, ◌∙◌}
use Rattle.std.specs.List.{sum_by, take_while}
use Rattle.std.proofs.lemmas.List.Sums.{sum_by-cons, take_while-cons}
use Rattle.usb_remarks.specs.HeaderRemarks.{class_length, is_class_descriptor}

-- the first one, and those after it
first_and_rest : (more : List (List ℕ)) (d : List ℕ) → is_class_descriptor d ≡ true → class_length (d ∷ more) ≡ length d + class_length more
first_and_rest more d is =
    let one : take_while is_class_descriptor (d ∷ more) ≡ d ∷ take_while is_class_descriptor more =
    take_while-cons is_class_descriptor d more ∙ rw is refl in
    ap (sum_by length) one ∙ sum_by-cons length d (take_while is_class_descriptor more)

pub class_length_step : (ds more : List (List ℕ)) (d : List ℕ) → ds ≡ d ∷ more → is_class_descriptor d ≡ true
    → class_length ds ≡ length d + class_length more
class_length_step ds more d e is = ap class_length e ∙ first_and_rest more d is
