-- What is shown of things one after another.
use Rattle.std.proofs.Common.{◌≡◌, ◌∙◌, ◌<◌, ℕ, suc, ◌+◌, List, ◌∷◌, ap, arith, drop, get_or, length, sym}
use Rattle.std.specs.List.{flat_map}
use Rattle.std.proofs.Math.Seq.{drop-cons}
use Rattle.usb_text.specs.Shown.{Shown, showing_all}
use Rattle.usb_text.proofs.ShownLines.{showing_joined}

pub shown_next : {S X : Type 0} (showing : Shown → S → S) (shown : X → List Shown) (xs : List X) (i : ℕ) (x : X) (seen : S) → i < length xs
    → showing_all showing (flat_map shown (drop (i + 1) xs)) (showing_all showing (shown (get_or xs i x)) seen) ≡ showing_all showing (flat_map shown (drop i xs)) seen
shown_next {S} {X} showing shown xs i x seen below =
    let rest : suc i ≡ i + 1 = omega arith in
    let this = get_or xs i x in
    let next : drop i xs ≡ this ∷ drop (i + 1) xs = drop-cons xs i x below ∙ ap (λ (n : ℕ). this ∷ drop n xs) rest in
    sym (ap (λ (ys : List X). showing_all showing (flat_map shown ys) seen) next ∙ showing_joined showing (shown this) (flat_map shown (drop (i + 1) xs)) seen)
