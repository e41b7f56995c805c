-- One element more.
use Rattle.std.proofs.Common.{◌≡◌, List, [], ◌∷◌, ◌++◌, append_assoc, refl, sym, ◌∙◌, ap}
use Rattle.std.specs.Prelude.{Option}
use Rattle.std.specs.Option.{option_to_list}
use Rattle.std.proofs.lemmas.List.{append-nil}
use Rattle.usb_capture.specs.Folds.{after_all, given_in}

module _ {Element State Given : Type 0} (after : Element → State → State) (with : Element → State → Option Given) where
  pub after_push : (s : State) (xs : List Element) (x : Element) → after_all after with s (xs ++ x ∷ []) ≡ after x (after_all after with s xs)
  after_push s [] x = refl
  after_push s (first ∷ xs) x = after_push (after first s) xs x

  pub after_both : (s : State) (xs ys : List Element) → after_all after with s (xs ++ ys) ≡ after_all after with (after_all after with s xs) ys
  after_both s [] ys = refl
  after_both s (x ∷ xs) ys = after_both (after x s) xs ys

  pub given_push : (s : State) (xs : List Element) (x : Element)
      → given_in after with s (xs ++ x ∷ []) ≡ given_in after with s xs ++ option_to_list (with x (after_all after with s xs))
  given_push s [] x = append-nil (option_to_list (with x s))
  given_push s (first ∷ xs) x =
      let now = option_to_list (with first s) in
      let later = after first s in
      ap (λ ys. now ++ ys) (given_push later xs x) ∙ sym (append_assoc now (given_in after with later xs) (option_to_list (with x (after_all after with later xs))))

  -- who stands as after these elements and has given that, after one more
  pub taken_push : (s old new : State) (xs : List Element) (x : Element) (given : List Given) (more : Option Given)
      → old ≡ after_all after with s xs → given ≡ given_in after with s xs → new ≡ after x old → more ≡ with x old
      → (new ≡ after_all after with s (xs ++ x ∷ [])) × (given ++ option_to_list more ≡ given_in after with s (xs ++ x ∷ []))
  taken_push s old new xs x given more was gave is gives = (
    is ∙ ap (after x) was ∙ sym (after_push s xs x),
    ap (λ ys. ys ++ option_to_list more) gave
        ∙ ap (λ o. given_in after with s xs ++ option_to_list o) (gives ∙ ap (with x) was)
        ∙ sym (given_push s xs x),
  )
