-- What is found in tables.
use Rattle.std.proofs.Common.{◌≡◌, ◌∙◌, refl, ap, sym, subst, ℕ, Bool, true, false, List, [], ◌∷◌, ◌++◌, map, find, Option, None, Some, IfSome, IsTrue, option_map}
use Rattle.std.specs.Borrow.{Bor}
use Rattle.std.specs.List.{list_all}
use Rattle.std.specs.Option.{option_copied, option_or}
use Rattle.std.specs.Prelude.{cond}
use Rattle.std.proofs.lemmas.Bool.{and_parts}
use Rattle.std.proofs.lemmas.List.Folds.{find-append, list_all-map}
use Rattle.usb_names.specs.Named.{Named, have_names, is_name, row_of}

-- the image of one of two, or that of either
image_of_either : {X Y : Type 0} (f : X → Y) (b : Bool) (x : X) (rest : Option X)
    → cond b (Some (f x)) (option_map f rest) ≡ option_map f (cond b (Some x) rest)
image_of_either f true x rest = refl
image_of_either f false x rest = refl

-- what is found among the images of a list is the image of what is found in it
pub find_mapped : {X Y : Type 0} (p : Y → Bool) (f : X → Y) (xs : List X) → find p (map f xs) ≡ option_map f (find (λ x. p (f x)) xs)
find_mapped p f [] = refl
find_mapped p f (x ∷ xs) =
    ap (cond (p (f x)) (Some (f x))) (find_mapped p f xs) ∙ image_of_either f (p (f x)) x (find (λ x. p (f x)) xs)

-- what is found in two lists, one after the other
pub find_in_two : {X : Type 0} (p : X → Bool) (xs ys : List X) → find p (xs ++ ys) ≡ option_or (find p xs) (find p ys)
find_in_two = find-append

chosen_passes : {X : Type 0} (p : X → Bool) (b : Bool) (x : X) (rest : Option X) → p x ≡ true → IfSome rest (λ y. IsTrue (p y))
    → IfSome (cond b (Some x) rest) (λ y. IsTrue (p y))
chosen_passes p true x rest h k = h
chosen_passes p false x rest h k = k

-- what is found in a list passes a test that all of it pass
pub found_passes : {X : Type 0} (p test : X → Bool) (xs : List X) → list_all p xs ≡ true → IfSome (find test xs) (λ x. IsTrue (p x))
found_passes p test [] h = tt
found_passes p test (x ∷ xs) h =
    let both = and_parts (p x) (list_all p xs) h in
    chosen_passes p (test x) x (find test xs) both.0 (found_passes p test xs both.1)

-- so does what the code answers
pub answered : {X Y : Type 0} (f : X → Y) (p : Y → Bool) (result : Option (Bor X)) (found : Option Y) → option_map f (option_copied result) ≡ found
    → IfSome found (λ y. IsTrue (p y)) → IfSome result (λ x. IsTrue (p (f x.now)))
answered f p None found e h = tt
answered f p (Some x) found e h = rw (← e) at h

copied : {X : Type 0} (P : X → Type 0) (result : Option (Bor X)) → IfSome (option_copied result) P → IfSome result (λ x. P x.now)
copied P None h = tt
copied P (Some x) h = h

-- the name of a row that is found
pub found_name : {Code : Type 0} (test : Code × Bor (List ℕ) → Bool) (rows : List (Code × Bor (List ℕ))) (result : Option (Bor (Code × Bor (List ℕ))))
    → option_copied result ≡ find test rows → have_names (map row_of rows) ≡ true → IfSome result (λ row. IsTrue (is_name row.now.1.now))
found_name {Code} test rows result e h =
    let has_name = λ (row : Code × Bor (List ℕ)). is_name row.1.now in
    let all : list_all has_name rows ≡ true = sym (list_all-map (λ (row : Named Code). is_name row.1) row_of rows) ∙ h in
    copied (λ row. IsTrue (has_name row)) result (subst (λ found. IfSome found (λ row. IsTrue (has_name row))) (sym e) (found_passes has_name test rows all))
