-- What takes the elements of a list one by one, and gives something now and then.
use Rattle.std.specs.Prelude.{List, [], ◌∷◌, ◌++◌, Option}
use Rattle.std.specs.Option.{option_to_list}

-- for how it stands after an element, and what it gives with it
module _ {Element State Given : Type 0} (after : Element → State → State) (with : Element → State → Option Given) where
  -- how it stands after all of them, and what it has given, in order
  abbrev pub after_all : State → List Element → State
  after_all s [] = s
  after_all s (x ∷ xs) = after_all (after x s) xs

  abbrev pub given_in : State → List Element → List Given
  given_in s [] = []
  given_in s (x ∷ xs) = option_to_list (with x s) ++ given_in (after x s) xs
