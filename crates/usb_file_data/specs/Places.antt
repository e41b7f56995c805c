-- Going over a file, and what is found where.
use Rattle.std.specs.Prelude.{ℕ, ◌+◌, List, [], ◌∷◌, ◌++◌, take, Bool, ◌==◌, if◌then◌else◌}
use Rattle.std.specs.List.{list_any}
use Rattle.usb_file_data.specs.declared.finding.Part.{Part}
use Rattle.usb_file_data.specs.declared.finding.Finding.{Finding}
use Rattle.usb_file_data.specs.declared.rule.Rule.{Rule}
use Rattle.usb_file_data.specs.Numbers.{rule_number}

-- whether the number is in the list
abbrev pub is_among : List ℕ → ℕ → Bool
is_among xs n = list_any (λ x. x == n) xs

-- x alone where the test holds, and else nothing
abbrev pub when : {A : Type 0} → Bool → A → List A
when holds x = if holds then x ∷ [] else []

-- a finding of a rule has its number, and those of a set, a setting and an endpoint
abbrev pub finding : Rule → Part → ℕ → ℕ → ℕ → Finding
finding rule part set setting endpoint = record { rule = rule_number rule; part = part; set = set; setting = setting; endpoint = endpoint }

-- what f gives of each element and its number, the numbers counted from `place` on
abbrev pub at_each : {A B : Type 0} → (ℕ → A → List B) → ℕ → List A → List B
at_each f place [] = []
at_each f place (x ∷ xs) = f place x ++ at_each f (place + 1) xs

-- as at_each, where f is also given the elements before
abbrev pub at_each_after : {A B : Type 0} → (List A → ℕ → A → List B) → List A → List B
at_each_after f xs = at_each (λ i x. f (take i xs) i x) 0 xs

-- as at_each, where f is also given a count, which grows by the size of each element
abbrev pub at_each_counted : {A B : Type 0} → (A → ℕ) → (ℕ → ℕ → A → List B) → ℕ → ℕ → List A → List B
at_each_counted size f place n [] = []
at_each_counted size f place n (x ∷ xs) = f place n x ++ at_each_counted size f (place + 1) (n + size x) xs
