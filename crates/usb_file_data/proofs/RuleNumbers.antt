-- The rules by their numbers.
use Rattle.std.proofs.Common.{◌≡◌, ℕ, ◌+◌, ◌≤◌, ◌<◌, ◌↔◌, ◌==◌, ◌&&◌, Bool, true, false, cond, List, [], ◌∷◌, length, Option, Some, is_some, IsSome, refl, subst, arith}
use Rattle.std.specs.Prelude.{find}
use Rattle.std.proofs.lemmas.Bool.{eqb-true, false≢true}
use Rattle.std.proofs.lemmas.Bool.Decides.{nat_tests}
use Rattle.usb_file_data.specs.declared.rule.Rule.{Rule}
use Rattle.usb_file_data.specs.declared.rule.Rule.TheVariants as rules
use Rattle.usb_file_data.specs.Numbers.{every_rule, rule_number, rule_numbered}

-- each rule is that of its number
pub numbered_rule : (r : Rule) → rule_numbered (rule_number r) ≡ Some r
numbered_rule rules.V1 = refl
numbered_rule rules.V2 = refl
numbered_rule rules.V3 = refl
numbered_rule rules.V4 = refl
numbered_rule rules.V5 = refl
numbered_rule rules.V6 = refl
numbered_rule rules.V7 = refl
numbered_rule rules.V8 = refl
numbered_rule rules.V9 = refl
numbered_rule rules.V10 = refl
numbered_rule rules.V11 = refl
numbered_rule rules.V12 = refl
numbered_rule rules.V13 = refl

-- the rule of a number among these
abbrev among : ℕ → List Rule → Option Rule
among n rs = find (λ r. rule_number r == n) rs

found_among : (n : ℕ) (r : Rule) (rs : List Rule) (here : Bool) → (rule_number r == n) ≡ here
    → (is_some (among n rs) ≡ true → (q : Rule) × (rule_number q ≡ n)) → is_some (cond here (Some r) (among n rs)) ≡ true → (q : Rule) × (rule_number q ≡ n)
found_among n r rs true e later h = (r, eqb-true (rule_number r) n e)
found_among n r rs false e later h = later h

has_number : (n : ℕ) (rs : List Rule) → is_some (among n rs) ≡ true → (r : Rule) × (rule_number r ≡ n)
has_number n [] h = absurd (false≢true h)
has_number n (r ∷ rs) h = found_among n r rs (rule_number r == n) refl (has_number n rs) h

-- a number with a rule is that rule's
pub with_number : (n : ℕ) → is_some (rule_numbered n) ≡ true → (r : Rule) × (rule_number r ≡ n)
with_number n h = has_number n every_rule h

-- which numbers there are
pub bounds : (r : Rule) → (1 ≤ rule_number r) × (rule_number r ≤ 13)
bounds rules.V1 = (omega arith, omega arith)
bounds rules.V2 = (omega arith, omega arith)
bounds rules.V3 = (omega arith, omega arith)
bounds rules.V4 = (omega arith, omega arith)
bounds rules.V5 = (omega arith, omega arith)
bounds rules.V6 = (omega arith, omega arith)
bounds rules.V7 = (omega arith, omega arith)
bounds rules.V8 = (omega arith, omega arith)
bounds rules.V9 = (omega arith, omega arith)
bounds rules.V10 = (omega arith, omega arith)
bounds rules.V11 = (omega arith, omega arith)
bounds rules.V12 = (omega arith, omega arith)
bounds rules.V13 = (omega arith, omega arith)

-- whether the rules have the numbers from this one on
abbrev are_numbered_from : ℕ → List Rule → Bool
are_numbered_from k [] = true
are_numbered_from k (r ∷ rs) = (rule_number r == k) && are_numbered_from (k + 1) rs

here_or_later : (n k number : ℕ) (r : Rule) (rest : Option Rule) (here : Bool) → (number == n) ≡ here → (number == k) ≡ true → k ≤ n
    → (k + 1 ≤ n → is_some rest ≡ true) → is_some (cond here (Some r) rest) ≡ true
here_or_later n k number r rest true e own low later = refl
here_or_later n k number r rest false e own low later = later (grind (arith, nat_tests))

covered : (n k : ℕ) (rs : List Rule) → are_numbered_from k rs ≡ true → k ≤ n → n < k + length rs → is_some (among n rs) ≡ true
covered n k [] own low high = absurd (omega (arith, low, high))
covered n k (r ∷ rs) own low high =
    let first : (rule_number r == k) ≡ true = grind arith in
    let rest : are_numbered_from (k + 1) rs ≡ true = grind arith in
    here_or_later n k (rule_number r) r (among n rs) (rule_number r == n) refl first low (λ above. covered n (k + 1) rs rest above (omega (arith, high)))

-- there is one for 1 to 13 alone
pub known : (n : ℕ) → IsSome (rule_numbered n) ↔ ((1 ≤ n) × (n ≤ 13))
known n = (
  (λ h. let r = with_number n h in subst (λ m. (1 ≤ m) × (m ≤ 13)) r.1 (bounds r.0)),
  (λ h. covered n 1 every_rule refl h.0 (omega (arith, h.1))),
)
