-- Decimal digits of small numbers.
use Rattle.std.proofs.Common.{◌≡◌, ◌≤◌, ◌<◌, ℕ, ◌+◌, ◌/◌, ◌%◌, [], ◌∷◌, decimal, arith, refl, ap, ◌∙◌}
use Rattle.std.proofs.lemmas.Fmt.{decimal_digit, decimal_step}

-- two digits
pub two_digits : (n : ℕ) → 10 ≤ n → n < 100 → decimal n ≡ (48 + n / 10) ∷ (48 + n % 10) ∷ []
two_digits n above below = rw (decimal_step n (omega arith) (omega arith), decimal_digit (n / 10) (omega arith)) refl

-- two digits, as those of its last pair
pub a_pair : (n : ℕ) → 10 ≤ n → n < 100 → decimal n ≡ (48 + n % 100 / 10) ∷ (48 + n % 100 % 10) ∷ []
a_pair n above below =
    let pair : n ≡ n % 100 = omega (arith, below) in
    two_digits n above below ∙ ap (λ m. (48 + m / 10) ∷ (48 + m % 10) ∷ []) pair

-- three digits
pub three_digits : (n : ℕ) → 100 ≤ n → n < 1000 → decimal n ≡ (48 + n / 100) ∷ (48 + n % 100 / 10) ∷ (48 + n % 100 % 10) ∷ []
three_digits n above below =
    let hundreds : n / 10 / 10 ≡ n / 100 = omega arith in
    let tens : n / 10 % 10 ≡ n % 100 / 10 = omega arith in
    let ones : n % 10 ≡ n % 100 % 10 = omega arith in
    rw (decimal_step n (omega arith) (omega arith), two_digits (n / 10) (omega arith) (omega arith), hundreds, tens, ones) refl

-- two pairs of digits
pub four_digits : (n : ℕ) → 1000 ≤ n → n < 10000 → decimal n ≡ (48 + n / 100 % 100 / 10) ∷ (48 + n / 100 % 100 % 10) ∷ (48 + n % 100 / 10) ∷ (48 + n % 100 % 10) ∷ []
four_digits n above below =
    let first : n / 10 / 100 ≡ n / 100 % 100 / 10 = omega (arith, below) in
    let second : n / 10 % 100 / 10 ≡ n / 100 % 100 % 10 = omega arith in
    let third : n / 10 % 100 % 10 ≡ n % 100 / 10 = omega arith in
    let fourth : n % 10 ≡ n % 100 % 10 = omega arith in
    rw (decimal_step n (omega arith) (omega arith), three_digits (n / 10) (omega arith) (omega arith), first, second, third, fourth) refl

-- a digit and two pairs
pub five_digits : (n : ℕ) → 10000 ≤ n → n < 100000 → decimal n ≡ (48 + n / 10000) ∷ (48 + n / 100 % 100 / 10) ∷ (48 + n / 100 % 100 % 10) ∷ (48 + n % 100 / 10) ∷ (48 + n % 100 % 10) ∷ []
five_digits n above below =
    let first : n / 10 / 100 % 100 / 10 ≡ n / 10000 = omega (arith, below) in
    let second : n / 10 / 100 % 100 % 10 ≡ n / 100 % 100 / 10 = omega arith in
    let third : n / 10 % 100 / 10 ≡ n / 100 % 100 % 10 = omega arith in
    let fourth : n / 10 % 100 % 10 ≡ n % 100 / 10 = omega arith in
    let fifth : n % 10 ≡ n % 100 % 10 = omega arith in
    rw (decimal_step n (omega arith) (omega arith), four_digits (n / 10) (omega arith) (omega arith), first, second, third, fourth, fifth) refl
