-- What the CRCs find.
use Rattle.std.proofs.Common.{◌≡◌, ℕ, suc, ◌*◌, ◌%◌, ◌^◌, ◌<◌, ◌≤◌, ◌==◌, inl, inr, List, [], ◌∷◌, ◌++◌, Bool, true, false, length, refl, ap, sym, ◌∙◌, arith, subst, cond, Some, None}
use Rattle.std.proofs.Common.{◌&&◌, leb}
use Rattle.std.proofs.lemmas.Nat.{pow_pos}
use Rattle.usb_wire.proofs.Parity.{parity}
use Rattle.std.proofs.lemmas.Bool.{cases_eq}
use Rattle.std.proofs.lemmas.Bool.Decides.{nat_tests}
use Rattle.usb_wire.specs.declared.damage.Damage.TheVariants as damages
use Rattle.usb_wire.specs.Crc.{differ, bits, register, data_generator, token_generator, data_register, token_register, data_residual, token_residual}
use Rattle.usb_wire.specs.Changes.{changes, ones, changed, IsBurst}
use Rattle.usb_wire.specs.Damages.{data_damage, token_damage}
use Rattle.usb_wire.proofs.Linear.{unnoticed, register_zero, step_none, step_first}
use Rattle.usb_wire.proofs.Orbit.{two_changes, orbit_of_data, orbit_of_token}
use Rattle.usb_wire.proofs.Parity.{odd_changes}
use Rattle.usb_wire.proofs.Burst.{burst}

-- ---- rows of bits

pub length_bits : (b : List ℕ) → length (bits b) ≡ 8 * length b
length_bits [] = refl
length_bits (x ∷ b) = let rest = length_bits b in omega (arith, rest)

length_changes : (u v : List Bool) → length (changes u v) ≤ length u
length_changes [] v = omega arith
length_changes (a ∷ u) [] = omega arith
length_changes (a ∷ u) (b ∷ v) = let rest = length_changes u v in omega (arith, rest)

changes_same : (u : List Bool) → ones (changes u u) ≡ 0
changes_same [] = refl
changes_same (true ∷ u) = changes_same u
changes_same (false ∷ u) = changes_same u

changes_append : (u v : List Bool) (x y : List Bool) → length u ≡ length v → changes (u ++ x) (v ++ y) ≡ changes u v ++ changes x y
changes_append [] [] x y same = refl
changes_append [] (b ∷ v) x y same = absurd (omega (arith, same))
changes_append (a ∷ u) [] x y same = absurd (omega (arith, same))
changes_append (a ∷ u) (b ∷ v) x y same = ap (λ w. differ a b ∷ w) (changes_append u v x y (omega (arith, same)))

some_change : (u v : List Bool) → length u ≡ length v → (u ≡ v → ⊥) → 0 < ones (changes u v)
some_change [] [] same apart = absurd (apart refl)
some_change [] (b ∷ v) same apart = absurd (omega (arith, same))
some_change (a ∷ u) [] same apart = absurd (omega (arith, same))
some_change (true ∷ u) (true ∷ v) same apart = some_change u v (omega (arith, same)) (λ e. apart (ap (λ w. true ∷ w) e))
some_change (false ∷ u) (false ∷ v) same apart = some_change u v (omega (arith, same)) (λ e. apart (ap (λ w. false ∷ w) e))
some_change (true ∷ u) (false ∷ v) same apart = omega arith
some_change (false ∷ u) (true ∷ v) same apart = omega arith

one_change : (k g : ℕ) (u : List Bool) → 2 ^ k ≤ g → g < 2 ^ suc k → ones u ≡ 1 → register g 0 u ≡ 0 → ⊥
one_change k g [] high small one ends = absurd (omega (arith, one))
one_change k g (false ∷ u) high small one ends = one_change k g u high small one (subst (λ r. register g r u ≡ 0) (step_none g) ends)
one_change k g (true ∷ u) high small one ends =
    let none = register_zero k g g u high small small (omega (arith, one)) (subst (λ r. register g r u ≡ 0) (step_first g) ends) in
    omega (arith, none, high, pow_pos k)

same_length : (sent got : List ℕ) → length got ≡ length sent → length (bits sent) ≡ length (bits got)
same_length sent got same = omega (arith, length_bits sent, length_bits got, same)

-- ---- data

data_missed : (sent got : List ℕ) → length got ≡ length sent → data_register (bits sent) ≡ data_residual → data_register (bits got) ≡ data_residual
    → register data_generator 0 (changes (bits sent) (bits got)) ≡ 0
data_missed sent got same was is = unnoticed data_generator 65535 (bits sent) (bits got) (same_length sent got same) (was ∙ sym is)

data_refused : (b : List ℕ) → 2 ≤ length b → length b ≤ 1026 → (data_register (bits b) ≡ data_residual → ⊥) → data_damage b ≡ Some damages.Crc16
data_refused b few many wrong = tested (data_register (bits b)) wrong
  where
    tested : (r : ℕ) → (r ≡ 45057 → ⊥) → cond (leb 2 (length b) && leb (length b) 1026) (cond (r == 45057) None (Some damages.Crc16)) (Some damages.Length) ≡ Some damages.Crc16
    tested r wrong = grind (arith, nat_tests)

odd_generator : parity 16 data_generator ≡ true
odd_generator = refl

pub odd_data : (sent got : List ℕ) → length got ≡ length sent → data_register (bits sent) ≡ data_residual → changed sent got % 2 ≡ 1 → data_register (bits got) ≡ data_residual → ⊥
odd_data sent got same was odd is =
    odd_changes 15 data_generator (changes (bits sent) (bits got)) odd_generator (omega arith) odd (data_missed sent got same was is)

two_data : (sent got : List ℕ) → length got ≡ length sent → length sent ≤ 1026 → data_register (bits sent) ≡ data_residual → changed sent got ≡ 2 → data_register (bits got) ≡ data_residual → ⊥
two_data sent got same long was two is =
    two_changes 15 data_generator 8208 (changes (bits sent) (bits got)) (omega arith) (omega arith)
    (omega (arith, long, length_bits sent, length_changes (bits sent) (bits got))) orbit_of_data two (data_missed sent got same was is)

pub few_data : (sent got : List ℕ) → length got ≡ length sent → 2 ≤ length sent → length sent ≤ 1026 → data_register (bits sent) ≡ data_residual
    → 0 < changed sent got → changed sent got ≤ 3 → data_damage got ≡ Some damages.Crc16
few_data sent got same few long was some most =
    data_refused got (omega (arith, same, few)) (omega (arith, same, long)) (λ is.
    elim (cases_eq (changed sent got) 2) [
      | inl two ↦ two_data sent got same long was two is
      | inr other ↦ odd_data sent got same was (omega (arith, some, most, other)) is
    ])

pub odd_data_refused : (sent got : List ℕ) → length got ≡ length sent → 2 ≤ length sent → length sent ≤ 1026 → data_register (bits sent) ≡ data_residual
    → changed sent got % 2 ≡ 1 → data_damage got ≡ Some damages.Crc16
odd_data_refused sent got same few long was odd =
    data_refused got (omega (arith, same, few)) (omega (arith, same, long)) (λ is. odd_data sent got same was odd is)

pub burst_data : (sent got : List ℕ) → length got ≡ length sent → 2 ≤ length sent → length sent ≤ 1026 → data_register (bits sent) ≡ data_residual
    → IsBurst 16 sent got → data_damage got ≡ Some damages.Crc16
burst_data sent got same few long was b =
    data_refused got (omega (arith, same, few)) (omega (arith, same, long)) (λ is.
    let missed = data_missed sent got same was is in
    let parts : changes (bits sent) (bits got) ≡ changes b.before b.before ++ (changes b.was b.became ++ changes b.after b.after) =
    ap (λ u. changes u (bits got)) b.of_sent ∙ ap (changes (b.before ++ (b.was ++ b.after))) b.of_received
    ∙ changes_append b.before b.before (b.was ++ b.after) (b.became ++ b.after) refl
    ∙ ap (λ u. changes b.before b.before ++ u) (changes_append b.was b.became b.after b.after (sym b.long)) in
    burst 15 data_generator (changes b.before b.before) (changes b.was b.became) (changes b.after b.after) (omega arith) (omega arith)
    (changes_same b.before) (changes_same b.after) (omega (arith, b.short, length_changes b.was b.became)) (some_change b.was b.became (sym b.long) b.some)
    (sym (ap (register data_generator 0) parts) ∙ missed))

-- ---- tokens

token_missed : (sent got : List ℕ) → length got ≡ length sent → token_register (bits sent) ≡ token_residual → token_register (bits got) ≡ token_residual
    → register token_generator 0 (changes (bits sent) (bits got)) ≡ 0
token_missed sent got same was is = unnoticed token_generator 31 (bits sent) (bits got) (same_length sent got same) (was ∙ sym is)

token_refused : (n : ℕ) (b : List ℕ) → length b ≡ n → (token_register (bits b) ≡ token_residual → ⊥) → token_damage n b ≡ Some damages.Crc5
token_refused n b long wrong = tested (token_register (bits b)) wrong
  where
    tested : (r : ℕ) → (r ≡ 6 → ⊥) → cond (length b == n) (cond (r == 6) None (Some damages.Crc5)) (Some damages.Length) ≡ Some damages.Crc5
    tested r wrong = grind (arith, nat_tests)

pub few_token : (n : ℕ) (sent got : List ℕ) → length got ≡ n → length sent ≡ n → n ≤ 3 → token_register (bits sent) ≡ token_residual
    → 0 < changed sent got → changed sent got ≤ 2 → token_damage n got ≡ Some damages.Crc5
few_token n sent got long_got long_sent few was some most =
    token_refused n got long_got (λ is.
    let missed = token_missed sent got (long_got ∙ sym long_sent) was is in
    elim (cases_eq (changed sent got) 1) [
      | inl one ↦ one_change 4 token_generator (changes (bits sent) (bits got)) (omega arith) (omega arith) one missed
      | inr more ↦
          two_changes 4 token_generator 29 (changes (bits sent) (bits got)) (omega arith) (omega arith)
          (omega (arith, few, long_sent, length_bits sent, length_changes (bits sent) (bits got))) orbit_of_token (omega (arith, some, most, more)) missed
    ])
