-- Bits of halted endpoints.
use Rattle.std.proofs.Common.{◌≡◌, ◌≢◌, ℕ, zero, suc, ◌+◌, ◌<◌, ◌*◌, ◌/◌, ◌%◌, ◌^◌, ◌==◌, ◌||◌, ◌&&◌, not, Bool, true, false, bit_or, bit_and, inl, inr, refl, subst, arith}
use Rattle.std.proofs.lemmas.Bool.{cases_lt}
use Rattle.std.proofs.lemmas.Bool.Decides.{nat_tests}
use Rattle.std.proofs.lemmas.Nat.Bits.{bit_at-zero, bit_at-lt, bit_at_set_same, bit_at_set_other, bit_at_clear_same, bit_at_clear_other, same_from_bits_below}
use Rattle.std.specs.Int.{bit_at, bit_not, w32}
use Rattle.usb_device.specs.States.{halt_place, is_halted, is_same_endpoint, with_halt, without_halt}
use Rattle.std.proofs.Math.Nat.{mod-eq_of_lt, mod-lt}
use Rattle.std.proofs.lemmas.Nat.{pow_below}

-- what `1 << k` computes
pub one_shl : (k : ℕ) → k < 32 → 1 * 2 ^ k % 2 ^ 32 ≡ 2 ^ k
one_shl k below =
    let one : 1 * 2 ^ k ≡ 2 ^ k = grind arith in
    rw one (mod-eq_of_lt (pow_below k 32 below))

-- an endpoint has one of 32 places
place_within : (e : ℕ) → halt_place e < 32
place_within e =
    let number : e % 16 < 16 = mod-lt e (omega arith) in
    let half : e / 128 % 2 < 2 = mod-lt (e / 128) (omega arith) in
    omega arith

-- one endpoint has one place
place_same : (a b : ℕ) → is_same_endpoint a b ≡ true → halt_place a ≡ halt_place b
place_same a b same = grind (arith, nat_tests)

-- and two have two
place_other : (a b : ℕ) → is_same_endpoint a b ≡ false → halt_place b ≢ halt_place a
place_other a b other at =
    let first : a % 16 < 16 = mod-lt a (omega arith) in
    let second : b % 16 < 16 = mod-lt b (omega arith) in
    let numbers : a % 16 ≡ b % 16 = omega arith in
    let halves : a / 128 % 2 ≡ b / 128 % 2 = omega arith in
    grind (arith, nat_tests)

-- an endpoint of its own stands at each place
endpoint_at : (i : ℕ) → i < 32 → (e : ℕ) × (halt_place e ≡ i)
endpoint_at i within =
    elim (cases_lt i 16) [
      | inl out ↦ (i, omega arith)
      | inr in_half ↦ (i + 112, omega arith)
    ]

set_same : (halts k : ℕ) → k < 32 → bit_at (bit_or halts (2 ^ k)) k ≡ 1
set_same halts k below =
    subst (λ x. bit_at (bit_or halts x) k ≡ 1) (one_shl k below) (bit_at_set_same w32 halts k below)

set_other : (halts k i : ℕ) → k < 32 → i ≢ k → bit_at (bit_or halts (2 ^ k)) i ≡ bit_at halts i
set_other halts k i below other = rw (← one_shl k below) (bit_at_set_other w32 halts k below i other)

clear_same : (halts k : ℕ) → k < 32 → bit_at (bit_and halts (bit_not w32 (2 ^ k))) k ≡ 0
clear_same halts k below =
    subst (λ x. bit_at (bit_and halts (bit_not w32 x)) k ≡ 0) (one_shl k below) (bit_at_clear_same w32 halts k below)

clear_other : (halts k i : ℕ) → k < 32 → i < 32 → i ≢ k → bit_at (bit_and halts (bit_not w32 (2 ^ k))) i ≡ bit_at halts i
clear_other halts k i below within other = rw (← one_shl k below) (bit_at_clear_other w32 halts k below i within other)

with_by : (halts a b : ℕ) (same : Bool) → is_same_endpoint a b ≡ same → is_halted (with_halt halts a) b ≡ (same || is_halted halts b)
with_by halts a b true same =
    rw (← place_same a b same, set_same halts (halt_place a) (place_within a)) refl
with_by halts a b false other =
    rw (set_other halts (halt_place a) (halt_place b) (place_within a) (place_other a b other)) refl

-- setting a halt adds the endpoint to the set
pub halted-with : (halts a b : ℕ) → is_halted (with_halt halts a) b ≡ (is_same_endpoint a b || is_halted halts b)
halted-with halts a b = with_by halts a b (is_same_endpoint a b) refl

without_by : (halts a b : ℕ) (same : Bool) → is_same_endpoint a b ≡ same → is_halted (without_halt halts a) b ≡ (not same && is_halted halts b)
without_by halts a b true same =
    rw (← place_same a b same, clear_same halts (halt_place a) (place_within a)) refl
without_by halts a b false other =
    rw (clear_other halts (halt_place a) (halt_place b) (place_within a) (place_within b) (place_other a b other)) refl

-- clearing it takes the endpoint out
pub halted-without : (halts a b : ℕ) → is_halted (without_halt halts a) b ≡ (not (is_same_endpoint a b) && is_halted halts b)
halted-without halts a b = without_by halts a b (is_same_endpoint a b) refl

-- no endpoint is in the set 0
pub halted-none : (e : ℕ) → is_halted 0 e ≡ false
halted-none e = rw (bit_at-zero (halt_place e)) refl

same_bit : (x y : ℕ) → x < 2 → y < 2 → (x == 1) ≡ (y == 1) → x ≡ y
same_bit zero zero few also same = refl
same_bit zero (suc zero) few also same = cc
same_bit zero (suc (suc y)) few also same = absurd (omega arith)
same_bit (suc zero) zero few also same = cc
same_bit (suc zero) (suc zero) few also same = refl
same_bit (suc zero) (suc (suc y)) few also same = absurd (omega arith)
same_bit (suc (suc x)) y few also same = absurd (omega arith)

-- two numbers with one set are one
pub halted-same : (halts others : ℕ) → halts < 2 ^ 32 → others < 2 ^ 32 → ((e : ℕ) → is_halted halts e ≡ is_halted others e) → halts ≡ others
halted-same halts others few also same =
    same_from_bits_below 32 halts others few also (λ i within.
    let there = endpoint_at i within in
    let bits : (bit_at halts i == 1) ≡ (bit_at others i == 1) = rw (← there.1) (same there.0) in
    same_bit (bit_at halts i) (bit_at others i) (bit_at-lt halts i) (bit_at-lt others i) bits)

pub ruleset sets = (halted-none, halted-with, halted-without, halted-same)
