-- Clocks and their options.
use Rattle.std.proofs.Common.{◌≡◌, ℕ, zero, suc, ◌+◌, ◌-◌, ◌*◌, ◌/◌, ◌^◌, ◌<◌, ◌≤◌, List, length, drop, true, false, nat_lt, Option, Some, None, refl, sym, ◌∙◌, ap, arith}
use Rattle.std.proofs.Math.Nat.{mul-div-mul_right, mul-div_cancel, mul_assoc, one-le-pow}
use Rattle.std.proofs.lemmas.Nat.{pow-add}
use Rattle.std.proofs.lemmas.Bool.Decides.{nat_tests}
use Rattle.std.specs.Option.{option_and_then}
use Rattle.std.specs.Prelude.{if◌then◌else◌}
use Rattle.usb_capture.specs.declared.clock.Clock.{Clock}
use Rattle.usb_capture.specs.declared.order.ByteOrder.{ByteOrder}
use Rattle.usb_capture.specs.Clocks.{clock_after, clock_with, elapsed, option_length, options_end}

pub some_tens : (n : ℕ) → 0 < 10 ^ n
some_tens n = (let h = one-le-pow n 10 (omega arith) in omega (arith, h))

-- units that are powers of ten, of at least a nanosecond, of less, and powers of two
pub elapsed_coarse : (resolution units : ℕ) → resolution < 10 → elapsed resolution units ≡ units * 10 ^ (9 - resolution)
elapsed_coarse resolution units few =
    let t : nat_lt resolution 128 ≡ true = grind (arith, nat_tests) in
    let n : 9 ≡ (9 - resolution) + resolution = omega arith in
    ap (λ b. units * 1000000000 / (if b then 10 ^ resolution else 2 ^ (resolution - 128))) t
    ∙ ap (λ m. units * m / 10 ^ resolution) (ap (λ m. 10 ^ m) n ∙ pow-add 10 (9 - resolution) resolution)
    ∙ ap (λ m. m / 10 ^ resolution) (sym (mul_assoc units (10 ^ (9 - resolution)) (10 ^ resolution)))
    ∙ mul-div_cancel (units * 10 ^ (9 - resolution)) (some_tens resolution)

pub elapsed_fine : (resolution units : ℕ) → 10 ≤ resolution → resolution < 128 → elapsed resolution units ≡ units / 10 ^ (resolution - 9)
elapsed_fine resolution units few many =
    let t : nat_lt resolution 128 ≡ true = grind (arith, nat_tests) in
    let n : resolution ≡ (resolution - 9) + 9 = omega arith in
    ap (λ b. units * 1000000000 / (if b then 10 ^ resolution else 2 ^ (resolution - 128))) t
    ∙ ap (λ m. units * 1000000000 / m) (ap (λ m. 10 ^ m) n ∙ pow-add 10 (resolution - 9) 9)
    ∙ mul-div-mul_right units (10 ^ (resolution - 9)) (omega arith)

pub elapsed_binary : (resolution units : ℕ) → 128 ≤ resolution → elapsed resolution units ≡ units * 1000000000 / 2 ^ (resolution - 128)
elapsed_binary resolution units many =
    let t : nat_lt resolution 128 ≡ false = grind (arith, nat_tests) in
    ap (λ b. units * 1000000000 / (if b then 10 ^ resolution else 2 ^ (resolution - 128))) t

-- the options end here
pub at_end : (order : ByteOrder) (most : ℕ) (b : List ℕ) (clock : Clock) → options_end order b ≡ true → clock_after order most b clock ≡ Some clock
at_end order zero b clock end = refl
at_end order (suc most) b clock end =
    ap (λ t. if t then Some clock else if nat_lt (length b) (option_length order b) then None else option_and_then (λ c. clock_after order most (drop (option_length order b) b) c) (clock_with order b clock)) end

-- an option is the next
one_option : (order : ByteOrder) (most : ℕ) (b : List ℕ) (clock : Clock) → options_end order b ≡ false → clock_after order (suc most) b clock ≡ (if nat_lt (length b) (option_length order b) then None else option_and_then (λ c. clock_after order most (drop (option_length order b) b) c) (clock_with order b clock))
one_option order most b clock more =
    ap (λ t. if t then Some clock else if nat_lt (length b) (option_length order b) then None else option_and_then (λ c. clock_after order most (drop (option_length order b) b) c) (clock_with order b clock)) more

-- it runs past the block
pub at_past : (order : ByteOrder) (most : ℕ) (b : List ℕ) (clock : Clock) → 0 < most → options_end order b ≡ false → length b < option_length order b → clock_after order most b clock ≡ None
at_past order zero b clock some more past = absurd (omega arith)
at_past order (suc most) b clock some more past =
    let t : nat_lt (length b) (option_length order b) ≡ true = grind (arith, nat_tests) in
    one_option order most b clock more ∙ ap (λ t. if t then None else option_and_then (λ c. clock_after order most (drop (option_length order b) b) c) (clock_with order b clock)) t

-- it is whole
pub at_option : (order : ByteOrder) (most : ℕ) (b : List ℕ) (clock : Clock) (with : Option Clock) → 0 < most → options_end order b ≡ false → option_length order b ≤ length b → with ≡ clock_with order b clock → clock_after order most b clock ≡ option_and_then (λ c. clock_after order (most - 1) (drop (option_length order b) b) c) with
at_option order zero b clock with some more inside is = absurd (omega arith)
at_option order (suc most) b clock with some more inside is =
    let t : nat_lt (length b) (option_length order b) ≡ false = grind (arith, nat_tests) in
    let left : most ≡ suc most - 1 = omega arith in
    one_option order most b clock more
    ∙ ap (λ t. if t then None else option_and_then (λ c. clock_after order most (drop (option_length order b) b) c) (clock_with order b clock)) t
    ∙ ap (λ w. option_and_then (λ c. clock_after order most (drop (option_length order b) b) c) w) (sym is)
    ∙ ap (λ n. option_and_then (λ c. clock_after order n (drop (option_length order b) b) c) with) left
