-- The remainder of a CRC as the standard describes it (USB 2.0, 8.3.5): it shifts left, and its highest bit leaves it first.
use Rattle.std.specs.Prelude.{ℕ, zero, suc, ◌+◌, ◌*◌, ◌/◌, ◌%◌, ◌^◌, List, [], ◌∷◌, Bool, cond, bit_xor}
use Rattle.usb_wire.specs.Crc.{differ, low_bit}

-- One data bit goes through a remainder of k + 1 bits: its highest bit is xored with the data bit, it is shifted left by one
-- bit, and where the result of that xor is one, the generator polynomial is xored to it.
abbrev pub standard_step : ℕ → ℕ → ℕ → Bool → ℕ
standard_step k polynomial r b = bit_xor (2 * (r % 2 ^ k)) (cond (differ (low_bit (r / 2 ^ k)) b) polynomial 0)

-- the remainder after these bits
abbrev pub standard_register : ℕ → ℕ → ℕ → List Bool → ℕ
standard_register k polynomial r [] = r
standard_register k polynomial r (b ∷ u) = standard_register k polynomial (standard_step k polynomial r b) u

-- the k lowest bits of a number in the other order
abbrev pub mirrored : ℕ → ℕ → ℕ
mirrored zero n = 0
mirrored (suc k) n = n % 2 * 2 ^ k + mirrored k (n / 2)
