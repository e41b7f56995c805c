-- The cyclic redundancy checks of tokens and of data, bit by bit (USB 2.0, 8.3.5).
use Rattle.std.specs.Prelude.{ℕ, zero, suc, ◌-◌, ◌/◌, ◌%◌, ◌==◌, List, [], ◌∷◌, Bool, true, false, cond, bit_xor}
use Rattle.std.specs.List.{flat_map}

-- the exclusive or of two bits
abbrev pub differ : Bool → Bool → Bool
differ false false = false
differ false true = true
differ true false = true
differ true true = false

-- the lowest bit of a number
abbrev pub low_bit : ℕ → Bool
low_bit n = n % 2 == 1

-- the k lowest bits of a number, the lowest first: fields are sent in this order (8.1)
abbrev pub low_bits : ℕ → ℕ → List Bool
low_bits zero n = []
low_bits (suc k) n = low_bit n ∷ low_bits k (n / 2)

-- the bits of bytes in the order in which they are sent
abbrev pub bits : List ℕ → List Bool
bits = flat_map (low_bits 8)

-- One data bit goes through the remainder r of the generator polynomial g: the lowest bit leaves the remainder, and where it
-- differs from the data bit, g is xored to the others. The standard has remainder and polynomial the other way round, with
-- the highest bit leaving first (`Standard.antt`). So held, a CRC is sent lowest bit first, as each field is.
unfoldable pub step : ℕ → ℕ → Bool → ℕ
step g r b = bit_xor (r / 2) (cond (differ (low_bit r) b) g 0)

-- the remainder after these bits
abbrev pub register : ℕ → ℕ → List Bool → ℕ
register g r [] = r
register g r (b ∷ u) = register g (step g r b) u

-- The generator polynomials without their highest power, lowest bit first: x^5 + x^2 + 1 of tokens (8.3.5.1), and
-- x^16 + x^15 + x^2 + 1 of data (8.3.5.2).
abbrev pub token_generator : ℕ
token_generator = 0x14

abbrev pub data_generator : ℕ
data_generator = 0xa001

-- the remainder of a token's bits, and of those of data: at first it is all ones (8.3.5)
abbrev pub token_register : List Bool → ℕ
token_register u = register token_generator 0x1f u

abbrev pub data_register : List Bool → ℕ
data_register u = register data_generator 0xffff u

-- the 5-bit CRC of a field of `width` bits, and the 16-bit CRC of data: the remainder, inverted (8.3.5)
abbrev pub token_crc : ℕ → ℕ → ℕ
token_crc width n = 0x1f - token_register (low_bits width n)

abbrev pub data_crc : List ℕ → ℕ
data_crc b = 0xffff - data_register (bits b)

-- the residuals, which bits with their CRC leave: 01100 and 1000000000001101, lowest bit first (8.3.5.1, 8.3.5.2)
abbrev pub token_residual : ℕ
token_residual = 0x06

abbrev pub data_residual : ℕ
data_residual = 0xb001
