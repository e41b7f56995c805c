-- Laws of bytes, and of fields of two bytes.
use Rattle.std.proofs.Common.{◌≡◌, ℕ, zero, suc, ◌+◌, ◌/◌, ◌%◌, ◌<◌, List, [], ◌∷◌, length, get_or, arith}
use Rattle.usb_fields.specs.Bytes.{AreBytes, little_endian, little_endian_at}

-- each element of a list of bytes is a byte
pub byte_at : (b : List ℕ) (at : ℕ) → AreBytes b → at < length b → get_or b at 0 < 256
byte_at [] at bytes within = absurd (omega arith)
byte_at (x ∷ b) zero bytes within = bytes.0
byte_at (x ∷ b) (suc at) bytes within = byte_at b at bytes.1 (omega arith)

-- a 16-bit field is written as it was read
pub written_field : (b : List ℕ) (at : ℕ) → AreBytes b → at + 1 < length b → little_endian (little_endian_at b at) ≡ get_or b at 0 ∷ get_or b (at + 1) 0 ∷ []
written_field b at bytes within =
    let low : get_or b at 0 < 256 = byte_at b at bytes (omega arith) in
    let high : get_or b (at + 1) 0 < 256 = byte_at b (at + 1) bytes within in
    let written_low : little_endian_at b at % 256 ≡ get_or b at 0 = omega arith in
    let written_high : little_endian_at b at / 256 ≡ get_or b (at + 1) 0 = omega arith in
    cc
