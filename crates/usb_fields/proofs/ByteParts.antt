-- Bytes in two parts.
use Rattle.std.proofs.Common.{ℕ, zero, suc, List, [], ◌∷◌, ◌++◌, take, drop}
use Rattle.usb_fields.specs.Bytes.{AreBytes}

pub bytes_append : (a b : List ℕ) → AreBytes a → AreBytes b → AreBytes (a ++ b)
bytes_append [] b h k = k
bytes_append (x ∷ a) b h k = (h.0, bytes_append a b h.1 k)

pub bytes_front : (n : ℕ) (b : List ℕ) → AreBytes b → AreBytes (take n b)
bytes_front zero b h = tt
bytes_front (suc n) [] h = tt
bytes_front (suc n) (x ∷ b) h = (h.0, bytes_front n b h.1)

pub bytes_back : (n : ℕ) (b : List ℕ) → AreBytes b → AreBytes (drop n b)
bytes_back zero b h = h
bytes_back (suc n) [] h = tt
bytes_back (suc n) (x ∷ b) h = bytes_back n b h.1
