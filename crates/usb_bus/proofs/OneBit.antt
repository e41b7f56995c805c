-- A packet in which at most one bit is changed arrives as it was sent, or slightly damaged.
use Rattle.std.proofs.Common.{◌≡◌, ◌⊎◌, inl, inr, ◌≤◌, ◌<◌, ◌+◌, ◌/◌, ◌%◌, ◌^◌, ℕ, zero, suc, List, [], ◌∷◌, ◌++◌, length, set, get_or, bit_xor, Bool, true, false, refl, ap, sym, ◌∙◌, arith}
use Rattle.std.proofs.Math.Nat.{mod-lt}
use Rattle.std.proofs.lemmas.List.{length-set}
use Rattle.std.proofs.lemmas.Nat.{pow_below, xor_of_8, xor_shr}
use Rattle.usb_wire.specs.Crc.{bits, differ, low_bit, low_bits}
use Rattle.usb_wire.specs.Changes.{IsSlightlyDamaged, changed, changes, ones}
use Rattle.usb_wire.specs.Packets.{PacketView, TokenPacket, FramePacket, DataPacket, HandshakePacket, SplitPacket, PrePacket, AreBytes, IsLegal, body_of, packet_bytes, pid_byte, pid_of, two_bytes}
use Rattle.usb_wire.specs.declared.pid.Pid.{Pid}
use Rattle.usb_wire.specs.declared.pid.Pid.TheVariants as pids
use Rattle.usb_wire.specs.declared.pid.TokenKind.TheVariants as tokens
use Rattle.usb_wire.specs.declared.pid.DataKind.TheVariants as datas
use Rattle.usb_wire.specs.declared.pid.Handshake.TheVariants as handshakes
use Rattle.usb_wire.proofs.Linear.{low_bit_xor}
use Rattle.usb_bus.specs.declared.wire.change.BitChange.{BitChange}
use Rattle.usb_bus.specs.Damaged.{bits_of, with_bit_changed, with_changed}
use Rattle.usb_bus.specs.DamagedRuns.{AreSlight}
use Rattle.usb_bus.specs.Wire.{Arrives}

-- ---- bits that are changed

none_changed : (u : List Bool) → ones (changes u u) ≡ 0
none_changed [] = refl
none_changed (true ∷ u) = none_changed u
none_changed (false ∷ u) = none_changed u

changes_joined : (u v x y : List Bool) → length u ≡ length v → changes (u ++ x) (v ++ y) ≡ changes u v ++ changes x y
changes_joined [] [] x y e = refl
changes_joined [] (b ∷ v) x y e = absurd (cc)
changes_joined (a ∷ u) [] x y e = absurd (cc)
changes_joined (a ∷ u) (b ∷ v) x y e = ap (λ r. differ a b ∷ r) (changes_joined u v x y (omega (arith, e)))

ones_joined : (u v : List Bool) → ones (u ++ v) ≡ ones u + ones v
ones_joined [] v = omega arith
ones_joined (true ∷ u) v = omega (arith, ones_joined u v)
ones_joined (false ∷ u) v = ones_joined u v

low_bits_length : (k n : ℕ) → length (low_bits k n) ≡ k
low_bits_length zero n = refl
low_bits_length (suc k) n = ap (λ m. suc m) (low_bits_length k (n / 2))

differ_twice : (a b : Bool) → differ a (differ a b) ≡ b
differ_twice true true = refl
differ_twice true false = refl
differ_twice false true = refl
differ_twice false false = refl

low_changes : (k x y : ℕ) → changes (low_bits k x) (low_bits k (bit_xor x y)) ≡ low_bits k y
low_changes zero x y = refl
low_changes (suc k) x y =
    ap (λ b. differ (low_bit x) b ∷ changes (low_bits k (x / 2)) (low_bits k (bit_xor x y / 2))) (low_bit_xor x y)
    ∙ ap (λ b. b ∷ changes (low_bits k (x / 2)) (low_bits k (bit_xor x y / 2))) (differ_twice (low_bit x) (low_bit y))
    ∙ ap (λ n. low_bit y ∷ changes (low_bits k (x / 2)) (low_bits k n)) (xor_shr x y 1)
    ∙ ap (λ r. low_bit y ∷ r) (low_changes k (x / 2) (y / 2))

one_set : (k : ℕ) → k < 8 → ones (low_bits 8 (2 ^ k)) ≡ 1
one_set zero below = refl
one_set (suc zero) below = refl
one_set (suc (suc zero)) below = refl
one_set (suc (suc (suc zero))) below = refl
one_set (suc (suc (suc (suc zero)))) below = refl
one_set (suc (suc (suc (suc (suc zero))))) below = refl
one_set (suc (suc (suc (suc (suc (suc zero)))))) below = refl
one_set (suc (suc (suc (suc (suc (suc (suc zero))))))) below = refl
one_set (suc (suc (suc (suc (suc (suc (suc (suc k)))))))) below = absurd (omega (arith, below))

changed_head : (x z : ℕ) (b c : List ℕ) → changed (x ∷ b) (z ∷ c) ≡ ones (changes (low_bits 8 x) (low_bits 8 z)) + changed b c
changed_head x z b c =
    ap ones (changes_joined (low_bits 8 x) (low_bits 8 z) (bits b) (bits c) (low_bits_length 8 x ∙ sym (low_bits_length 8 z)))
    ∙ ones_joined (changes (low_bits 8 x) (low_bits 8 z)) (changes (bits b) (bits c))

head_changed : (x y : ℕ) (b : List ℕ) → changed (x ∷ b) (bit_xor x y ∷ b) ≡ ones (low_bits 8 y)
head_changed x y b =
    let heads : ones (changes (low_bits 8 x) (low_bits 8 (bit_xor x y))) ≡ ones (low_bits 8 y) = ap ones (low_changes 8 x y) in
    let rest : changed b b ≡ 0 = none_changed (bits b) in
    omega (arith, changed_head x (bit_xor x y) b b, heads, rest)

-- a byte of these is changed, or there is none of this number
at_or_past : (b : List ℕ) (i y : ℕ) → (set b i (bit_xor (get_or b i 0) y) ≡ b) ⊎ (changed b (set b i (bit_xor (get_or b i 0) y)) ≡ ones (low_bits 8 y))
at_or_past [] i y = inl refl
at_or_past (x ∷ b) zero y = inr (head_changed x y b)
at_or_past (x ∷ b) (suc i) y = either (at_or_past b i y)
  where
    c : List ℕ
    c = set b i (bit_xor (get_or b i 0) y)

    either : (c ≡ b) ⊎ (changed b c ≡ ones (low_bits 8 y)) → (x ∷ c ≡ x ∷ b) ⊎ (changed (x ∷ b) (x ∷ c) ≡ ones (low_bits 8 y))
    either (inl same) = inl (ap (λ r. x ∷ r) same)
    either (inr one) = inr (omega (arith, changed_head x x b c, none_changed (low_bits 8 x), one))

bytes_changed : (b : List ℕ) (i y : ℕ) → AreBytes b → y < 256 → AreBytes (set b i (bit_xor (get_or b i 0) y))
bytes_changed [] i y h small = tt
bytes_changed (x ∷ b) zero y h small = (xor_of_8 x y h.0 small, h.1)
bytes_changed (x ∷ b) (suc i) y h small = (h.0, bytes_changed b i y h.1 small)

-- ---- the bytes of a packet

joined_bytes : (b c : List ℕ) → AreBytes b → AreBytes c → AreBytes (b ++ c)
joined_bytes [] c h k = k
joined_bytes (x ∷ b) c h k = (h.0, joined_bytes b c h.1 k)

pair_bytes : (n : ℕ) → n < 65536 → AreBytes (two_bytes n)
pair_bytes n small = (omega arith, (omega arith, tt))

pid_small : (p : Pid) → pid_byte p < 256
pid_small (pids.Token tokens.Out) = omega arith
pid_small (pids.Token tokens.In) = omega arith
pid_small (pids.Token tokens.Setup) = omega arith
pid_small (pids.Token tokens.Ping) = omega arith
pid_small pids.StartOfFrame = omega arith
pid_small (pids.Data datas.Data0) = omega arith
pid_small (pids.Data datas.Data1) = omega arith
pid_small (pids.Data datas.Data2) = omega arith
pid_small (pids.Data datas.MData) = omega arith
pid_small (pids.Handshake handshakes.Ack) = omega arith
pid_small (pids.Handshake handshakes.Nak) = omega arith
pid_small (pids.Handshake handshakes.Stall) = omega arith
pid_small (pids.Handshake handshakes.Nyet) = omega arith
pid_small pids.Split = omega arith
pid_small pids.Pre = omega arith

body_bytes : (p : PacketView) → IsLegal p → AreBytes (body_of p)
body_bytes (TokenPacket kind to) legal = let low = legal.0 in let few = legal.1 in pair_bytes _ (omega arith)
body_bytes (FramePacket number) legal = pair_bytes _ (omega arith)
body_bytes (DataPacket kind bytes) legal = joined_bytes bytes _ legal.0 (pair_bytes _ (omega arith))
body_bytes (HandshakePacket kind) legal = tt
body_bytes (SplitPacket fields) legal = (omega arith, (omega arith, (omega arith, tt)))
body_bytes PrePacket legal = tt

-- ---- one bit

slight_body : (p : PacketView) (body : List ℕ) → length body ≡ length (body_of p) → changed (body_of p) body ≡ 1 → IsSlightlyDamaged p (pid_byte (pid_of p) ∷ body)
slight_body (TokenPacket kind to) body long one = (long, inr (refl, (omega arith, omega arith)))
slight_body (FramePacket number) body long one = (long, inr (refl, (omega arith, omega arith)))
slight_body (DataPacket kind bytes) body long one = (long, inr (refl, inl (omega arith, omega arith)))
slight_body (HandshakePacket kind) body long one = absurd (let none : changed [] body ≡ 0 = refl in omega (arith, one, none))
slight_body (SplitPacket fields) body long one = (long, inr (refl, (omega arith, omega arith)))
slight_body PrePacket body long one = absurd (let none : changed [] body ≡ 0 = refl in omega (arith, one, none))

module _ (p : PacketView) (legal : IsLegal p) (y : ℕ) (small : y < 256) (single : ones (low_bits 8 y) ≡ 1) where
  slight_at : (i : ℕ) → Arrives p (set (packet_bytes p) i (bit_xor (get_or (packet_bytes p) i 0) y))
  slight_at zero =
      inr (inl ((xor_of_8 (pid_byte (pid_of p)) y (pid_small (pid_of p)) small, body_bytes p legal), (refl, inl (head_changed (pid_byte (pid_of p)) y [] ∙ single))))
  slight_at (suc i) = either (at_or_past (body_of p) i y)
    where
      c : List ℕ
      c = set (body_of p) i (bit_xor (get_or (body_of p) i 0) y)

      either : (c ≡ body_of p) ⊎ (changed (body_of p) c ≡ ones (low_bits 8 y)) → Arrives p (pid_byte (pid_of p) ∷ c)
      either (inl same) = inl (ap (λ r. pid_byte (pid_of p) ∷ r) same)
      either (inr one) =
          inr (inl ((pid_small (pid_of p), bytes_changed (body_of p) i y (body_bytes p legal) small), slight_body p c (length-set (body_of p) i _) (one ∙ single)))

one_bit : (p : PacketView) (n : ℕ) → IsLegal p → Arrives p (with_bit_changed n (packet_bytes p))
unfolding with_bit_changed
one_bit p n legal =
    let place : n % 8 < 8 = mod-lt n (omega arith) in slight_at p legal (2 ^ (n % 8)) (pow_below (n % 8) 8 place) (one_set (n % 8) place) (n / 8)

at_most_one : (p : PacketView) (changed : List ℕ) → IsLegal p → length changed ≤ 1 → Arrives p (with_changed changed (packet_bytes p))
at_most_one p [] legal few = inl refl
at_most_one p (n ∷ []) legal few = one_bit p n legal
at_most_one p (n ∷ m ∷ more) legal few = absurd (omega (arith, few))

pub single_changes : (changes : List BitChange) → ((transaction number : ℕ) → length (bits_of changes transaction number) ≤ 1) → AreSlight changes
single_changes changes few = λ transaction number p legal. at_most_one p (bits_of changes transaction number) legal (few transaction number)
