-- Bits that are changed on their way, and which changes the checks of USB always find (USB 2.0, 8.3.1 and 8.3.5).
use Rattle.std.specs.Prelude.{◌≡◌, ◌≢◌, ◌<◌, ◌≤◌, ◌⊎◌, ℕ, zero, suc, length, List, [], ◌∷◌, ◌++◌, Bool, true, false}
use Rattle.usb_wire.specs.Crc.{differ, bits}
use Rattle.usb_wire.specs.Packets.{PacketView, TokenPacket, FramePacket, DataPacket, HandshakePacket, SplitPacket, PrePacket, pid_byte, pid_of, body_of}

-- where two rows of bits differ
abbrev pub changes : List Bool → List Bool → List Bool
changes [] v = []
changes (a ∷ u) [] = []
changes (a ∷ u) (b ∷ v) = differ a b ∷ changes u v

-- how many bits are set
abbrev pub ones : List Bool → ℕ
ones [] = zero
ones (true ∷ u) = suc (ones u)
ones (false ∷ u) = ones u

-- how many bits are changed where these bytes were sent and those received
abbrev pub changed : List ℕ → List ℕ → ℕ
changed sent received = ones (changes (bits sent) (bits received))

-- some bits are changed, and all of these lie among `most` in a row
pub record IsBurst (most : ℕ) (sent received : List ℕ) : Type 0 where
  pub before : List Bool
  pub was : List Bool
  pub became : List Bool
  pub after : List Bool
  pub of_sent : bits sent ≡ before ++ (was ++ after)
  pub of_received : bits received ≡ before ++ (became ++ after)
  pub long : length became ≡ length was
  pub short : length was ≤ most
  pub some : was ≢ became

-- at least one changed bit, and at most `most`
abbrev pub AreFew : ℕ → List ℕ → List ℕ → Type 0
AreFew most sent received = (0 < changed sent received) × (changed sent received ≤ most)

-- Changes after the PID that are always found: of one or two bits by the 5-bit CRC, and of up to three bits or of bits among
-- 16 in a row by the 16-bit CRC. Handshakes and PRE have a PID alone.
abbrev pub IsBodyFound : PacketView → List ℕ → Type 0
IsBodyFound (TokenPacket kind to) body = AreFew 2 (body_of (TokenPacket kind to)) body
IsBodyFound (FramePacket number) body = AreFew 2 (body_of (FramePacket number)) body
IsBodyFound (DataPacket kind bytes) body =
    AreFew 3 (body_of (DataPacket kind bytes)) body ⊎ IsBurst 16 (body_of (DataPacket kind bytes)) body
IsBodyFound (HandshakePacket kind) body = ⊥
IsBodyFound (SplitPacket fields) body = AreFew 2 (body_of (SplitPacket fields)) body
IsBodyFound PrePacket body = ⊥

-- These bytes are the packet slightly damaged: one bit of its PID is changed, whatever else is, or the PID is as it was and the
-- changes after it are always found.
abbrev pub IsSlightlyDamaged : PacketView → List ℕ → Type 0
IsSlightlyDamaged p [] = ⊥
IsSlightlyDamaged p (head ∷ body) =
    (length body ≡ length (body_of p))
    × ((changed (pid_byte (pid_of p) ∷ []) (head ∷ []) ≡ 1)
    ⊎ ((head ≡ pid_byte (pid_of p)) × IsBodyFound p body))
