-- Laws of the packets of a data stage.
use Rattle.std.proofs.Common.{◌≡◌, ℕ, zero, suc, ◌+◌, ◌-◌, ◌*◌, ◌<◌, ◌≤◌, ◌==◌, nat_lt, true, false, List, [], ◌∷◌, length, take, drop, Some, None, slice_get, refl, sym, ap, arith, ◌⊎◌, inl, inr}
use Rattle.std.proofs.lemmas.Grind.{common_steps}
use Rattle.std.proofs.lemmas.Bool.{lt-ltb, le-ltb, cases_lt}
use Rattle.std.proofs.lemmas.List.{length-drop, drop-drop, take-append-drop, append-nil, take_all, nil_from_length}
use Rattle.usb_fields.specs.Packets.{packets_within, packets, joined}

-- no packet where nothing is asked for
packets_within-none : (most : ℕ) (b : List ℕ) (n m : ℕ) → m ≡ 0 → packets_within most b n m ≡ []
unfolding packets_within
packets_within-none zero b n m none = refl
packets_within-none (suc most) b n m none = rw none refl

-- the last packet is what is left, shorter than the packet size
packets_within-short : (most : ℕ) (b : List ℕ) (n m : ℕ) → 0 < m → length b < n → packets_within (suc most) b n m ≡ b ∷ []
unfolding packets_within
packets_within-short most b n m asked short =
    let some : (m == 0) ≡ false = grind (arith, common_steps) in
    let test : nat_lt (length b) n ≡ true = lt-ltb _ _ short in
    rw (some, packets_within, test) refl

-- any other packet has the packet size
packets_within-whole : (most : ℕ) (b : List ℕ) (n m : ℕ) → 0 < m → n ≤ length b → packets_within (suc most) b n m ≡ take n b ∷ packets_within most (drop n b) n (m - n)
unfolding packets_within
packets_within-whole most b n m asked whole =
    let some : (m == 0) ≡ false = grind (arith, common_steps) in
    let test : nat_lt (length b) n ≡ false = le-ltb _ _ whole in
    rw (some, packets_within, test) refl

-- a count of packets that is enough changes nothing
packets_within-enough : (most more : ℕ) (b : List ℕ) (n m : ℕ) → 0 < n → m ≤ most → m ≤ more → packets_within most b n m ≡ packets_within more b n m
packets_within-enough zero more b n m pos enough also =
    rw (packets_within-none zero b n m (omega arith), packets_within-none more b n m (omega arith)) refl
packets_within-enough (suc most) zero b n m pos enough also =
    rw (packets_within-none (suc most) b n m (omega arith), packets_within-none zero b n m (omega arith)) refl
packets_within-enough (suc most) (suc more) b n m pos enough also =
    elim (cases_lt 0 m) [
      | inr none ↦
          rw (packets_within-none (suc most) b n m (omega arith), packets_within-none (suc more) b n m (omega arith)) refl
      | inl asked ↦
          elim (cases_lt (length b) n) [
            | inl short ↦
                rw (packets_within-short most b n m asked short, packets_within-short more b n m asked short) refl
            | inr whole ↦
                let rest = packets_within-enough most more (drop n b) n (m - n) pos (omega arith) (omega arith) in
                rw (packets_within-whole most b n m asked whole, packets_within-whole more b n m asked whole, rest) refl
          ]
    ]

-- where nothing is asked for there is no packet
pub packets-none : (b : List ℕ) (n : ℕ) → packets b n 0 ≡ []
unfolding packets
packets-none b n = packets_within-none 0 b n 0 refl

-- fewer bytes than a packet holds are the one packet
pub packets-short : (b : List ℕ) (n m : ℕ) → 0 < m → length b < n → packets b n m ≡ b ∷ []
unfolding packets
packets-short b n zero asked short = absurd (omega arith)
packets-short b n (suc m) asked short = packets_within-short m b n (suc m) asked short

-- else the first packet is whole, and the packets of what is left follow
pub packets-whole : (b : List ℕ) (n m : ℕ) → 0 < n → 0 < m → n ≤ length b → packets b n m ≡ take n b ∷ packets (drop n b) n (m - n)
unfolding packets
packets-whole b n zero pos asked whole = absurd (omega arith)
packets-whole b n (suc m) pos asked whole =
    let rest = packets_within-enough m (suc m - n) (drop n b) n (suc m - n) pos (omega arith) (omega arith) in
    rw (packets_within-whole m b n (suc m) asked whole, rest) refl

-- packet k is the cut at k packet sizes, while bytes are asked for and the packets before it were whole
packet_within_at : (most : ℕ) (b : List ℕ) (n m k : ℕ) → 0 < n → m ≤ most → k * n ≤ length b → k * n < m → slice_get (packets_within most b n m) k ≡ Some (take n (drop (k * n) b))
packet_within_at zero b n m k pos within here asked = absurd (omega arith)
packet_within_at (suc most) b n m zero pos within here asked =
    let none : 0 * n ≡ 0 = grind arith in
    let some : 0 < m = omega arith in
    elim (cases_lt (length b) n) [
      | inr whole ↦ rw (packets_within-whole most b n m some whole, none) refl
      | inl short ↦ rw (packets_within-short most b n m some short, none) (ap Some (sym (take_all n b (omega arith))))
    ]
packet_within_at (suc most) b n m (suc k) pos within here asked =
    let step : suc k * n ≡ n + k * n = grind arith in
    let whole : n ≤ length b = omega arith in
    let later : k * n ≤ length (drop n b) = omega (arith, length-drop n b) in
    let more : k * n < m - n = omega arith in
    let rest = packet_within_at most (drop n b) n (m - n) k pos (omega arith) later more in
    rw (packets_within-whole most b n m (omega arith) whole, step, ← drop-drop (k * n) n b) rest

-- past these there is none
packet_within_past : (most : ℕ) (b : List ℕ) (n m k : ℕ) → 0 < n → m ≤ most → length b ≤ m → (length b < k * n) ⊎ (m ≤ k * n) → slice_get (packets_within most b n m) k ≡ None
packet_within_past zero b n m k pos within fits past = rw (packets_within-none zero b n m (omega arith)) refl
packet_within_past (suc most) b n m zero pos within fits past =
    rw (packets_within-none (suc most) b n m (elim past [ inl a ↦ absurd (omega arith) | inr a ↦ omega arith ])) refl
packet_within_past (suc most) b n m (suc k) pos within fits past =
    let step : suc k * n ≡ n + k * n = grind arith in
    elim (cases_lt 0 m) [
      | inr none ↦ rw (packets_within-none (suc most) b n m (omega arith)) refl
      | inl asked ↦
          elim (cases_lt (length b) n) [
            | inl short ↦ rw (packets_within-short most b n m asked short) refl
            | inr whole ↦
                let left : (length (drop n b) < k * n) ⊎ (m - n ≤ k * n) =
                elim past [ inl a ↦ inl (omega (arith, length-drop n b)) | inr a ↦ inr (omega arith) ]
                in
                let rest =
                packet_within_past most (drop n b) n (m - n) k pos (omega arith) (omega (arith, length-drop n b)) left
                in
                rw (packets_within-whole most b n m asked whole) rest
          ]
    ]

-- packet k stands at k packet sizes
pub packets-at : (b : List ℕ) (n m k : ℕ) → 0 < n → k * n ≤ length b → k * n < m → slice_get (packets b n m) k ≡ Some (take n (drop (k * n) b))
unfolding packets
packets-at b n m k pos here asked = packet_within_at m b n m k pos (omega arith) here asked

-- there is no packet k where the bytes end before it, or wLength does
pub packets-past : (b : List ℕ) (n m k : ℕ) → 0 < n → length b ≤ m → (length b < k * n) ⊎ (m ≤ k * n) → slice_get (packets b n m) k ≡ None
unfolding packets
packets-past b n m k pos fits past = packet_within_past m b n m k pos (omega arith) fits past

joined-packets_within : (most : ℕ) (b : List ℕ) (n m : ℕ) → 0 < n → m ≤ most → length b ≤ m → joined (packets_within most b n m) ≡ b
joined-packets_within zero b n m pos within fits = rw (packets_within-none zero b n m (omega arith)) (sym (nil_from_length b (omega arith)))
joined-packets_within (suc most) b n m pos within fits =
    elim (cases_lt 0 m) [
      | inr none ↦ rw (packets_within-none (suc most) b n m (omega arith)) (sym (nil_from_length b (omega arith)))
      | inl asked ↦
          elim (cases_lt (length b) n) [
            | inl short ↦ rw (packets_within-short most b n m asked short) (append-nil b)
            | inr whole ↦
                let rest =
                joined-packets_within most (drop n b) n (m - n) pos (omega arith) (omega (arith, length-drop n b))
                in
                rw (packets_within-whole most b n m asked whole, rest) (take-append-drop n b)
          ]
    ]

-- the packets join to the bytes
pub joined-packets : (b : List ℕ) (n m : ℕ) → 0 < n → length b ≤ m → joined (packets b n m) ≡ b
unfolding packets
joined-packets b n m pos fits = joined-packets_within m b n m pos (omega arith) fits
