-- The packets of an answer end the data stage just where the host ends it.
use Rattle.std.proofs.Common.{◌≡◌, ℕ, zero, suc, ◌+◌, ◌-◌, ◌<◌, ◌≤◌, ◌⊎◌, List, [], ◌∷◌, length, take, drop, sym, arith, inl, inr, subst, length-take, length-drop, zero-add}
use Rattle.std.proofs.lemmas.Bool.{cases_lt}
use Rattle.usb_fields.specs.Packets.{packets, joined}
use Rattle.usb_fields.proofs.PacketLemmas.{packets-none, packets-short, packets-whole, joined-packets}
use Rattle.usb_bus.specs.Beside.{CutsAlike}
use Rattle.usb_bus.specs.inside.Sound.{Due, IsCut}

-- one packet more before those that are due
Due-cons : (n m t : ℕ) (p : List ℕ) (ps : List (List ℕ)) → length p ≡ n → t + length p < m → Due n m (t + length p) ps → Due n m t (p ∷ ps)
Due-cons n m t p [] e l d = absurd d
Due-cons n m t p (r ∷ ps) e l d = (e, l, d)

-- the last packet, which is whole or shorter
Due-last : (n m t : ℕ) (p : List ℕ) → length p ≤ n → t + length p ≤ m → (length p < n) ⊎ (t + length p ≡ m) → Due n m t (p ∷ [])
Due-last n m t p small fits ends = (small, fits, ends)

Due-packets : (most : ℕ) (b : List ℕ) (n m t : ℕ) → 0 < n → m ≤ most → length b ≤ m → 0 < m → Due n (t + m) t (packets b n m)
Due-packets zero b n m t pos enough fits asked = absurd (omega arith)
Due-packets (suc most) b n m t pos enough fits asked =
    elim (cases_lt (length b) n) [
      | inl short ↦ rw (packets-short b n m asked short) (Due-last n (t + m) t b (omega arith) (omega arith) (inl short))
      | inr whole ↦
          let size : length (take n b) ≡ n = simp length-take (omega arith) in
          rw (packets-whole b n m pos asked whole)
          (elim (cases_lt n m) [
            | inl more ↦
                let rest : length (drop n b) ≤ m - n = simp length-drop (omega arith) in
                let due : Due n ((t + n) + (m - n)) (t + n) (packets (drop n b) n (m - n)) =
                Due-packets most (drop n b) n (m - n) (t + n) pos (omega arith) rest (omega arith) in
                let at_end : (t + n) + (m - n) ≡ t + m = omega arith in
                let due_end = subst (λ x. Due n x (t + n) (packets (drop n b) n (m - n))) at_end due in
                let due_here = subst (λ x. Due n (t + m) (t + x) (packets (drop n b) n (m - n))) (sym size) due_end in
                Due-cons n (t + m) t (take n b) (packets (drop n b) n (m - n)) size (omega arith) due_here
            | inr last ↦
                let none : m - n ≡ 0 = omega arith in
                rw (none, packets-none (drop n b) n)
                (Due-last n (t + m) t (take n b) (omega arith) (omega arith) (inr (omega arith)))
          ])
    ]

-- a host that knows the device's packet size expects the packets that the device sends
pub packets_cut : (b : List ℕ) (n m : ℕ) → 0 < n → length b ≤ m → 0 < m → IsCut n n m b
packets_cut b n m pos fits asked =
    let due : Due n (0 + m) 0 (packets b n m) = Due-packets m b n m 0 pos (omega arith) fits asked in
    record { due = subst (λ x. Due n x 0 (packets b n m)) (zero-add m) due; joins = joined-packets b n m pos fits }

-- so does one that knows another size by which the packets are the same
pub alike_cut : (cut size limit : ℕ) (b : List ℕ) → CutsAlike cut size limit b → 0 < limit → IsCut cut size limit b
alike_cut cut size limit b (pos, fits, same) asked =
    let own = packets_cut b size limit pos fits asked in
    record { due = subst (λ ps. Due size limit 0 ps) (sym same) own.due; joins = subst (λ ps. joined ps ≡ b) (sym same) own.joins }
