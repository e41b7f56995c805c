-- The packets of an answer end the data stage just where the host ends it.
use Rattle.std.proofs.Common.{◌≡◌, ℕ, ◌-◌, ◌≤◌, List, [], ◌∷◌, length, drop, refl, sym, ◌∙◌, arith, inl, inr}
use Rattle.std.proofs.lemmas.Bool.{cases_lt}
use Rattle.std.proofs.lemmas.List.{take_all}
use Rattle.usb_fields.specs.Packets.{packets}
use Rattle.usb_fields.proofs.PacketLemmas.{packets-none, packets-short, packets-whole}
use Rattle.usb_bus.specs.Beside.{CutsAlike}

-- one packet of 8 bytes
as_one : (b : List ℕ) (n : ℕ) → 8 ≤ n → length b ≡ 8 → packets b n 8 ≡ b ∷ []
as_one b n big size =
    elim (cases_lt (length b) n) [
      | inl short ↦ packets-short b n 8 (omega arith) short
      | inr whole ↦
          let none : 8 - n ≡ 0 = omega arith in
          rw (packets-whole b n 8 (omega arith) (omega arith) whole, none, packets-none (drop n b) n, take_all n b (omega arith)) refl
    ]

-- 8 bytes come in one packet, whatever the device's packet size is: the host doesn't know it yet
pub first_cut : (b : List ℕ) (n : ℕ) → 8 ≤ n → length b ≡ 8 → CutsAlike n 8 8 b
first_cut b n big size = (omega arith, omega arith, as_one b n big size ∙ sym (as_one b 8 (omega arith) size))
