-- What bytes without a fault are.
use Rattle.std.proofs.Common.{◌≡◌, ℕ, zero, suc, ◌+◌, List, [], ◌∷◌, length, get_or, None, refl, ap, subst, arith}
use Rattle.std.proofs.lemmas.Bool.Decides.{nat_tests}
use Rattle.usb_fields.specs.Device.{field_fault}

-- the list has this length, and a descriptor's bLength and bDescriptorType
pub record IsHeaded (size kind : ℕ) (b : List ℕ) : Type 0 where
  pub long : length b ≡ size
  pub size_byte : get_or b 0 0 ≡ size
  pub kind_byte : get_or b 1 0 ≡ kind

pub headed : (size kind : ℕ) (b : List ℕ) → field_fault size kind b ≡ None → IsHeaded size kind b
headed size kind b none =
    record {
      long = grind (arith, nat_tests);
      size_byte = grind (arith, nat_tests);
      kind_byte = grind (arith, nat_tests);
    }

-- n elements, from this place on
abbrev cells : List ℕ → ℕ → ℕ → List ℕ
cells b at zero = []
cells b at (suc n) = get_or b at 0 ∷ cells b (at + 1) n

cells_after : (x : ℕ) (b : List ℕ) (n at : ℕ) → cells (x ∷ b) (at + 1) n ≡ cells b at n
cells_after x b zero at = refl
cells_after x b (suc n) at =
    let head : get_or (x ∷ b) (at + 1) 0 ≡ get_or b at 0 = ap (λ k. get_or (x ∷ b) k 0) (let e : at + 1 ≡ suc at = omega arith in e) in
    let rest = cells_after x b n (at + 1) in
    cc

-- a list is that of all its elements
cells_of_all : (b : List ℕ) → cells b 0 (length b) ≡ b
cells_of_all [] = refl
cells_of_all (x ∷ b) = let rest = cells_after x b (length b) 0 in let all = cells_of_all b in cc

pub all_cells : (b : List ℕ) (n : ℕ) → length b ≡ n → cells b 0 n ≡ b
all_cells b n long = subst (λ k. cells b 0 k ≡ b) long (cells_of_all b)
