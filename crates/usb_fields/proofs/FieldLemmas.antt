-- The widths of fields and their bytes say all that is written of them.
use Rattle.std.proofs.Common.{◌≡◌, ℕ, true, false, List, [], ◌∷◌, ◌++◌, map, refl, ap}
use Rattle.usb_fields.specs.Fields.{Field, byte, word, field_text, fields_bytes, widths, cells}

module _ {Descriptor : Type 0} (d : Descriptor) where
  pub cells_tailed : (fields : List (Field Descriptor)) (tail : List ℕ) → cells (widths fields) true (fields_bytes fields d ++ tail) ≡ map (field_text d) fields ++ tail ∷ []
  cells_tailed [] tail = refl
  cells_tailed (byte name n ∷ fields) tail = ap (λ (xs : List (List ℕ)). (n d ∷ []) ∷ xs) (cells_tailed fields tail)
  cells_tailed (word name n ∷ fields) tail = ap (λ (xs : List (List ℕ)). field_text d (word name n) ∷ xs) (cells_tailed fields tail)

  pub cells_fixed : (fields : List (Field Descriptor)) → cells (widths fields) false (fields_bytes fields d) ≡ map (field_text d) fields
  cells_fixed [] = refl
  cells_fixed (byte name n ∷ fields) = ap (λ (xs : List (List ℕ)). (n d ∷ []) ∷ xs) (cells_fixed fields)
  cells_fixed (word name n ∷ fields) = ap (λ (xs : List (List ℕ)). field_text d (word name n) ∷ xs) (cells_fixed fields)
