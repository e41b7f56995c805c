-- Whether a text has a character, by its first place.
use Rattle.std.proofs.Common.{◌≡◌, ℕ, zero, suc, ◌<◌, ◌==◌, ◌||◌, Bool, true, false, List, [], ◌∷◌, Option, Some, None, length, slice_index, refl, subst, sym, arith}
use Rattle.std.specs.List.{list_any}
use Rattle.memchr.specs.Find.{IsFirstByte, is_byte}
use Rattle.usb_hex.specs.Brackets.{has}

either : (a b : Bool) → b ≡ true → (a || b) ≡ true
either true b is = refl
either false b is = is

any_at : (test : ℕ → Bool) (text : List ℕ) (n : ℕ) → n < length text → test (slice_index text n) ≡ true → list_any test text ≡ true
any_at test [] n lt here = absurd (omega (arith, lt))
any_at test (c ∷ text) zero lt here = rw here refl
any_at test (c ∷ text) (suc n) lt here = either (test c) (list_any test text) (any_at test text n (omega (arith, lt)) here)

none_at : (test : ℕ → Bool) (text : List ℕ) → ((k : ℕ) → k < length text → test (slice_index text k) ≡ true → ⊥) → list_any test text ≡ false
none_at test [] none = refl
none_at test (c ∷ text) none = by (test c) refl (none_at test text (λ k lt is. none (suc k) (omega (arith, lt)) is))
  where
    by : (b : Bool) → test c ≡ b → list_any test text ≡ false → (b || list_any test text) ≡ false
    by true e later = absurd (none zero (omega arith) e)
    by false e later = later

pub is_found : (c : ℕ) (text : List ℕ) (r : Option ℕ) (n : ℕ) → IsFirstByte (is_byte c) text r → r ≡ Some n → true ≡ has c text
is_found c text r n is e = at (subst (IsFirstByte (is_byte c) text) e is)
  where
    at : IsFirstByte (is_byte c) text (Some n) → true ≡ has c text
    at (none, here) = sym (any_at (λ x. x == c) text n none.high here)

pub is_nowhere : (c : ℕ) (text : List ℕ) (r : Option ℕ) → IsFirstByte (is_byte c) text r → r ≡ None → false ≡ has c text
is_nowhere c text r is e = at (subst (IsFirstByte (is_byte c) text) e is)
  where
    at : IsFirstByte (is_byte c) text None → false ≡ has c text
    at none = sym (none_at (λ x. x == c) text (λ k lt here. none k (omega arith) lt here))
