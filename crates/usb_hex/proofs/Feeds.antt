-- What is left of a line, found by its line feed.
use Rattle.std.proofs.Common.{◌≡◌, ℕ, zero, suc, ◌-◌, ◌<◌, ◌≤◌, ◌==◌, Bool, true, false, not, if◌then◌else◌, List, [], ◌∷◌, Option, Some, None, length, take, drop, slice_index, refl, subst, sym, arith}
use Rattle.std.proofs.lemmas.List.{length-drop, take_all}
use Rattle.memchr.specs.Find.{IsFirstByte, is_byte}
use Rattle.usb_hex.specs.Columns.{after_all, is_in_line}

-- before this place is no line feed
abbrev NoFeedBefore : List ℕ → ℕ → Type 0
NoFeedBefore text n = (k : ℕ) → k < n → (slice_index text k == 10) ≡ true → ⊥

found : (n : ℕ) (text : List ℕ) → n < length text → NoFeedBefore text n → (slice_index text n == 10) ≡ true → drop n text ≡ after_all is_in_line text
unfolding after_all
found n [] lt none here = absurd (omega (arith, lt))
found zero (c ∷ text) lt none here = rw here refl
found (suc n) (c ∷ text) lt none here = by (c == 10) refl (found n text (omega (arith, lt)) (λ k below feed. none (suc k) (omega (arith, below)) feed) here)
  where
    by : (b : Bool) → (c == 10) ≡ b → drop n text ≡ after_all is_in_line text
        → drop n text ≡ (if not b then after_all is_in_line text else c ∷ text)
    by true e later = absurd (none zero (omega arith) e)
    by false e later = later

nowhere : (text : List ℕ) → NoFeedBefore text (length text) → after_all is_in_line text ≡ []
unfolding after_all
nowhere [] none = refl
nowhere (c ∷ text) none = by (c == 10) refl (nowhere text (λ k below feed. none (suc k) (omega (arith, below)) feed))
  where
    by : (b : Bool) → (c == 10) ≡ b → after_all is_in_line text ≡ [] → (if not b then after_all is_in_line text else c ∷ text) ≡ []
    by true e later = absurd (none zero (omega arith) e)
    by false e later = later

pub feed_found : (text : List ℕ) (r : Option ℕ) (n : ℕ) → IsFirstByte (is_byte 10) text r → r ≡ Some n
    → (n ≤ length text) × (take (length text - n) (drop n text) ≡ after_all is_in_line text)
feed_found text r n is e = at (subst (IsFirstByte (is_byte 10) text) e is)
  where
    at : IsFirstByte (is_byte 10) text (Some n) → (n ≤ length text) × (take (length text - n) (drop n text) ≡ after_all is_in_line text)
    at (none, here) =
        let count = length-drop n text in
        let lt = none.high in
        let whole = take_all (length text - n) (drop n text) (omega (arith, count)) in
        (omega (arith, lt), rw whole (found n text lt (λ k below feed. none.before k (omega arith) below feed) here))

pub feed_nowhere : (text : List ℕ) (r : Option ℕ) → IsFirstByte (is_byte 10) text r → r ≡ None → [] ≡ after_all is_in_line text
feed_nowhere text r is e = at (subst (IsFirstByte (is_byte 10) text) e is)
  where
    at : IsFirstByte (is_byte 10) text None → [] ≡ after_all is_in_line text
    at none = sym (nowhere text (λ k lt feed. none k (omega arith) lt feed))
