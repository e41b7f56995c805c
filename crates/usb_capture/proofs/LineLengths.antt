-- How many bytes a line has, as more of it come or as only the first are held.
use Rattle.std.proofs.Common.{◌≡◌, ℕ, zero, suc, ◌+◌, ◌<◌, ◌≤◌, List, [], ◌∷◌, ◌++◌, length, take, min, slice_index, Bool, true, false, not, ◌==◌, if◌then◌else◌, inl, inr, refl, sym, ◌∙◌, ap, arith}
use Rattle.std.proofs.lemmas.Bool.Decides.{nat_tests}
use Rattle.std.specs.List.{position_or_len}
use Rattle.std.specs.Prelude.{is_some, ◌&&◌}
use Rattle.memchr.specs.Find.{is_byte}
use Rattle.usb_capture.specs.UsbmonText.{is_text, line_length}
use Rattle.usb_capture.specs.Words.{digit, place_of}
use Rattle.usb_capture.proofs.Numbers.{le_or}

-- one byte and then others
place_cons : (byte c : ℕ) (b : List ℕ) → place_of byte (c ∷ b) ≡ (if c == byte then 0 else suc (place_of byte b))
unfolding place_of
place_cons byte c b = of (c == byte) (position_or_len (is_byte byte) b)
  where
    of : (t : Bool) (n : ℕ) → (if not t then 1 + n else 0) ≡ (if t then 0 else suc n)
    of true n = refl
    of false n = omega arith

place_nil : (byte : ℕ) → place_of byte [] ≡ 0
unfolding place_of
place_nil byte = refl

place_grows : (byte : ℕ) (b x : List ℕ) → place_of byte b ≤ place_of byte (b ++ x)
place_grows byte [] x = (let e = place_nil byte in omega (arith, e))
place_grows byte (c ∷ b) x =
    (let first = place_cons byte c b in let second = place_cons byte c (b ++ x) in let later = place_grows byte b x in of (c == byte) (place_of byte (c ∷ b)) (place_of byte (c ∷ (b ++ x))) first second later)
  where
    of : (t : Bool) (m n : ℕ) → m ≡ (if t then 0 else suc (place_of byte b)) → n ≡ (if t then 0 else suc (place_of byte (b ++ x))) → place_of byte b ≤ place_of byte (b ++ x) → m ≤ n
    of true m n e f h = omega (arith, e)
    of false m n e f h = omega (arith, e, f, h)

place_steady : (byte : ℕ) (b x : List ℕ) → place_of byte b < length b → place_of byte (b ++ x) ≡ place_of byte b
place_steady byte [] x h = absurd (omega (arith, h))
place_steady byte (c ∷ b) x h =
    of (c == byte) (place_of byte (c ∷ b)) (place_of byte (c ∷ (b ++ x))) (place_cons byte c b) (place_cons byte c (b ++ x)) h (place_steady byte b x)
  where
    of : (t : Bool) (m n : ℕ) → m ≡ (if t then 0 else suc (place_of byte b)) → n ≡ (if t then 0 else suc (place_of byte (b ++ x))) → m < suc (length b) → (place_of byte b < length b → place_of byte (b ++ x) ≡ place_of byte b) → n ≡ m
    of true m n e f h later = f ∙ sym e
    of false m n e f h later = (let same = later (omega (arith, e, h)) in omega (arith, e, f, same))

place_held : (byte n : ℕ) (b : List ℕ) → place_of byte (take n b) ≡ min n (place_of byte b)
place_held byte zero b = (let e = place_nil byte in omega (arith, e))
place_held byte (suc n) [] = (let e = place_nil byte in omega (arith, e))
place_held byte (suc n) (c ∷ b) =
    of (c == byte) (place_of byte (c ∷ take n b)) (place_of byte (c ∷ b)) (place_cons byte c (take n b)) (place_cons byte c b) (place_held byte n b)
  where
    of : (t : Bool) (l m : ℕ) → l ≡ (if t then 0 else suc (place_of byte (take n b))) → m ≡ (if t then 0 else suc (place_of byte b)) → place_of byte (take n b) ≡ min n (place_of byte b) → l ≡ min (suc n) m
    of true l m e f h = omega (arith, e, f)
    of false l m e f h = omega (arith, e, f, h)

pub line_grows : (b x : List ℕ) → line_length b ≤ line_length (b ++ x)
line_grows b x = (let h = place_grows 10 b x in omega (arith, h))

pub line_steady : (b x : List ℕ) → line_length b ≤ length b → line_length (b ++ x) ≡ line_length b
line_steady b x h =
    elim (le_or (length b) (place_of 10 b)) [
      | inl none ↦ (let grows = place_grows 10 b x in omega (arith, h, none, grows))
      | inr there ↦ (let e = place_steady 10 b x there in omega (arith, e))
    ]

pub line_held : (b : List ℕ) → line_length (take 65627 b) ≡ line_length b
line_held b = (let e = place_held 10 65627 b in omega (arith, e))

-- a digit is no line feed
digit_apart : (c : ℕ) → is_some (digit c) ≡ true → (c == 10) ≡ false
unfolding digit
digit_apart c e = grind (arith, nat_tests)

no_digit : is_some (digit 0) ≡ true → ⊥
unfolding digit
no_digit e = cc

four : (s t u v : Bool) → (s && t && u && v) ≡ true → (s ≡ true) × (t ≡ true) × (u ≡ true) × (v ≡ true)
four true true true v e = (refl, refl, refl, e)
four true true false v e = cc
four true false u v e = cc
four false t u v e = cc

after_digit : (c : ℕ) (b : List ℕ) → is_some (digit c) ≡ true → place_of 10 (c ∷ b) ≡ suc (place_of 10 b)
after_digit c b e = place_cons 10 c b ∙ ap (λ t. if t then 0 else suc (place_of 10 b)) (digit_apart c e)

pub least_line : (b : List ℕ) → is_text b ≡ true → 4 ≤ line_length b
least_line b e = of b (four _ _ _ _ e)
  where
    of : (b : List ℕ) → (is_some (digit (slice_index b 0)) ≡ true) × (is_some (digit (slice_index b 1)) ≡ true) × (is_some (digit (slice_index b 2)) ≡ true) × (is_some (digit (slice_index b 3)) ≡ true) → 4 ≤ line_length b
    of [] h = absurd (no_digit h.0)
    of (p ∷ []) h = absurd (no_digit h.1)
    of (p ∷ q ∷ []) h = absurd (no_digit h.2)
    of (p ∷ q ∷ r ∷ []) h = absurd (no_digit h.3)
    of (p ∷ q ∷ r ∷ s ∷ b) h =
        let e0 = after_digit p (q ∷ r ∷ s ∷ b) h.0 in
        let e1 = after_digit q (r ∷ s ∷ b) h.1 in
        let e2 = after_digit r (s ∷ b) h.2 in
        let e3 = after_digit s b h.3 in
        omega (arith, e0, e1, e2, e3)
