-- Where a byte is found in a text.
use Rattle.std.proofs.Common.{◌≡◌, ℕ, zero, suc, ◌+◌, ◌<◌, ◌≤◌, Bool, true, false, List, ◌++◌, append_assoc, length, drop, get_or, set, inl, inr, refl, subst, sym, ap, ◌∙◌, arith}
use Rattle.std.specs.Prelude.{Option, Some, None}
use Rattle.std.proofs.lemmas.List.Sums.{position_or_len_is}
use Rattle.memchr.specs.Find.{IsFirstByte, is_byte}
use Rattle.std.proofs.lemmas.List.{at_drop_more, at_drop_all}
use Rattle.usb_capture.specs.UsbmonText.{byte_in, bytes_in}
use Rattle.usb_capture.specs.Words.{◌>>=◌, number_after, number_with, place_of}
use Rattle.usb_capture.proofs.Numbers.{le_or}

not_true : (b : Bool) → ((b ≡ true) → ⊥) → b ≡ false
not_true true never = absurd (never refl)
not_true false never = refl

pub place_found : (byte : ℕ) (text : List ℕ) (r : Option ℕ) (n : ℕ) → IsFirstByte (is_byte byte) text r → r ≡ Some n → n ≡ place_of byte text
unfolding place_of
place_found byte text r n is e = at (subst (IsFirstByte (is_byte byte) text) e is)
  where
    at : IsFirstByte (is_byte byte) text (Some n) → n ≡ place_of byte text
    at (none, here) = sym (position_or_len_is (is_byte byte) text n 0 (let h = none.high in omega (arith, h)) (λ k below. not_true _ (none.before k (omega arith) below)) (λ w. here))

pub place_nowhere : (byte : ℕ) (text : List ℕ) (r : Option ℕ) → IsFirstByte (is_byte byte) text r → r ≡ None → length text ≡ place_of byte text
unfolding place_of
place_nowhere byte text r is e = at (subst (IsFirstByte (is_byte byte) text) e is)
  where
    at : IsFirstByte (is_byte byte) text None → length text ≡ place_of byte text
    at none = sym (position_or_len_is (is_byte byte) text (length text) 0 (omega arith) (λ k below. not_true _ (none k (omega arith) below)) (λ w. absurd (omega (arith, w))))

-- the digit at this place
pub number_more : (base n : ℕ) (text : List ℕ) (i : ℕ) → i < length text → number_after base n (drop i text) ≡ (number_with base n (get_or text i 0) >>= λ m. number_after base m (drop (i + 1) text))
unfolding number_after
number_more base n text i lt = at_drop_more (number_after base n) text i 0 lt

pub number_all : (base n : ℕ) (text : List ℕ) (i : ℕ) → length text ≤ i → number_after base n (drop i text) ≡ Some n
unfolding number_after
number_all base n text i h = at_drop_all (number_after base n) text i h

-- where a byte isn't there, no more are
pub bytes_none : (n k : ℕ) (text : List ℕ) → k < n → byte_in k text ≡ None → bytes_in n text ≡ None
unfolding bytes_in
bytes_none zero k text lt none = absurd (omega (arith, lt))
bytes_none (suc n) k text lt none =
    elim (le_or n k) [
      | inl last ↦ (let same : n ≡ k = omega (arith, last, lt) in of_byte (bytes_in n text) (ap (λ m. byte_in m text) same ∙ none))
      | inr before ↦ ap (λ o. o >>= λ bytes. byte_in n text >>= λ byte. Some (set bytes n byte)) (bytes_none n k text before none)
    ]
  where
    of_byte : (o : Option (List ℕ)) → byte_in n text ≡ None → (o >>= λ bytes. byte_in n text >>= λ byte. Some (set bytes n byte)) ≡ None
    of_byte None e = refl
    of_byte (Some bytes) e = ap (λ b. b >>= λ byte. Some (set bytes n byte)) e

-- parts that are put one after another
pub five : (x x1 x2 x3 x4 x5 a b c d e a' b' c' d' e' : List ℕ)
    → x1 ≡ x ++ a → x2 ≡ x1 ++ b → x3 ≡ x2 ++ c → x4 ≡ x3 ++ d → x5 ≡ x4 ++ e
    → a ≡ a' → b ≡ b' → c ≡ c' → d ≡ d' → e ≡ e'
    → x5 ≡ x ++ (a' ++ (b' ++ (c' ++ (d' ++ e'))))
five x x1 x2 x3 x4 x5 a b c d e a' b' c' d' e' p q r s t is-a is-b is-c is-d is-e =
    let all : x5 ≡ ((((x ++ a') ++ b') ++ c') ++ d') ++ e' = cc in
    all ∙ simp append_assoc

pub six : (x x1 x2 x3 x4 x5 x6 a b c d e f a' b' c' d' e' f' : List ℕ)
    → x1 ≡ x ++ a → x2 ≡ x1 ++ b → x3 ≡ x2 ++ c → x4 ≡ x3 ++ d → x5 ≡ x4 ++ e → x6 ≡ x5 ++ f
    → a ≡ a' → b ≡ b' → c ≡ c' → d ≡ d' → e ≡ e' → f ≡ f'
    → x6 ≡ x ++ (a' ++ (b' ++ (c' ++ (d' ++ (e' ++ f')))))
six x x1 x2 x3 x4 x5 x6 a b c d e f a' b' c' d' e' f' p q r s t u is-a is-b is-c is-d is-e is-f =
    let all : x6 ≡ (((((x ++ a') ++ b') ++ c') ++ d') ++ e') ++ f' = cc in
    all ∙ simp append_assoc
