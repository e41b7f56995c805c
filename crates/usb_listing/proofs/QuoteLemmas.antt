-- On a quote that ends a text.
use Rattle.std.proofs.Common.{◌≡◌, ◌≢◌, ℕ, zero, suc, ◌-◌, ◌<◌, List, [], ◌∷◌, Some, None, length, get_or, take, refl, ap, arith}
use Rattle.std.specs.Option.{option_map}
use Rattle.std.proofs.lemmas.Bool.{eq-eqb, ne_eqb}
use Rattle.usb_listing.specs.inside.Rows.{before_quote}

last_quote : (text : List ℕ) (i : ℕ) → suc i ≡ length text → get_or text i 0 ≡ 34 → before_quote text ≡ Some (take i text)
last_quote [] i e h = absurd (omega arith)
last_quote (x ∷ []) zero e h = rw (eq-eqb x 34 h) refl
last_quote (x ∷ []) (suc i) e h = absurd (omega arith)
last_quote (x ∷ y ∷ text) zero e h = absurd (omega arith)
last_quote (x ∷ y ∷ text) (suc i) e h = ap (option_map (λ (front : List ℕ). x ∷ front)) (last_quote (y ∷ text) i (omega arith) h)

last_other : (text : List ℕ) (i : ℕ) → suc i ≡ length text → get_or text i 0 ≢ 34 → before_quote text ≡ None
last_other [] i e h = refl
last_other (x ∷ []) zero e h = rw (ne_eqb x 34 h) refl
last_other (x ∷ []) (suc i) e h = absurd (omega arith)
last_other (x ∷ y ∷ text) zero e h = absurd (omega arith)
last_other (x ∷ y ∷ text) (suc i) e h = ap (option_map (λ (front : List ℕ). x ∷ front)) (last_other (y ∷ text) i (omega arith) h)

pub quote_last : (text : List ℕ) → 0 < length text → get_or text (length text - 1) 0 ≡ 34 → before_quote text ≡ Some (take (length text - 1) text)
quote_last text lt h = last_quote text (length text - 1) (omega arith) h

pub no_quote_last : (text : List ℕ) → 0 < length text → get_or text (length text - 1) 0 ≢ 34 → before_quote text ≡ None
no_quote_last text lt h = last_other text (length text - 1) (omega arith) h

pub nothing_quoted : (text : List ℕ) → length text ≡ 0 → before_quote text ≡ None
nothing_quoted [] e = refl
nothing_quoted (x ∷ text) e = absurd (omega arith)
