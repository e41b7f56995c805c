-- Nothing begins in a line of blanks.
use Rattle.std.proofs.Common.{◌≡◌, ℕ, ◌==◌, ◌&&◌, ◌||◌, Bool, true, false, if◌then◌else◌, List, [], ◌∷◌, slice_index, refl, subst, sym}
use Rattle.std.proofs.lemmas.Bool.{eqb-true}
use Rattle.usb_hex.specs.Columns.{after_all, is_blank}
use Rattle.usb_hex.specs.Labels.{after_dot, is_declaration, is_label, names_bytes, part_of_line}
use Rattle.usb_hex.specs.declared.label.Part.TheVariants.{Bytes}

-- after blanks is a line feed
abbrev IsEmpty : List ℕ → Type 0
IsEmpty text = (slice_index (after_all is_blank text) 0 == 10) ≡ true

-- What holds of a line feed, and of a blank where it holds of the rest, holds of a line of blanks.
module _ (P : List ℕ → Type 0) (feed : (rest : List ℕ) → P (10 ∷ rest)) (space : (rest : List ℕ) → P rest → P (32 ∷ rest)) (tab : (rest : List ℕ) → P rest → P (9 ∷ rest)) where
  of_blanks : (text : List ℕ) → IsEmpty text → P text
  unfolding after_all
  of_blanks [] is = cc
  of_blanks (c ∷ rest) is = by (c == 32) refl (c == 9) refl is (of_blanks rest)
    where
      Q : ℕ → Type 0
      Q d = P (d ∷ rest)

      by : (a : Bool) → (c == 32) ≡ a → (b : Bool) → (c == 9) ≡ b
          → (slice_index (if a || b then after_all is_blank rest else c ∷ rest) 0 == 10) ≡ true → (IsEmpty rest → P rest) → P (c ∷ rest)
      by true e b f is later = subst Q (sym (eqb-true c 32 e)) (space rest (later is))
      by false e true f is later = subst Q (sym (eqb-true c 9 f)) (tab rest (later is))
      by false e false f is later = subst Q (sym (eqb-true c 10 is)) (feed rest)

no_name : (text : List ℕ) → IsEmpty text → is_label false text ≡ false
unfolding is_label
no_name text is = of_blanks (λ t. is_label false t ≡ false) (λ rest. refl) (λ rest later. later) (λ rest later. later) text is

no_string : (text : List ℕ) → IsEmpty text → is_declaration false 32 text ≡ false
unfolding is_declaration
no_string text is = of_blanks (λ t. is_declaration false 32 t ≡ false) (λ rest. refl) (λ rest later. later) (λ rest later. later) text is

no_bytes : (text : List ℕ) → (slice_index text 0 == 10) ≡ true → names_bytes (after_dot text) ≡ false
no_bytes [] is = cc
no_bytes (c ∷ rest) is = subst (λ (d : ℕ). names_bytes (after_dot (d ∷ rest)) ≡ false) (sym (eqb-true c 10 is)) refl

never : (b : Bool) → (b && false) ≡ false
never true = refl
never false = refl

pub no_label : (text : List ℕ) → (slice_index (after_all is_blank text) 0 == 10) ≡ true → Bytes ≡ part_of_line text
no_label text is = rw (no_name text is, no_bytes (after_all is_blank text) is, no_string text is, never) refl
