-- Where columns begin, line by line.
use Rattle.std.proofs.Common.{◌≡◌, ℕ, ◌+◌, ◌<◌, ◌==◌, ◌&&◌, ◌||◌, Bool, true, false, nat_le, not, if◌then◌else◌, List, [], ◌∷◌, Option, Some, None, length, slice_index, refl, subst, sym, arith}
use Rattle.std.proofs.lemmas.Bool.{eqb-true, leb-true}
use Rattle.hex.specs.Hex.{is_hex_digit}
use Rattle.usb_hex.specs.Columns.{after_all, after_one, at_start, begins_columns, columns_of, is_empty_line, is_heading, is_in_line, is_offset}
use Rattle.usb_hex.specs.TwoReadings.{has_offset_after}

-- in a line columns begin no more
in_line : (text : List ℕ) → columns_of false text ≡ columns_of true (after_one (after_all is_in_line text))
unfolding columns_of after_all
in_line [] = refl
in_line (c ∷ rest) = by (c == 10) (in_line rest)
  where
    by : (b : Bool) → columns_of false rest ≡ columns_of true (after_one (after_all is_in_line rest))
        → columns_of b rest ≡ columns_of true (after_one (if not b then after_all is_in_line rest else c ∷ rest))
    by true later = refl
    by false later = later

after_start : (c : ℕ) (rest : List ℕ) → columns_of (c == 10) rest ≡ columns_of true (after_one (after_all is_in_line (c ∷ rest)))
unfolding after_all
after_start c rest = by (c == 10) (in_line rest)
  where
    by : (b : Bool) → columns_of false rest ≡ columns_of true (after_one (after_all is_in_line rest))
        → columns_of b rest ≡ columns_of true (after_one (if not b then after_all is_in_line rest else c ∷ rest))
    by true later = refl
    by false later = later

no_columns : (b h : Bool) (here later : Option (List ℕ)) → (not b && h) ≡ true → (if b then here else if not h then None else later) ≡ later
no_columns true h here later e = cc
no_columns false true here later e = refl
no_columns false false here later e = cc

pub begins_below : (text : List ℕ) → 0 < length text → (not (begins_columns (at_start text)) && is_heading (at_start text)) ≡ true
    → columns_of true text ≡ columns_of true (after_one (after_all is_in_line text))
unfolding columns_of
begins_below [] some is = absurd (omega (arith, some))
begins_below (c ∷ rest) some is =
    rw (no_columns (begins_columns (at_start (c ∷ rest))) (is_heading (at_start (c ∷ rest))) (Some (at_start (c ∷ rest))) (columns_of (c == 10) rest) is) (after_start c rest)

chosen : (b h : Bool) (here later : Option (List ℕ)) → (not b && h) ≡ false → (if b then here else if not h then None else later) ≡ (if b then here else None)
chosen true h here later e = refl
chosen false true here later e = cc
chosen false false here later e = refl

pub begins_here : (text : List ℕ) → 0 < length text → (not (begins_columns (at_start text)) && is_heading (at_start text)) ≡ false
    → columns_of true text ≡ (if begins_columns (at_start text) then Some (at_start text) else None)
unfolding columns_of
begins_here [] some is = absurd (omega (arith, some))
begins_here (c ∷ rest) some is =
    chosen (begins_columns (at_start (c ∷ rest))) (is_heading (at_start (c ∷ rest))) (Some (at_start (c ∷ rest))) (columns_of (c == 10) rest) is

-- nothing begins in an empty line
short : (text : List ℕ) → nat_le (4 + length text) (length text) ≡ false
short text = by (nat_le (4 + length text) (length text)) refl
  where
    by : (b : Bool) → nat_le (4 + length text) (length text) ≡ b → b ≡ false
    by true e = (let le = leb-true (4 + length text) (length text) e in absurd (omega (arith, le)))
    by false e = refl

at_feed : (rest : List ℕ) → (not (begins_columns (10 ∷ rest)) && is_heading (10 ∷ rest)) ≡ true
unfolding after_all
at_feed rest = rw (short (10 ∷ rest)) refl

at_return : (rest : List ℕ) → (not (begins_columns (13 ∷ rest)) && is_heading (13 ∷ rest)) ≡ true
unfolding after_all
at_return rest = rw (short (13 ∷ rest)) refl

pub empty_is_left_out : (text : List ℕ) → is_empty_line text ≡ true → (not (begins_columns text) && is_heading text) ≡ true
unfolding after_all
empty_is_left_out [] is = refl
empty_is_left_out (c ∷ rest) is = by (c == 10) refl (c == 13) refl is
  where
    LeftOut : ℕ → Type 0
    LeftOut d = (not (begins_columns (d ∷ rest)) && is_heading (d ∷ rest)) ≡ true

    by : (a : Bool) → (c == 10) ≡ a → (b : Bool) → (c == 13) ≡ b → (a || b) ≡ true → LeftOut c
    by true feed b e some = subst LeftOut (sym (eqb-true c 10 feed)) (at_feed rest)
    by false feed true e some = subst LeftOut (sym (eqb-true c 13 e)) (at_return rest)
    by false feed false e some = cc

no_number : (start : List ℕ) (more : Bool) → (slice_index start 0 == 10) ≡ true → false ≡ (is_offset start (after_all is_hex_digit start) && more)
unfolding after_all
no_number [] more is = cc
no_number (c ∷ rest) more is =
    subst (λ (d : ℕ). false ≡ (is_offset (d ∷ rest) (after_all is_hex_digit (d ∷ rest)) && more)) (sym (eqb-true c 10 is)) (rw (short (10 ∷ rest)) refl)

pub empty_has_no_offset : (count : ℕ) (text : List ℕ) → (slice_index (at_start text) 0 == 10) ≡ true → false ≡ has_offset_after count text
empty_has_no_offset count text is = no_number (at_start text) _ is
