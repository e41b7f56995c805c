-- Fields written, and read again.
use Rattle.std.proofs.Common.{◌≡◌, ◌≢◌, ℕ, ◌*◌, ◌<◌, ◌≤◌, ◌==◌, ◌||◌, ◌&&◌, ltb, Bool, true, false, cond, List, [], ◌∷◌, ◌++◌, Option, Some, None, unwrap_or, length, refl, ap, sym, ◌∙◌, subst, append_assoc, append-nil, arith, codes}
use Rattle.std.specs.List.{flat_map}
use Rattle.std.specs.Str.{bytes_eq}
use Rattle.std.proofs.lemmas.Bool.{eqb-false, eqb-true, le-ltb, ltb-false, ne_eqb, or_parts}
use Rattle.std.proofs.lemmas.Slice.Eq.{bytes_eq-Decides}
use Rattle.hex.specs.Hex.{encode_lower, encode_with, lower_digits}
use Rattle.hex.proofs.HexLemmas.{length-encode_with}
use Rattle.usb_fields.specs.Bytes.{AreBytes}
use Rattle.usb_listing.specs.Table.{written_field}
use Rattle.usb_fields.specs.declared.field.Width.{Width}
use Rattle.usb_fields.specs.declared.field.Width.TheVariants.{One, Two}
use Rattle.usb_fields.specs.Fields.{cells, size_of}
use Rattle.usb_listing.specs.inside.Fields.{pair_value, Cell, behind_space, cell_first, cell_in, cell_of, cells_from, cells_then, one_with, pairs_of, tail_behind, tail_of, two_with}
use Rattle.usb_text.proofs.Printables.{high_digit, low_digit}
use Rattle.usb_listing.proofs.DigitLemmas.{pair_again, pair_read}
use Rattle.usb_listing.proofs.DecodeLemmas.{pairs_again, pairs_read}

-- ---- fields that were written are read

one_again : (x : ℕ) (rest : List ℕ) → x < 256 → cell_first One (high_digit x ∷ low_digit x ∷ rest) ≡ Some (x ∷ [], rest)
unfolding cell_first
one_again x rest lt = ap (λ o. one_with o rest) (pair_again x lt)

two_again : (low high : ℕ) (rest : List ℕ) → low < 256 → high < 256
    → cell_first Two (high_digit high ∷ low_digit high ∷ high_digit low ∷ low_digit low ∷ rest) ≡ Some (low ∷ high ∷ [], rest)
unfolding cell_first
two_again low high rest l h = rw (pair_again high h, pair_again low l) refl

-- the text of fields of these widths
abbrev pub text_of : List Width → List ℕ → List ℕ
text_of widths fixed = flat_map written_field (cells widths false fixed)

pub cells_again : (widths : List Width) (fixed done rest : List ℕ) → length fixed ≡ size_of widths → AreBytes fixed
    → cells_from widths done (text_of widths fixed ++ rest) ≡ Some (done ++ fixed, rest)
unfolding encode_with
cells_again [] [] done rest e h = ap (λ (xs : List ℕ). Some (xs, rest)) (sym (append-nil done))
cells_again [] (x ∷ fixed) done rest e h = absurd (omega arith)
cells_again (One ∷ widths) [] done rest e h = absurd (omega arith)
cells_again (One ∷ widths) (x ∷ fixed) done rest e h =
    ap (cells_then (cells_from widths) done) (one_again x (text_of widths fixed ++ rest) h.0)
    ∙ cells_again widths fixed (done ++ x ∷ []) rest (omega arith) h.1
    ∙ ap (λ (xs : List ℕ). Some (xs, rest)) (append_assoc done (x ∷ []) fixed)
cells_again (Two ∷ widths) [] done rest e h = absurd (omega arith)
cells_again (Two ∷ widths) (x ∷ []) done rest e h = absurd (omega arith)
cells_again (Two ∷ widths) (low ∷ high ∷ fixed) done rest e h =
    ap (cells_then (cells_from widths) done) (two_again low high (text_of widths fixed ++ rest) h.0 h.1.0)
    ∙ cells_again widths fixed (done ++ low ∷ high ∷ []) rest (omega arith) h.1.1
    ∙ ap (λ (xs : List ℕ). Some (xs, rest)) (append_assoc done (low ∷ high ∷ []) fixed)

-- ---- fields that were read are written so

pub record OneRead (text cell rest : List ℕ) : Type 0 where
  pub x : ℕ
  pub is : cell ≡ x ∷ []
  pub fits : x < 256
  pub written : text ≡ high_digit x ∷ low_digit x ∷ rest

pub record TwoRead (text cell rest : List ℕ) : Type 0 where
  pub low : ℕ
  pub high : ℕ
  pub is : cell ≡ low ∷ high ∷ []
  pub low_fits : low < 256
  pub high_fits : high < 256
  pub written : text ≡ high_digit high ∷ low_digit high ∷ high_digit low ∷ low_digit low ∷ rest

-- a cell and what stands behind it, out of the answer
pub record Same (a b c d : List ℕ) : Type 0 where
  pub first : a ≡ c
  pub second : b ≡ d

pub same_parts : (a b c d : List ℕ) → ◌≡◌ {A = Cell} (Some (a, b)) (Some (c, d)) → Same a b c d
same_parts a b c d e =
    let both = ap (λ (o : Option (List ℕ × List ℕ)). unwrap_or o (c, d)) e in
    record { first = ap (λ (p : List ℕ × List ℕ). p.0) both; second = ap (λ (p : List ℕ × List ℕ). p.1) both }

one_read : (text cell rest : List ℕ) → cell_first One text ≡ Some (cell, rest) → OneRead text cell rest
unfolding cell_first
one_read [] cell rest e = cc
one_read (a ∷ []) cell rest e = cc
one_read (a ∷ b ∷ text) cell rest e = cases (pair_value a b) refl e
  where
    cases : (o : Option ℕ) → pair_value a b ≡ o → one_with o text ≡ Some (cell, rest) → OneRead (a ∷ b ∷ text) cell rest
    cases None eo e = cc
    cases (Some x) eo e =
        let p = pair_read a b x eo in
        let is = same_parts (x ∷ []) text cell rest e in
        record { x = x; is = sym is.first; fits = p.byte; written = rw (p.is_high, p.is_low, is.second) refl }

two_read : (text cell rest : List ℕ) → cell_first Two text ≡ Some (cell, rest) → TwoRead text cell rest
unfolding cell_first
two_read [] cell rest e = cc
two_read (a ∷ []) cell rest e = cc
two_read (a ∷ b ∷ []) cell rest e = cc
two_read (a ∷ b ∷ c ∷ []) cell rest e = cc
two_read (a ∷ b ∷ c ∷ d ∷ text) cell rest e = cases (pair_value a b) (pair_value c d) refl refl e
  where
    cases : (h l : Option ℕ) → pair_value a b ≡ h → pair_value c d ≡ l → two_with h l text ≡ Some (cell, rest) → TwoRead (a ∷ b ∷ c ∷ d ∷ text) cell rest
    cases None l eh el e = cc
    cases (Some high) None eh el e = cc
    cases (Some high) (Some low) eh el e =
        let p = pair_read a b high eh in
        let q = pair_read c d low el in
        let is = same_parts (low ∷ high ∷ []) text cell rest e in
        record {
          low = low;
          high = high;
          is = sym is.first;
          low_fits = q.byte;
          high_fits = p.byte;
          written = rw (p.is_high, p.is_low, q.is_high, q.is_low, is.second) refl;
        }

-- what stands behind a space
space_read : (text after : List ℕ) → behind_space text ≡ Some after → text ≡ 32 ∷ after
space_read [] after e = cc
space_read (x ∷ text) after e = cases (x == 32) refl e
  where
    cases : (t : Bool) → (x == 32) ≡ t → cond t (Some text) None ≡ Some after → x ∷ text ≡ 32 ∷ after
    cases false et e = cc
    cases true et e =
        let is : text ≡ after = ap (λ (o : Option (List ℕ)). unwrap_or o after) e in
        let space = eqb-true x 32 et in
        rw (space, is) refl

-- a field behind its space
pub record Spaced (width : Width) (text cell rest : List ℕ) : Type 0 where
  pub after : List ℕ
  pub space : text ≡ 32 ∷ after
  pub first : cell_first width after ≡ Some (cell, rest)

spaced : (width : Width) (text cell rest : List ℕ) → cell_of width text ≡ Some (cell, rest) → Spaced width text cell rest
spaced width text cell rest e = cases (behind_space text) refl e
  where
    cases : (o : Option (List ℕ)) → behind_space text ≡ o → cell_in width o ≡ Some (cell, rest) → Spaced width text cell rest
    cases None eo e = cc
    cases (Some after) eo e = record { after = after; space = space_read text after eo; first = e }

pub record AreCells (widths : List Width) (text all done rest : List ℕ) : Type 0 where
  pub fixed : List ℕ
  pub are : all ≡ done ++ fixed
  pub count : length fixed ≡ size_of widths
  pub fits : AreBytes fixed
  pub written : text ≡ text_of widths fixed ++ rest

-- one more field in front
one_more : (widths : List Width) (text after all done cell rest : List ℕ) → cell_of One text ≡ Some (cell, after) → AreCells widths after all (done ++ cell) rest
    → AreCells (One ∷ widths) text all done rest
unfolding encode_with
one_more widths text after all done cell rest e more =
    let s = spaced One text cell after e in
    let f = one_read s.after cell after s.first in
    let n = more.count in
    record {
      fixed = f.x ∷ more.fixed;
      are = more.are ∙ ap (λ (xs : List ℕ). (done ++ xs) ++ more.fixed) f.is ∙ append_assoc done (f.x ∷ []) more.fixed;
      count = omega (arith, n);
      fits = (f.fits, more.fits);
      written = s.space ∙ ap (λ (xs : List ℕ). 32 ∷ xs) f.written ∙ ap (λ (xs : List ℕ). 32 ∷ high_digit f.x ∷ low_digit f.x ∷ xs) more.written;
    }

two_more : (widths : List Width) (text after all done cell rest : List ℕ) → cell_of Two text ≡ Some (cell, after) → AreCells widths after all (done ++ cell) rest
    → AreCells (Two ∷ widths) text all done rest
unfolding encode_with
two_more widths text after all done cell rest e more =
    let s = spaced Two text cell after e in
    let f = two_read s.after cell after s.first in
    let n = more.count in
    record {
      fixed = f.low ∷ f.high ∷ more.fixed;
      are = more.are ∙ ap (λ (xs : List ℕ). (done ++ xs) ++ more.fixed) f.is ∙ append_assoc done (f.low ∷ f.high ∷ []) more.fixed;
      count = omega (arith, n);
      fits = (f.low_fits, (f.high_fits, more.fits));
      written = s.space ∙ ap (λ (xs : List ℕ). 32 ∷ xs) f.written
          ∙ ap (λ (xs : List ℕ). 32 ∷ high_digit f.high ∷ low_digit f.high ∷ high_digit f.low ∷ low_digit f.low ∷ xs) more.written;
    }

pub cells_are : (widths : List Width) (done text all rest : List ℕ) → cells_from widths done text ≡ Some (all, rest) → AreCells widths text all done rest
cells_are [] done text all rest e =
    let is = same_parts done text all rest e in
    record { fixed = []; are = sym is.first ∙ sym (append-nil done); count = refl; fits = tt; written = is.second }
cells_are (width ∷ widths) done text all rest e = cases width (cell_of width text) refl (λ cell after e. cells_are widths (done ++ cell) after all rest e) e
  where
    cases : (width : Width) (o : Cell) → cell_of width text ≡ o
        → ((cell after : List ℕ) → cells_from widths (done ++ cell) after ≡ Some (all, rest) → AreCells widths after all (done ++ cell) rest)
        → cells_then (cells_from widths) done o ≡ Some (all, rest) → AreCells (width ∷ widths) text all done rest
    cases width None eo ih e = cc
    cases One (Some (cell, after)) eo ih e = one_more widths text after all done cell rest eo (ih cell after e)
    cases Two (Some (cell, after)) eo ih e = two_more widths text after all done cell rest eo (ih cell after e)

-- ---- tails

not_dash : (x y : ℕ) (text : List ℕ) → bytes_eq (x ∷ y ∷ text) (codes "-") ≡ false
not_dash x y text = cases (x == 45)
  where
    cases : (t : Bool) → (t && false) ≡ false
    cases true = refl
    cases false = refl

digits_read : (most x y : ℕ) (text : List ℕ) → length (x ∷ y ∷ text) ≤ 2 * most → tail_behind most (Some (x ∷ y ∷ text)) ≡ pairs_of (x ∷ y ∷ text)
digits_read most x y text few =
    let some : length (x ∷ y ∷ text) ≢ 0 = omega arith in
    rw (not_dash x y text, ne_eqb (length (x ∷ y ∷ text)) 0 some, le-ltb _ _ few) refl

pub tail_again : (most : ℕ) (tail : List ℕ) → AreBytes tail → length tail ≤ most → tail_of most (written_field tail) ≡ Some tail
unfolding tail_of encode_with
tail_again most [] h few = refl
tail_again most (b ∷ tail) h few =
    let n = length-encode_with lower_digits tail in
    digits_read most (high_digit b) (low_digit b) (encode_lower tail) (omega (arith, n)) ∙ pairs_again (b ∷ tail) h

pub record Tail (most : ℕ) (text tail : List ℕ) : Type 0 where
  pub fits : AreBytes tail
  pub few : length tail ≤ most
  pub written : text ≡ written_field tail

spelled : (x : ℕ) (text tail : List ℕ) → x ≡ 32 → (length text == 0) ≡ false → encode_lower tail ≡ text → x ∷ text ≡ written_field tail
unfolding encode_with
spelled x text [] space some w = absurd (let zero_long : length text ≡ 0 = ap length (sym w) in let not_zero = eqb-false (length text) 0 some in not_zero zero_long)
spelled x text (b ∷ tail) space some w = rw (space, ← w) refl

pub tail_read : (most : ℕ) (text tail : List ℕ) → tail_of most text ≡ Some tail → Tail most text tail
unfolding tail_of
tail_read most [] tail e = cc
tail_read most (x ∷ text) tail e = space (x == 32) refl e
  where
    counted : (bad : Bool) → ((length text == 0) || ltb (2 * most) (length text)) ≡ bad → x ≡ 32 → cond bad None (pairs_of text) ≡ Some tail → Tail most (x ∷ text) tail
    counted true eb ex e = cc
    counted false eb ex e =
        let p = pairs_read text tail e in
        let parts = or_parts (length text == 0) (ltb (2 * most) (length text)) eb in
        let few = ltb-false _ _ parts.1 in
        let n = length-encode_with lower_digits tail in
        let same = ap length p.written in
        record { fits = p.fits; few = omega (arith, n, same, few); written = spelled x text tail ex parts.0 p.written }

    dash : (t : Bool) → bytes_eq text (codes "-") ≡ t → x ≡ 32 → cond t (Some []) (cond ((length text == 0) || ltb (2 * most) (length text)) None (pairs_of text)) ≡ Some tail → Tail most (x ∷ text) tail
    dash true et ex e =
        let none : [] ≡ tail = cc in
        let is : text ≡ codes "-" = (bytes_eq-Decides text (codes "-")).0 et in
        subst (λ t. Tail most (x ∷ text) t) none (record { fits = tt; few = omega arith; written = rw (ex, is) refl })
    dash false et ex e = counted ((length text == 0) || ltb (2 * most) (length text)) refl ex e

    space : (t : Bool) → (x == 32) ≡ t → tail_behind most (cond t (Some text) None) ≡ Some tail → Tail most (x ∷ text) tail
    space false et e = cc
    space true et e = dash (bytes_eq text (codes "-")) refl (eqb-true x 32 et) e
