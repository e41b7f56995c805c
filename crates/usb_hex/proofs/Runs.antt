-- A text without four digits in a row has no columns.
use Rattle.std.proofs.Common.{◌≡◌, ℕ, ◌+◌, ◌-◌, ◌<◌, ◌≤◌, ◌==◌, ◌&&◌, ◌||◌, Bool, true, false, nat_le, not, if◌then◌else◌, List, [], ◌∷◌, Option, Some, None, drop, length, slice_index, take, refl, sym, ◌∙◌, arith}
use Rattle.std.proofs.lemmas.Bool.{leb-true}
use Rattle.std.proofs.lemmas.List.{take_all}
use Rattle.hex.specs.Hex.{is_hex_digit}
use Rattle.usb_hex.specs.Columns.{after_all, after_mark, after_one, at_start, begins_columns, columns_of, is_heading, is_offset, is_zero}
use Rattle.usb_hex.specs.inside.Runs.{has_run}

later_of : (a b : Bool) → (a || b) ≡ false → b ≡ false
later_of true b e = cc
later_of false b e = e

first_of : (a b : Bool) → (a || b) ≡ false → a ≡ false
first_of true b e = cc
first_of false b e = refl

never : (b : Bool) → (b && false) ≡ false
never true = refl
never false = refl

-- so it is of what is left after some characters
rest_has_none : (c : ℕ) (rest : List ℕ) → has_run (c ∷ rest) ≡ false → has_run rest ≡ false
unfolding has_run
rest_has_none c rest none = later_of (is_hex_digit c && is_hex_digit (slice_index rest 0) && is_hex_digit (slice_index rest 1) && is_hex_digit (slice_index rest 2)) (has_run rest) none

after_has_none : (test : ℕ → Bool) (text : List ℕ) → has_run text ≡ false → has_run (after_all test text) ≡ false
unfolding after_all
after_has_none test [] none = none
after_has_none test (c ∷ rest) none = by (test c) (after_has_none test rest (rest_has_none c rest none))
  where
    by : (b : Bool) → has_run (after_all test rest) ≡ false → has_run (if b then after_all test rest else c ∷ rest) ≡ false
    by true later = later
    by false later = none

one_has_none : (text : List ℕ) → has_run text ≡ false → has_run (after_one text) ≡ false
one_has_none [] none = none
one_has_none (c ∷ rest) none = rest_has_none c rest none

-- four characters of which the last is no digit begin no run
four_before : (a b c d : ℕ) (rest : List ℕ) → is_hex_digit d ≡ false → has_run (a ∷ b ∷ c ∷ d ∷ rest) ≡ has_run rest
unfolding has_run
four_before a b c d rest none =
    rw (none, never (is_hex_digit a && is_hex_digit b && is_hex_digit c), never (is_hex_digit b && is_hex_digit c), never (is_hex_digit c)) refl

pub four_on : (text : List ℕ) → 4 ≤ length text → is_hex_digit (slice_index text 3) ≡ false
    → has_run (take (length text - 4) (drop 4 text)) ≡ has_run text
four_on [] le none = absurd (omega (arith, le))
four_on (a ∷ []) le none = absurd (omega (arith, le))
four_on (a ∷ b ∷ []) le none = absurd (omega (arith, le))
four_on (a ∷ b ∷ c ∷ []) le none = absurd (omega (arith, le))
four_on (a ∷ b ∷ c ∷ d ∷ rest) le none =
    rw (take_all (length (a ∷ b ∷ c ∷ d ∷ rest) - 4) rest (omega arith)) (sym (four_before a b c d rest none))

mark_has_none : (text : List ℕ) → has_run text ≡ false → has_run (after_mark text) ≡ false
mark_has_none text none = by ((slice_index text 0 == 48) && (slice_index text 1 == 120)) (one_has_none (after_one text) (one_has_none text none))
  where
    by : (b : Bool) → has_run (after_one (after_one text)) ≡ false → has_run (if b then after_one (after_one text) else text) ≡ false
    by true later = later
    by false later = none

too_few : (left text : List ℕ) → length text < 4 + length left → nat_le (4 + length left) (length text) ≡ false
too_few left text lt = by (nat_le (4 + length left) (length text)) refl
  where
    by : (b : Bool) → nat_le (4 + length left) (length text) ≡ b → b ≡ false
    by true e = (let le = leb-true (4 + length left) (length text) e in absurd (omega (arith, le, lt)))
    by false e = refl

-- characters of a kind that are digits are fewer than four
module _ (test : ℕ → Bool) (digits : (c : ℕ) → test c ≡ true → is_hex_digit c ≡ true) where
  few : (text : List ℕ) → has_run text ≡ false → is_offset text (after_all test text) ≡ false
  unfolding after_all has_run
  few [] none = refl
  few (a ∷ []) none = by (test a)
    where
      by : (x : Bool) → nat_le (4 + length (if x then [] else a ∷ [])) 1 ≡ false
      by true = refl
      by false = refl
  few (a ∷ b ∷ []) none = by (test a) (test b)
    where
      by : (x y : Bool) → nat_le (4 + length (if x then (if y then [] else b ∷ []) else a ∷ b ∷ [])) 2 ≡ false
      by true true = refl
      by true false = refl
      by false y = refl
  few (a ∷ b ∷ c ∷ []) none = by (test a) (test b) (test c)
    where
      by : (x y z : Bool) → nat_le (4 + length (if x then (if y then (if z then [] else c ∷ []) else b ∷ c ∷ []) else a ∷ b ∷ c ∷ [])) 3 ≡ false
      by true true true = refl
      by true true false = refl
      by true false z = refl
      by false y z = refl
  few (a ∷ b ∷ c ∷ d ∷ rest) none = by (test a) refl (test b) refl (test c) refl (test d) refl
    where
      four : (w x y z : Bool) → w ≡ true → x ≡ true → y ≡ true → z ≡ true → (w && x && y && z) ≡ true
      four true true true true e f g h = refl
      four false x y z e f g h = cc
      four true false y z e f g h = cc
      four true true false z e f g h = cc
      four true true true false e f g h = cc

      by : (w : Bool) → test a ≡ w → (x : Bool) → test b ≡ x → (y : Bool) → test c ≡ y → (z : Bool) → test d ≡ z
          → nat_le (4 + length (if w then (if x then (if y then (if z then after_all test rest else d ∷ rest) else c ∷ d ∷ rest) else b ∷ c ∷ d ∷ rest) else a ∷ b ∷ c ∷ d ∷ rest)) (length (a ∷ b ∷ c ∷ d ∷ rest)) ≡ false
      by true e true f true g true h =
          let all = four (is_hex_digit a) (is_hex_digit b) (is_hex_digit c) (is_hex_digit d) (digits a e) (digits b f) (digits c g) (digits d h) in
          (let bad : true ≡ false = sym all ∙ first_of (is_hex_digit a && is_hex_digit b && is_hex_digit c && is_hex_digit d) (has_run (b ∷ c ∷ d ∷ rest)) none in cc)
      by true e true f true g false h = too_few (d ∷ rest) (a ∷ b ∷ c ∷ d ∷ rest) (omega arith)
      by true e true f false g z h = too_few (c ∷ d ∷ rest) (a ∷ b ∷ c ∷ d ∷ rest) (omega arith)
      by true e false f y g z h = too_few (b ∷ c ∷ d ∷ rest) (a ∷ b ∷ c ∷ d ∷ rest) (omega arith)
      by false e x f y g z h = too_few (a ∷ b ∷ c ∷ d ∷ rest) (a ∷ b ∷ c ∷ d ∷ rest) (omega arith)

zero_is_digit : (c : ℕ) → is_zero c ≡ true → is_hex_digit c ≡ true
zero_is_digit c is = grind arith

same : (c : ℕ) → is_hex_digit c ≡ true → is_hex_digit c ≡ true
same c is = is

no_offset : (text : List ℕ) → has_run text ≡ false → begins_columns text ≡ false
no_offset text none = rw (few is_zero zero_is_digit text none, few is_hex_digit same (after_mark text) (mark_has_none text none)) refl

skipped : (starts columns heading : Bool) (here later : Option (List ℕ)) → columns ≡ false → later ≡ None
    → (if starts && columns then here else if starts && not heading then None else later) ≡ None
skipped true true heading here later e none = cc
skipped true false true here later e none = none
skipped true false false here later e none = refl
skipped false columns heading here later e none = none

nowhere : (starts : Bool) (text : List ℕ) → has_run text ≡ false → columns_of starts text ≡ None
unfolding columns_of
nowhere starts [] none = refl
nowhere starts (c ∷ rest) none =
    skipped starts (begins_columns (at_start (c ∷ rest))) (is_heading (at_start (c ∷ rest))) (Some (at_start (c ∷ rest))) (columns_of (c == 10) rest)
    (no_offset (at_start (c ∷ rest)) (after_has_none _ (c ∷ rest) none)) (nowhere (c == 10) rest (rest_has_none c rest none))

pub no_columns : (text : List ℕ) → has_run text ≡ false → columns_of true text ≡ None
no_columns text none = nowhere true text none
