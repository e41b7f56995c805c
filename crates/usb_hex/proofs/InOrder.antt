-- Lines whose characters are in order, one after another.
use Rattle.std.proofs.Common.{◌≡◌, ℕ, zero, suc, ◌-◌, ◌<◌, ◌||◌, ◌&&◌, ◌==◌, Bool, true, false, if◌then◌else◌, List, [], ◌∷◌, Some, None, slice_index, refl, ap, ◌∙◌, arith}
use Rattle.hex.specs.Hex.{is_hex_digit}
use Rattle.usb_hex.specs.Columns.{after_offset, after_one, are_in_order, characters_of, ends_bytes, has_two_spaces, in_order, line_order, next_line, or_later, order_of, tells}
use Rattle.usb_text.specs.HexDigits.{byte_of}

-- the first one, and those after it
pub next_in_order : (lines : ℕ) (text : List ℕ) → 0 < lines
    → are_in_order lines text ≡ in_order (line_order (after_offset text)) (are_in_order (lines - 1) (next_line text))
unfolding are_in_order
next_in_order zero text some = absurd (omega (arith, some))
next_in_order (suc lines) text some =
    let left : suc lines - 1 ≡ lines = omega arith in
    rw (left) refl

-- the characters of a line whose bytes go on
pub characters_on : (c : ℕ) (rest : List ℕ) → ends_bytes c rest ≡ false → characters_of (c ∷ rest) ≡ characters_of rest
unfolding characters_of
characters_on c rest on = by (c == 10) (has_two_spaces (c ∷ rest)) (slice_index (c ∷ rest) 2 == 32) on
  where
    by : (feed two third : Bool) → (feed || two) ≡ false
        → (if feed || (two && third) then [] else if two then after_one rest else characters_of rest) ≡ characters_of rest
    by true two third e = cc
    by false true third e = cc
    by false false third e = refl

-- and of one whose bytes end with characters after them
pub characters_at : (c : ℕ) (rest : List ℕ) → ends_bytes c rest ≡ true → ((c == 10) || (has_two_spaces (c ∷ rest) && (slice_index (c ∷ rest) 2 == 32))) ≡ false
    → characters_of (c ∷ rest) ≡ after_one rest
unfolding characters_of
characters_at c rest ends shown = by (c == 10) (has_two_spaces (c ∷ rest)) (slice_index (c ∷ rest) 2 == 32) ends shown
  where
    by : (feed two third : Bool) → (feed || two) ≡ true → (feed || (two && third)) ≡ false
        → (if feed || (two && third) then [] else if two then after_one rest else characters_of rest) ≡ after_one rest
    by true two third e f = cc
    by false true true e f = cc
    by false true false e f = refl
    by false false third e f = cc

-- ---- a line's bytes, one after another

any_high : (high : ℕ) (rest shown : List ℕ) → order_of false high rest shown ≡ order_of false 0 rest shown
unfolding order_of
any_high high [] shown = refl
any_high high (c ∷ rest) shown = refl

pub order_ends : (c : ℕ) (rest shown : List ℕ) → ends_bytes c rest ≡ true → order_of false 0 (c ∷ rest) shown ≡ None
unfolding order_of
order_ends c rest shown ends = rw ends refl

pub order_on : (c : ℕ) (rest shown : List ℕ) → ends_bytes c rest ≡ false → is_hex_digit c ≡ false
    → order_of false 0 (c ∷ rest) shown ≡ order_of false 0 rest shown
unfolding order_of
order_on c rest shown on none = rw (on, none) (any_high c rest shown)

pub order_alone : (c : ℕ) (shown : List ℕ) → ends_bytes c [] ≡ false → is_hex_digit c ≡ true → order_of false 0 (c ∷ []) shown ≡ None
unfolding order_of
order_alone c shown on digit = rw on refl

pub order_stops : (c d : ℕ) (rest shown : List ℕ) → ends_bytes c (d ∷ rest) ≡ false → is_hex_digit c ≡ true → ends_bytes d rest ≡ true
    → order_of false 0 (c ∷ d ∷ rest) shown ≡ None
unfolding order_of
order_stops c d rest shown on digit ends = rw (on, digit, ends) refl

order_at : (c d : ℕ) (rest shown : List ℕ) → ends_bytes c (d ∷ rest) ≡ false → is_hex_digit c ≡ true → ends_bytes d rest ≡ false
    → order_of false 0 (c ∷ d ∷ rest) shown ≡ or_later (tells (byte_of c d) (slice_index shown 0)) (order_of false 0 rest (after_one shown))
unfolding order_of
order_at c d rest shown on digit goes =
    rw (on, digit, goes) (ap (or_later (tells (byte_of c d) (slice_index shown 0))) (any_high d rest (after_one shown)))

pub order_reported : (c d : ℕ) (rest shown : List ℕ) (is : Bool) → ends_bytes c (d ∷ rest) ≡ false → is_hex_digit c ≡ true → ends_bytes d rest ≡ false
    → tells (byte_of c d) (slice_index shown 0) ≡ Some is → order_of false 0 (c ∷ d ∷ rest) shown ≡ Some is
order_reported c d rest shown is on digit goes report = order_at c d rest shown on digit goes ∙ rw report refl

pub order_next : (c d : ℕ) (rest shown : List ℕ) → ends_bytes c (d ∷ rest) ≡ false → is_hex_digit c ≡ true → ends_bytes d rest ≡ false
    → tells (byte_of c d) (slice_index shown 0) ≡ None → order_of false 0 (c ∷ d ∷ rest) shown ≡ order_of false 0 rest (after_one shown)
order_next c d rest shown on digit goes report = order_at c d rest shown on digit goes ∙ rw report refl
