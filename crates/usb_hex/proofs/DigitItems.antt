-- Items that begin with a digit.
use Rattle.std.proofs.Common.{◌≡◌, ℕ, ◌-◌, ◌<◌, ◌≤◌, ◌==◌, ◌||◌, ◌&&◌, Bool, true, false, if◌then◌else◌, List, [], ◌∷◌, Option, Some, None, is_some, length, take, drop, slice_index, arith, refl, ap, sym, ◌∙◌}
use Rattle.std.proofs.lemmas.Bool.{eqb-true}
use Rattle.std.proofs.lemmas.List.{take_all}
use Rattle.hex.specs.Hex.{hex_digit_value, is_hex_digit}
use Rattle.usb_hex.specs.declared.hex_text.Form.{Form}
use Rattle.usb_hex.specs.declared.hex_text.Form.TheVariants.{Plain, Words, Colons, Spaces, Rows, Groups, Addresses, Named, Literal, Source}
use Rattle.usb_hex.specs.Columns.{is_too_long}
use Rattle.usb_text.specs.HexDigits.{byte_of, joined}
use Rattle.usb_hex.specs.HexItems.{Item}
use Rattle.usb_hex.specs.HexText.{begins_byte, digits_in, has_characters, is_mark, line_item, mark_or_byte, plain_item}

-- a digit is no character that is none
pub apart : (c other : ℕ) → is_hex_digit c ≡ true → is_hex_digit other ≡ false → (c == other) ≡ false
apart c other is none = by (c == other) refl
  where
    by : (b : Bool) → (c == other) ≡ b → b ≡ false
    by true e = (let bad : true ≡ false = sym is ∙ ap is_hex_digit (eqb-true c other e) ∙ none in cc)
    by false e = refl

no_characters : (form : Form) (count c : ℕ) (rest : List ℕ) → is_hex_digit c ≡ true → has_characters form count (c ∷ rest) ≡ false
no_characters Plain count c rest is = refl
no_characters Words count c rest is = refl
no_characters Colons count c rest is = rw (apart c 32 is refl) refl
no_characters Spaces count c rest is = rw (apart c 124 is refl, apart c 32 is refl) refl
no_characters Rows count c rest is = rw (apart c 32 is refl, apart c 9 is refl) refl
no_characters Groups count c rest is = rw (apart c 32 is refl) refl
no_characters (Addresses base) count c rest is = rw (apart c 32 is refl) refl
no_characters Named count c rest is = rw (apart c 32 is refl) refl
no_characters (Literal quote) count c rest is = refl
no_characters (Source style) count c rest is = refl

-- what is left after the first character of a text that has one
abbrev pub after_first : List ℕ → List ℕ
after_first text = take (length text - 1) (drop 1 text)

rest_is : (c : ℕ) (rest : List ℕ) → after_first (c ∷ rest) ≡ rest
rest_is c rest = take_all (length (c ∷ rest) - 1) rest (omega arith)

-- neither characters nor a gap begin with a digit
pub digit_first : (form : Form) (count : ℕ) (text : List ℕ) → 1 ≤ length text → is_hex_digit (slice_index text 0) ≡ true
    → line_item form count text ≡ mark_or_byte form (slice_index text 0) (after_first text)
unfolding line_item plain_item
digit_first form count [] some is = absurd (omega (arith, some))
digit_first form count (c ∷ rest) some is =
    rw (
      rest_is c rest,
      no_characters form count c rest is,
      apart c 10 is refl,
      apart c 9 is refl,
      apart c 13 is refl,
      apart c 32 is refl,
      apart c 44 is refl,
    )
    refl

abbrev pub none_left : Item
none_left = None

low_is_digit : (high low : Option ℕ) (byte : ℕ) → joined high low ≡ Some byte → is_some low ≡ true
low_is_digit (Some high) (Some low) byte e = refl
low_is_digit (Some high) None byte e = cc
low_is_digit None low byte e = cc

never : (a b : Bool) → ((a && false) && b) ≡ false
never true b = refl
never false b = refl

-- a mark is no two digits
pub byte_first : (form : Form) (c : ℕ) (text : List ℕ) (byte : ℕ) → 1 ≤ length text → byte_of c (slice_index text 0) ≡ Some byte
    → mark_or_byte form c text ≡ (if is_too_long form (after_first text) then none_left else Some (Some byte, after_first text))
unfolding mark_or_byte digits_in
byte_first form c [] byte some e = absurd (omega (arith, some))
byte_first form c (d ∷ rest) byte some e =
    let is = low_is_digit (hex_digit_value c) (hex_digit_value d) byte e in
    rw (rest_is d rest, apart d 120 is refl, never ((c == 48) || (c == 92)) (begins_byte rest), e) refl

pub mark_first : (form : Form) (c : ℕ) (text : List ℕ) → 1 ≤ length text → byte_of c (slice_index text 0) ≡ None
    → mark_or_byte form c text ≡ (if is_mark c (slice_index text 0) && begins_byte (after_first text) then Some (None, after_first text) else none_left)
unfolding mark_or_byte digits_in
mark_first form c [] some e = absurd (omega (arith, some))
mark_first form c (d ∷ rest) some e = rw (rest_is d rest, e) (by (is_mark c d && begins_byte rest) (is_too_long form rest))
  where
    by : (marks long : Bool) → (if marks then Some (None, rest) else (if long then none_left else none_left)) ≡ (if marks then Some (None, rest) else none_left)
    by true long = refl
    by false true = refl
    by false false = refl

pub none_first : (form : Form) (c : ℕ) (text : List ℕ) → length text < 1 → mark_or_byte form c text ≡ None
unfolding mark_or_byte
none_first form c [] short = refl
none_first form c (d ∷ rest) short = absurd (omega (arith, short))
