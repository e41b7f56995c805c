-- A hexadecimal text is apart from descriptors in its first two bytes.
use Rattle.std.proofs.Common.{◌≡◌, ℕ, suc, ◌+◌, ◌<◌, ◌&&◌, ◌||◌, ◌==◌, ◌⊎◌, Bool, true, false, cond, eqb, nat_le, List, [], ◌∷◌, length, slice_index, Option, Some, None, option_map, refl, sym, ap, subst, ◌∙◌, inl, inr, arith}
use Rattle.std.specs.List.{list_all}
use Rattle.std.proofs.lemmas.Bool.{and_parts, eqb-true, leb-true}
use Rattle.hex.specs.Hex.{hex_digit_value}
use Rattle.usb_hex.specs.declared.hex_text.Form.{Form}
use Rattle.usb_hex.specs.declared.hex_text.Form.TheVariants.{Plain, Words}
use Rattle.usb_text.specs.HexDigits.{joined}
use Rattle.usb_hex.specs.HexItems.{Item, is_gap, no_byte}
use Rattle.usb_hex.specs.Columns.{after_all, at_start, begins_zeros, column_form, ends_address, has_columns, is_blank, is_offset, is_zero}
use Rattle.usb_hex.specs.HexText.{Reads, begins_byte, begins_directive, bytes_of, digits_in, ends, form_of, goes_on, in_line, item, line_item, mark_or_byte, plain_item}
use Rattle.usb_hex.specs.TwoReadings.{has_offset_after, has_two_readings}
use Rattle.usb_hex.specs.Hexadecimal.{HexAsIs, IsApart, IsNoDescriptor, is_of_source}

-- nothing is read where no item begins
stuck : {form : Form} {count : ℕ} {text bytes left : List ℕ} → Reads form count text bytes left → item form count text ≡ None → left ≡ text
stuck (ends is) none = refl
stuck (goes_on is read) none = cc

abbrev left_of : Item → List ℕ
left_of None = []
left_of (Some p) = p.1

-- what is left after an item is read
moved : {form : Form} {count : ℕ} {text bytes left : List ℕ} (rest : List ℕ) → Reads form count text bytes left
    → item form count text ≡ Some (None, rest) → (later : ℕ) × (more : List ℕ) × Reads form later rest more left
moved rest (ends is) e = cc
moved {form = form} {count = count} {left = left} rest (goes_on {rest = tail} {bytes = more} {byte = byte} is read) e =
    let same : tail ≡ rest = ap left_of (sym is ∙ e) in
    (count + length (bytes_of byte), more, subst (λ (t : List ℕ). Reads form (count + length (bytes_of byte)) t more left) same read)

-- the characters that begin no item
eighteen : (count : ℕ) (rest : List ℕ) → item Plain count (18 ∷ rest) ≡ None
unfolding line_item plain_item mark_or_byte digits_in
eighteen count [] = refl
eighteen count (d ∷ rest) = refl

two : (count : ℕ) (rest : List ℕ) → item Plain count (2 ∷ rest) ≡ None
unfolding line_item plain_item mark_or_byte digits_in
two count [] = refl
two count (d ∷ rest) = refl

seven : (count : ℕ) (rest : List ℕ) → item Plain count (7 ∷ rest) ≡ None
unfolding line_item plain_item mark_or_byte digits_in
seven count [] = refl
seven count (d ∷ rest) = refl

abbrev paired : List ℕ → ℕ → Option ℕ × List ℕ
paired rest byte = (Some byte, rest)

-- before one that is no digit and no mark there is a gap or nothing
no_digits : (v : Option ℕ) (rest : List ℕ) → option_map (paired rest) (joined v None) ≡ None
no_digits (Some high) rest = refl
no_digits None rest = refl

no_mark : (m b : Bool) (taken : Item) (v : Option ℕ) (rest : List ℕ)
    → cond ((m && false) && b) taken (option_map (paired rest) (joined v None)) ≡ None
no_mark true b taken v rest = no_digits v rest
no_mark false b taken v rest = no_digits v rest

abbrev none_of : Option (List ℕ)
none_of = None

-- a line feed is an item where no offset could follow it
fed : (stops : Bool) (rest : List ℕ) → (option_map no_byte (cond stops none_of (Some rest)) ≡ Some (None, rest)) ⊎ (option_map no_byte (cond stops none_of (Some rest)) ≡ None)
fed true rest = inr refl
fed false rest = inl refl

gap_or_none : (a b : Bool) (taken other : Item) (rest : List ℕ) → (taken ≡ Some (None, rest)) ⊎ (taken ≡ None) → other ≡ None
    → (cond a taken (cond b (Some (None, rest)) other) ≡ Some (None, rest)) ⊎ (cond a taken (cond b (Some (None, rest)) other) ≡ None)
gap_or_none true b taken other rest is none = is
gap_or_none false true taken other rest is none = inl refl
gap_or_none false false taken other rest is none = inr none

before_two : (count c : ℕ) (rest : List ℕ) → (item Plain count (c ∷ 2 ∷ rest) ≡ Some (None, 2 ∷ rest)) ⊎ (item Plain count (c ∷ 2 ∷ rest) ≡ None)
unfolding line_item plain_item mark_or_byte digits_in
before_two count c rest = gap_or_none (c == 10) (is_gap c) _ _ (2 ∷ rest) (fed (has_offset_after count (2 ∷ rest)) (2 ∷ rest)) (no_mark ((c == 48) || (c == 92)) (begins_byte rest) (Some (None, rest)) (hex_digit_value c) rest)

before_seven : (count c : ℕ) (rest : List ℕ) → (item Plain count (c ∷ 7 ∷ rest) ≡ Some (None, 7 ∷ rest)) ⊎ (item Plain count (c ∷ 7 ∷ rest) ≡ None)
unfolding line_item plain_item mark_or_byte digits_in
before_seven count c rest = gap_or_none (c == 10) (is_gap c) _ _ (7 ∷ rest) (fed (has_offset_after count (7 ∷ rest)) (7 ∷ rest)) (no_mark ((c == 48) || (c == 92)) (begins_byte rest) (Some (None, rest)) (hex_digit_value c) rest)

not_whole : (c : ℕ) (rest : List ℕ) → [] ≡ c ∷ rest → ⊥
not_whole c rest e = cc

second : (c d : ℕ) (rest bytes : List ℕ) → Reads Plain 0 (c ∷ d ∷ rest) bytes [] → ((count : ℕ) → item Plain count (d ∷ rest) ≡ None)
    → (item Plain 0 (c ∷ d ∷ rest) ≡ Some (None, d ∷ rest)) ⊎ (item Plain 0 (c ∷ d ∷ rest) ≡ None) → ⊥
second c d rest bytes read none (inl gap) =
    let later = moved (d ∷ rest) read gap in
    not_whole d rest (stuck later.2 (none later.0))
second c d rest bytes read none (inr stops) = not_whole c (d ∷ rest) (stuck read stops)

plain_apart : (text bytes : List ℕ) → Reads Plain 0 text bytes [] → IsApart text
plain_apart [] bytes read = record {
  device = λ e. (let no : 0 ≡ 18 = e in omega arith);
  configuration = λ e. (let no : 0 ≡ 2 = e in omega arith);
  other_speed = λ e. (let no : 0 ≡ 7 = e in omega arith);
}
plain_apart (c ∷ []) bytes read = record {
  device = λ e. not_whole c [] (stuck read (subst (λ (x : ℕ). item Plain 0 (x ∷ []) ≡ None) (sym e) (eighteen 0 [])));
  configuration = λ e. (let no : 0 ≡ 2 = e in omega arith);
  other_speed = λ e. (let no : 0 ≡ 7 = e in omega arith);
}
plain_apart (c ∷ d ∷ rest) bytes read = record {
  device = λ e. not_whole c (d ∷ rest) (stuck read (subst (λ (x : ℕ). item Plain 0 (x ∷ d ∷ rest) ≡ None) (sym e) (eighteen 0 (d ∷ rest))));
  configuration = λ e. second c 2 rest bytes (subst (λ (x : ℕ). Reads Plain 0 (c ∷ x ∷ rest) bytes []) e read) (λ count. two count rest) (before_two 0 c rest);
  other_speed = λ e. second c 7 rest bytes (subst (λ (x : ℕ). Reads Plain 0 (c ∷ x ∷ rest) bytes []) e read) (λ count. seven count rest) (before_seven 0 c rest);
}

-- an offset of zeros begins with two
is_short : (text : List ℕ) → nat_le (4 + length text) (length text) ≡ true → ⊥
is_short text e = let le = leb-true (4 + length text) (length text) e in omega (arith, le)

is_short_one : (c : ℕ) (text : List ℕ) → nat_le (4 + length text) (length (c ∷ text)) ≡ true → ⊥
is_short_one c text e = let le = leb-true (4 + length text) (suc (length text)) e in omega (arith, le)

pub zeros : (text : List ℕ) → is_offset text (after_all is_zero text) ≡ true → (slice_index text 0 ≡ 48) × (slice_index text 1 ≡ 48)
unfolding after_all
zeros [] e = absurd (is_short [] e)
zeros (c ∷ []) e = absurd (by (eqb c 48) e)
  where
    by : (b : Bool) → nat_le (4 + length (cond b [] (c ∷ []))) 1 ≡ true → ⊥
    by true e = let bad : false ≡ true = e in cc
    by false e = let bad : false ≡ true = e in cc
zeros (c ∷ d ∷ rest) e = by (eqb c 48) refl (eqb d 48) refl e
  where
    by : (a : Bool) → eqb c 48 ≡ a → (b : Bool) → eqb d 48 ≡ b
        → nat_le (4 + length (cond a (cond b (after_all is_zero rest) (d ∷ rest)) (c ∷ d ∷ rest))) (length (c ∷ d ∷ rest)) ≡ true
        → (c ≡ 48) × (d ≡ 48)
    by true one true other e = (eqb-true c 48 one, eqb-true d 48 other)
    by true one false other e = absurd (is_short_one c (d ∷ rest) e)
    by false one b other e = absurd (is_short (c ∷ d ∷ rest) e)

offset_apart : (text : List ℕ) → is_offset text (after_all is_zero text) ≡ true → IsApart text
offset_apart text e =
    let at = zeros text e in
    record {
      device = λ is. (let no : 48 ≡ 18 = sym at.0 ∙ is in omega arith);
      configuration = λ is. (let no : 48 ≡ 2 = sym at.1 ∙ is in omega arith);
      other_speed = λ is. (let no : 48 ≡ 7 = sym at.1 ∙ is in omega arith);
    }

-- nothing is read of words
no_words : (text bytes : List ℕ) → Reads Words 0 text bytes [] → 0 < length bytes → ⊥
no_words text bytes (ends is) some = omega (arith, some)
no_words text bytes (goes_on is read) some = cc

as_is_apart : (text bytes : List ℕ) → HexAsIs text bytes → IsApart text
unfolding form_of
as_is_apart text bytes hex = by (begins_zeros text) refl (has_columns text || has_two_readings text || begins_directive (at_start text)) hex.read hex.some
  where
    by : (b : Bool) → begins_zeros text ≡ b → (w : Bool)
        → (let form = cond b (column_form text) (cond w Words Plain) in Reads form 0 (in_line form text) bytes []) → 0 < length bytes → IsApart text
    by true is w read some = offset_apart text (and_parts (is_offset text (after_all is_zero text)) (ends_address (after_all is_zero text) || is_blank (slice_index (after_all is_zero text) 0)) is).0
    by false is true read some = absurd (no_words text bytes read some)
    by false is false read some = plain_apart text bytes read

-- a source has none of these characters
no_character : (c other : ℕ) → is_of_source c ≡ true → is_of_source other ≡ false → c ≡ other → ⊥
no_character c other is none e = (let bad : true ≡ false = sym is ∙ ap is_of_source e ∙ none in cc)

source_apart : (text : List ℕ) → list_all is_of_source text ≡ true → IsApart text
source_apart [] h = record {
  device = λ e. (let no : 0 ≡ 18 = e in omega arith);
  configuration = λ e. (let no : 0 ≡ 2 = e in omega arith);
  other_speed = λ e. (let no : 0 ≡ 7 = e in omega arith);
}
source_apart (c ∷ []) h = record {
  device = λ e. no_character c 18 (and_parts (is_of_source c) true h).0 refl e;
  configuration = λ e. (let no : 0 ≡ 2 = e in omega arith);
  other_speed = λ e. (let no : 0 ≡ 7 = e in omega arith);
}
source_apart (c ∷ d ∷ rest) h =
    let parts = and_parts (is_of_source c) (list_all is_of_source (d ∷ rest)) h in
    let second = and_parts (is_of_source d) (list_all is_of_source rest) parts.1 in
    record {
      device = λ e. no_character c 18 parts.0 refl e;
      configuration = λ e. no_character d 2 second.0 refl e;
      other_speed = λ e. no_character d 7 second.0 refl e;
    }

pub apart : IsNoDescriptor
apart text bytes (inl hex) = as_is_apart text bytes hex
apart text bytes (inr source) = source_apart text source.characters
