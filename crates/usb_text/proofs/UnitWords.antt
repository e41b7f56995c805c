-- Units of strings in lines.
use Rattle.std.proofs.Common.{◌≡◌, ℕ, ◌+◌, ◌/◌, ◌%◌, ◌<◌, ◌≤◌, ◌&&◌, nat_le, nat_lt, not, Bool, true, false, cond, count_by, List, [], ◌∷◌, ◌++◌, refl, ◌∙◌, arith}
use Rattle.std.specs.Char.{encode_utf8}
use Rattle.std.specs.Char.Utf16.{is_high_surrogate, is_low_surrogate, surrogate_pair_char}
use Rattle.std.specs.List.{flat_map, list_all, list_any}
use Rattle.std.proofs.lemmas.Bool.{and_parts, leb-true}
use Rattle.std.proofs.lemmas.Bool.Decides.{nat_tests}
use Rattle.std.proofs.lemmas.List.Folds.{list_all-append}
use Rattle.usb_fields.specs.Bytes.{AreBytes}
use Rattle.usb_text.specs.Characters.{character_words, has_code, hidden, is_shown, one_words, pair_words, shown_words, units_in, units_words, written_unit}
use Rattle.usb_text.specs.Lines.{is_line_feed}
use Rattle.usb_text.specs.Written.{is_of_line, is_of_lines, is_words}
use Rattle.usb_text.specs.inside.Units.{AreUnits}
use Rattle.usb_text.proofs.LineWords.{put_counts, put_fits, words_of_line}
use Rattle.usb_text.proofs.Printables.{joined, unit_printable}

abbrev OfLine : List ℕ → Type 0
OfLine xs = list_all (is_of_line true) xs ≡ true

of_line_joined : (xs ys : List ℕ) → OfLine xs → OfLine ys → OfLine (xs ++ ys)
of_line_joined xs ys h k = list_all-append (is_of_line true) xs ys ∙ rw (h, k) refl

-- a character beyond ASCII, as UTF-8
beyond : (x : ℕ) → 128 ≤ x → is_of_line true x ≡ true
beyond x h = grind (arith, nat_tests)

one_beyond : (x : ℕ) (xs : List ℕ) → 128 ≤ x → OfLine xs → OfLine (x ∷ xs)
one_beyond x xs h k = rw (beyond x h, k) refl

chosen : (b : Bool) (xs ys : List ℕ) → OfLine xs → OfLine ys → OfLine (cond b xs ys)
chosen true xs ys h k = h
chosen false xs ys h k = k

-- the bytes of a character after its first, and those before them
abbrev further : ℕ → ℕ
further bits = 128 + bits % 64

further_beyond : (bits : ℕ) (xs : List ℕ) → OfLine xs → OfLine (further bits ∷ xs)
further_beyond bits xs h = one_beyond (further bits) xs (omega arith) h

encoded : (c : ℕ) → 128 ≤ c → OfLine (encode_utf8 c)
unfolding encode_utf8
encoded c h =
    let last : OfLine (further c ∷ []) = further_beyond c [] refl in
    let two : OfLine (further (c / 64) ∷ further c ∷ []) = further_beyond (c / 64) (further c ∷ []) last in
    let three : OfLine (further (c / 4096) ∷ further (c / 64) ∷ further c ∷ []) = further_beyond (c / 4096) (further (c / 64) ∷ further c ∷ []) two in
    chosen (nat_lt c 128) (c ∷ []) _ (one_beyond c [] h refl)
    (chosen (nat_lt c 2048) ((192 + c / 64) ∷ further c ∷ []) _ (one_beyond (192 + c / 64) (further c ∷ []) (omega arith) last)
    (chosen (nat_lt c 65536) ((224 + c / 4096) ∷ further (c / 64) ∷ further c ∷ []) ((240 + c / 262144) ∷ further (c / 4096) ∷ further (c / 64) ∷ further c ∷ [])
    (one_beyond (224 + c / 4096) (further (c / 64) ∷ further c ∷ []) (omega arith) two)
    (one_beyond (240 + c / 262144) (further (c / 4096) ∷ further (c / 64) ∷ further c ∷ []) (omega arith) three)))

above_ascii : (code : ℕ) → is_shown code ≡ true → 128 ≤ code
unfolding is_shown
above_ascii code h =
    let low = (and_parts (nat_le 0xA1 code) (nat_lt code 0xE_0000) (and_parts (nat_le 0xA1 code && nat_lt code 0xE_0000) (nat_lt (code % 0x1_0000) 0xFFFE) (and_parts (nat_le 0xA1 code && nat_lt code 0xE_0000 && nat_lt (code % 0x1_0000) 0xFFFE) (not (list_any (has_code code) hidden)) h).0).0).0 in
    let at = leb-true 0xA1 code low in omega (arith, at)

-- units as in a listing
escaped : (units : List ℕ) → AreUnits units → is_words (flat_map written_unit units) ≡ true
escaped [] h = refl
escaped (u ∷ us) h = joined (written_unit u) (flat_map written_unit us) (unit_printable u h.0) (escaped us h.1)

-- units with the characters beyond ASCII that are shown
character : (code : ℕ) (units : List ℕ) → AreUnits units → OfLine (character_words code units)
character code units h = cases (is_shown code) refl
  where
    cases : (b : Bool) → is_shown code ≡ b → OfLine (cond b (encode_utf8 code) (flat_map written_unit units))
    cases true is = encoded code (above_ascii code is)
    cases false is = words_of_line true (flat_map written_unit units) (escaped units h)

one_of_line : (unit : ℕ) → unit < 65536 → OfLine (one_words unit)
unfolding one_words
one_of_line unit lt = character unit (unit ∷ []) (lt, tt)

shown_of_line : (units : List ℕ) → AreUnits units → OfLine (shown_words units)
unfolding shown_words pair_words
shown_of_line [] h = refl
shown_of_line (unit ∷ []) h = one_of_line unit h.0
shown_of_line (unit ∷ next ∷ rest) h =
    chosen (is_high_surrogate unit && is_low_surrogate next) _ _
    (of_line_joined (pair_words unit next) (shown_words rest) (character (surrogate_pair_char unit next) (unit ∷ next ∷ []) (h.0, (h.1.0, tt))) (shown_of_line rest h.1.1))
    (of_line_joined (one_words unit) (shown_words (next ∷ rest)) (one_of_line unit h.0) (shown_of_line (next ∷ rest) h.1))

pub units_of_line : (utf8 : Bool) (units : List ℕ) → AreUnits units → list_all (is_of_line utf8) (units_words utf8 units) ≡ true
units_of_line true units h = shown_of_line units h
units_of_line false units h = words_of_line false (flat_map written_unit units) (escaped units h)

-- the units of bytes
pub units_of_bytes : (b : List ℕ) → AreBytes b → AreUnits (units_in b)
units_of_bytes [] h = tt
units_of_bytes (low ∷ []) h = tt
units_of_bytes (low ∷ high ∷ rest) h = (omega (arith, h.0, h.1.0), units_of_bytes rest h.1.1)

-- lines, with units put after them
pub units_fit : (utf8 : Bool) (old units : List ℕ) → list_all (is_of_lines utf8) old ≡ true → AreUnits units
    → list_all (is_of_lines utf8) (old ++ units_words utf8 units) ≡ true
units_fit utf8 old units h k = put_fits utf8 old (units_words utf8 units) h (units_of_line utf8 units k)

pub units_count : (utf8 : Bool) (old units : List ℕ) → AreUnits units → count_by is_line_feed (old ++ units_words utf8 units) ≡ count_by is_line_feed old
units_count utf8 old units k = put_counts utf8 old (units_words utf8 units) (units_of_line utf8 units k)
