-- A text that begins with no item is not hexadecimal as it is.
use Rattle.std.proofs.Common.{◌≡◌, ℕ, ◌-◌, ◌==◌, ◌||◌, ◌⊎◌, Bool, true, false, cond, if◌then◌else◌, not, List, [], ◌∷◌, length, slice_index, Option, Some, None, is_some, option_map, refl, sym, ap, subst, ◌∙◌, inl, inr}
use Rattle.std.proofs.lemmas.Bool.{and_parts, eqb-true}
use Rattle.hex.specs.Hex.{hex_digit_value, is_hex_digit}
use Rattle.usb_hex.specs.declared.hex_text.Form.TheVariants.{Plain, Words}
use Rattle.usb_hex.specs.declared.hex_text.HexFault.{HexFault}
use Rattle.usb_hex.specs.declared.hex_text.HexFault.TheVariants as faults
use Rattle.usb_hex.specs.Columns.{after_all, at_start, begins_zeros, column_form, ends_address, has_columns, is_blank, is_offset, is_zero}
use Rattle.usb_text.specs.HexDigits.{joined}
use Rattle.usb_hex.specs.HexItems.{Item, is_gap, no_byte}
use Rattle.usb_hex.specs.HexText.{Reads, begins_directive, digits_in, ends, form_of, goes_on, item, line_item, mark_or_byte, plain_item}
use Rattle.usb_hex.specs.Hexadecimal.{FaultyAsIs, FaultyIn, HexIn, HexRefused, HexText, fault_at, is_source, source_form, source_of}
use Rattle.usb_hex.specs.TwoReadings.{has_offset_after, has_two_readings}
use Rattle.usb_hex.specs.inside.NoItems.{begins_no_item, begins_nothing}
use Rattle.usb_hex.proofs.Apart.{zeros}

abbrev none_of : Option (List ℕ)
none_of = None

fed : (stops : Bool) (rest : List ℕ) → (option_map no_byte (cond stops none_of (Some rest)) ≡ Some (None, rest)) ⊎ (option_map no_byte (cond stops none_of (Some rest)) ≡ None)
fed true rest = inr refl
fed false rest = inl refl

-- a gap is an item, or stops a text
gap : (c : ℕ) (rest : List ℕ) → is_gap c ≡ true → (item Plain 0 (c ∷ rest) ≡ Some (None, rest)) ⊎ (item Plain 0 (c ∷ rest) ≡ None)
unfolding line_item plain_item
gap c rest is = by (c == 10) (is_gap c) is (fed (has_offset_after 0 rest) rest)
  where
    taken : Item
    taken = option_map no_byte (cond (has_offset_after 0 rest) none_of (Some rest))

    by : (a b : Bool) → b ≡ true → (taken ≡ Some (None, rest)) ⊎ (taken ≡ None)
        → (cond a taken (cond b (Some (None, rest)) (mark_or_byte Plain c rest)) ≡ Some (None, rest)) ⊎ (cond a taken (cond b (Some (None, rest)) (mark_or_byte Plain c rest)) ≡ None)
    by true b e feed = feed
    by false true e feed = inl refl
    by false false e feed = cc

abbrev paired : List ℕ → ℕ → Option ℕ × List ℕ
paired rest byte = (Some byte, rest)

no_value : (v w : Option ℕ) (rest : List ℕ) → is_some v ≡ false → option_map (paired rest) (joined v w) ≡ None
no_value (Some high) w rest e = cc
no_value None w rest e = refl

-- nothing begins with another character
no_byte_there : (c : ℕ) (rest : List ℕ) → (c == 48) ≡ false → (c == 92) ≡ false → is_hex_digit c ≡ false → mark_or_byte Plain c rest ≡ None
unfolding mark_or_byte digits_in
no_byte_there c [] zero slash none = refl
no_byte_there c (d ∷ rest) zero slash none = rw (zero, slash) (no_value (hex_digit_value c) (hex_digit_value d) rest none)

neither_of : (a b : Bool) (taken here there : Item) → a ≡ false → b ≡ false → there ≡ None → cond a taken (cond b here there) ≡ None
neither_of true b taken here there e f none = cc
neither_of false true taken here there e f none = cc
neither_of false false taken here there e f none = none

other : (c : ℕ) (rest : List ℕ) → (c == 10) ≡ false → is_gap c ≡ false → mark_or_byte Plain c rest ≡ None → item Plain 0 (c ∷ rest) ≡ None
unfolding line_item plain_item
other c rest feed is none = neither_of (c == 10) (is_gap c) _ (Some (None, rest)) (mark_or_byte Plain c rest) feed is none

-- a character for which a test fails is another than one for which it holds
unlike : (test : ℕ → Bool) (c other : ℕ) → test c ≡ false → test other ≡ true → (c == other) ≡ false
unlike test c other fails holds = by (c == other) refl
  where
    by : (b : Bool) → (c == other) ≡ b → b ≡ false
    by true e = (let bad : true ≡ false = sym holds ∙ ap test (sym (eqb-true c other e)) ∙ fails in cc)
    by false e = refl

neither : (a b : Bool) → not (a || b) ≡ true → (a ≡ false) × (b ≡ false)
neither true b e = cc
neither false true e = cc
neither false false e = (refl, refl)

-- the gaps of such a text are read, and no byte
reads_gaps : (text : List ℕ) → begins_no_item text ≡ true → (left : List ℕ) × Reads Plain 0 text [] left
unfolding after_all line_item
reads_gaps [] h = ([], ends refl)
reads_gaps (c ∷ rest) h = by (is_gap c) refl h (reads_gaps rest)
  where
    on : (item Plain 0 (c ∷ rest) ≡ Some (None, rest)) ⊎ (item Plain 0 (c ∷ rest) ≡ None) → (left : List ℕ) × Reads Plain 0 rest [] left
        → (left : List ℕ) × Reads Plain 0 (c ∷ rest) [] left
    on (inl is) later = (later.0, goes_on is later.1)
    on (inr stops) later = (c ∷ rest, ends stops)

    stop : (is_gap c ≡ false) → (is_hex_digit c ≡ false) × ((c == 92) ≡ false) → item Plain 0 (c ∷ rest) ≡ None
    stop is none = other c rest (unlike is_gap c 10 is refl) is (no_byte_there c rest (unlike is_hex_digit c 48 none.0 refl) none.1 none.0)

    by : (b : Bool) → is_gap c ≡ b → begins_nothing (if b then after_all is_gap rest else c ∷ rest) ≡ true
        → (begins_no_item rest ≡ true → (left : List ℕ) × Reads Plain 0 rest [] left) → (left : List ℕ) × Reads Plain 0 (c ∷ rest) [] left
    by true is none later = on (gap c rest is) (later none)
    by false is none later = (c ∷ rest, ends (stop is (neither (is_hex_digit c) (c == 92) none)))

-- it begins with no offset
first_digit : (text : List ℕ) → begins_no_item text ≡ true → slice_index text 0 ≡ 48 → ⊥
unfolding after_all
first_digit [] h is = cc
first_digit (c ∷ rest) h is = (let bad : false ≡ true = subst (λ (d : ℕ). begins_no_item (d ∷ rest) ≡ true) is h in cc)

pub no_item_as_it_is : (text : List ℕ) → begins_no_item text ≡ true → (fault : HexFault) × FaultyAsIs text fault
unfolding form_of
no_item_as_it_is text h = by (begins_zeros text) refl (has_columns text || has_two_readings text || begins_directive (at_start text)) (reads_gaps text h)
  where
    by : (b : Bool) → begins_zeros text ≡ b → (w : Bool) → (left : List ℕ) × Reads Plain 0 text [] left
        → (fault : HexFault) × FaultyIn (cond b (column_form text) (cond w Words Plain)) text text fault
    by true is w gaps = absurd (first_digit text h (zeros text (and_parts (is_offset text (after_all is_zero text)) (ends_address (after_all is_zero text) || is_blank (slice_index (after_all is_zero text) 0)) is).0).0)
    by false is true gaps = (fault_at text (length text - length text), record { bytes = []; left = text; read = ends refl; wrong = inr refl; place = refl })
    by false is false gaps = (fault_at text (length text - length gaps.0), record { bytes = []; left = gaps.0; read = gaps.1; wrong = inr refl; place = refl })

-- so it is read as a source
pub read_at_once : (text bytes : List ℕ) → begins_no_item text ≡ true → is_source text ≡ true → HexIn (source_form text) (source_of text) bytes → HexText text bytes
read_at_once text bytes h source is =
    let first = no_item_as_it_is text h in
    inr (record { fault = first.0; first = first.1; characters = source; is = is })

pub refused_at_once : (text : List ℕ) (fault : HexFault) → begins_no_item text ≡ true → is_source text ≡ true
    → (fault ≡ faults.Memory) ⊎ FaultyIn (source_form text) text (source_of text) fault → HexRefused text fault
refused_at_once text fault h source (inl memory) = inl memory
refused_at_once text fault h source (inr faulty) =
    let first = no_item_as_it_is text h in
    inr (inr (record { before = first.0; first = first.1; characters = source; is = faulty }))
