-- What is read of a line is what the line says.
use Rattle.std.proofs.Common.{◌≡◌, ◌≢◌, ℕ, ◌+◌, ◌≤◌, ◌==◌, Bool, true, false, cond, List, [], ◌∷◌, ◌++◌, map, Option, Some, None, unwrap_or, length, drop, refl, ap, sym, ◌∙◌, subst, append_assoc, length-append, arith, codes}
use Rattle.std.specs.Prelude.{option_and_then}
use Rattle.std.specs.List.{AllByRecursion, flat_map}
use Rattle.std.specs.Option.{option_map}
use Rattle.std.proofs.lemmas.Bool.{eqb-true}
use Rattle.usb_fields.specs.Bytes.{AreBytes, little_endian}
use Rattle.usb_fields.specs.Fields.{size_of}
use Rattle.usb_fields.specs.declared.field.Width.{Width}
use Rattle.usb_fields.specs.declared.field.Width.TheVariants.{One, Two}
use Rattle.usb_fields.specs.Units.{units_bytes}
use Rattle.usb_listing.specs.Table.{written_field, Row}
use Rattle.usb_text.specs.Characters.{two_bytes}
use Rattle.usb_listing.specs.Listing.{languages_line, string_line}
use Rattle.usb_listing.specs.declared.word.Word.{Word}
use Rattle.usb_listing.specs.declared.word.Word.TheVariants as words
use Rattle.usb_listing.specs.declared.word.ExtraWord.TheVariants as extra
use Rattle.usb_listing.specs.declared.row.Written.TheVariants as forms
use Rattle.usb_listing.specs.Words.{first_word, word_text}
use Rattle.usb_listing.specs.Says.{HasRow, IsItem, IsOfRow, Item, Says, fields, is_typed_raw, item_line, item_word, languages, row_for, string}
use Rattle.usb_listing.specs.inside.Fields.{bytes_in, values_from}
use Rattle.usb_listing.specs.inside.Rows.{word_in, before_quote, fields_in, in_quotes, item_in, item_of_line, languages_in, quoted, row_bytes, some_language, string_in, untyped}
use Rattle.usb_listing.proofs.RowLemmas.{body_text, whole_again, whole_read}
use Rattle.usb_fields.proofs.ByteParts.{bytes_append}
use Rattle.usb_listing.proofs.UnitLemmas.{IsUnit, values_again, values_are, written}
use Rattle.usb_listing.proofs.WordLemmas.{first_behind, word_again, word_first, word_read}
use Rattle.usb_file_data.proofs.Lists.{bytes_behind, drop_front}

-- ---- rows

-- what a row leaves out are bytes, and its fields have room
record Small (row : Row) : Type 0 where
  pub bytes : AreBytes row.front
  pub room : 1 + length row.front + size_of row.widths ≤ 255

-- the row of a word
record RowOf (w : Word) : Type 0 where
  pub row : Row
  pub is : row_for w ≡ Some row
  pub small : Small row
  pub named : row.word ≡ word_text w

row_of_word : (w : Word) (row : Row) → row_for w ≡ Some row → RowOf w
row_of_word words.Configuration row e = record { row = _; is = refl; small = record { bytes = (omega arith, (omega arith, (omega arith, tt))); room = omega arith }; named = refl }
row_of_word words.OtherSpeed row e = record { row = _; is = refl; small = record { bytes = (omega arith, (omega arith, (omega arith, tt))); room = omega arith }; named = refl }
row_of_word (words.Extra extra.Raw) row e = record { row = _; is = refl; small = record { bytes = tt; room = omega arith }; named = refl }
row_of_word words.Languages row e = cc
row_of_word words.String row e = cc
row_of_word w row e = record { row = _; is = refl; small = record { bytes = (omega arith, tt); room = omega arith }; named = refl }

row_here : (w : Word) (b : List ℕ) → IsOfRow (row_for w) b → RowOf w
row_here w b h = cases (row_for w) refl h
  where
    cases : (o : Option Row) → row_for w ≡ o → IsOfRow o b → RowOf w
    cases None e h = absurd h
    cases (Some row) e h = row_of_word w row e

pub described : (w : Word) (row : Row) (text : List ℕ) → row_for w ≡ Some row → item_in w text ≡ option_and_then (untyped w) (fields_in w text)
unfolding item_in
described words.Languages row text e = cc
described words.String row text e = cc
described w row text e = refl

-- ---- the text behind the word

abbrev pub row_text : Option Row → List ℕ → List ℕ
row_text None b = []
row_text (Some row) b = body_text row.widths row.tail (drop (length row.front) (drop 1 b))

abbrev pub item_fields : Item → List ℕ
item_fields (fields w b) = row_text (row_for w) b
item_fields (languages us) = flat_map (written forms.Field) us
item_fields (string us) = codes " \"" ++ flat_map (written forms.Unit) us ++ codes "\""

numbers_written : (us : List ℕ) → flat_map written_field (map two_bytes us) ≡ flat_map (written forms.Field) us
numbers_written [] = refl
numbers_written (u ∷ us) = ap (λ (xs : List ℕ). written_field (two_bytes u) ++ xs) (numbers_written us)

pub line_is : (item : Item) → IsItem item → item_line item ≡ word_text (item_word item) ++ item_fields item ++ codes "\n"
unfolding languages_line string_line
line_is (fields w b) is =
    let r = row_here w b is.1 in
    rw r.is (ap (λ (word : List ℕ). word ++ row_text (Some r.row) b ++ codes "\n") r.named)
line_is (languages us) is = ap (λ (t : List ℕ). codes "languages" ++ t ++ codes "\n") (numbers_written us)
line_is (string us) is = ap (λ (t : List ℕ). codes "string \"" ++ t) (sym (append_assoc (flat_map (written forms.Unit) us) (codes "\"") (codes "\n")))

-- ---- fields

-- bytes of a row: bLength, what it leaves out, and its body
fields_again : (w : Word) (b : List ℕ) → IsItem (fields w b) → fields_in w (item_fields (fields w b)) ≡ Some b
unfolding fields_in
fields_again w b is =
    let r = row_here w b is.1 in
    let h : HasRow r.row b = subst (λ (o : Option Row). IsOfRow o b) r.is is.1 in
    let fits = subst AreBytes h.whole is.0 in
    let few = fits.0 in
    let body_is : drop (length r.row.front) (drop 1 b) ≡ h.body = ap (λ (xs : List ℕ). drop (length r.row.front) (drop 1 xs)) h.whole ∙ drop_front r.row.front h.body in
    rw r.is
    (ap (λ (xs : List ℕ). bytes_in (0 ∷ r.row.front) r.row.widths r.row.tail (body_text r.row.widths r.row.tail xs)) body_is
    ∙ whole_again r.row.front r.row.widths r.row.tail h.body (bytes_behind r.row.front h.body fits.1) h.fills (omega (arith, few))
    ∙ ap (λ (xs : List ℕ). Some xs) (sym h.whole))

-- no more than a descriptor can have
pub few_bytes : (w : Word) (b : List ℕ) → IsItem (fields w b) → length b ≤ 255
few_bytes w b is =
    let r = row_here w b is.1 in
    let h : HasRow r.row b = subst (λ (o : Option Row). IsOfRow o b) r.is is.1 in
    let first = (subst AreBytes h.whole is.0).0 in
    let n = ap length h.whole in
    let k = length-append r.row.front h.body in
    omega (arith, first, n, k)

pub record IsRead (w : Word) (text : List ℕ) (item : Item) : Type 0 where
  pub word_is : item_word item ≡ w
  pub text_is : text ≡ item_fields item
  pub is_item : IsItem item

fields_read : (w : Word) (row : Row) (text b : List ℕ) → row_for w ≡ Some row → fields_in w text ≡ Some b → is_typed_raw w b ≡ false → IsRead w text (fields w b)
unfolding fields_in
fields_read w row text b er e untyped =
    let r = row_of_word w row er in
    let front = r.row.front in
    let m = whole_read front r.row.widths r.row.tail text b r.small.room (ap (λ (o : Option Row). row_bytes o text) (sym r.is) ∙ e) in
    let few = m.few in
    let bytes : AreBytes b = subst AreBytes (sym m.whole) (omega (arith, few), bytes_append front m.body r.small.bytes m.bytes) in
    let has : HasRow r.row b = record { body = m.body; whole = m.whole; fills = m.fills } in
    let body_is : drop (length front) (drop 1 b) ≡ m.body = ap (λ (xs : List ℕ). drop (length front) (drop 1 xs)) m.whole ∙ drop_front front m.body in
    record {
      word_is = refl;
      text_is = m.text_is ∙ ap (body_text r.row.widths r.row.tail) (sym body_is) ∙ ap (λ (o : Option Row). row_text o b) (sym r.is);
      is_item = (bytes, subst (λ (o : Option Row). IsOfRow o b) (sym r.is) has, untyped);
    }

by_fields : (w : Word) (row : Row) (text : List ℕ) (item : Item) → row_for w ≡ Some row → option_and_then (untyped w) (fields_in w text) ≡ Some item → IsRead w text item
by_fields w row text item er e = cases (fields_in w text) refl e
  where
    typed : (b : List ℕ) → fields_in w text ≡ Some b → (t : Bool) → is_typed_raw w b ≡ t → cond t None (Some (fields w b)) ≡ Some item → IsRead w text item
    typed b eb true et e = cc
    typed b eb false et e =
        let is : fields w b ≡ item = ap (λ (o : Option Item). unwrap_or o item) e in
        subst (IsRead w text) is (fields_read w row text b er eb et)

    cases : (o : Option (List ℕ)) → fields_in w text ≡ o → option_and_then (untyped w) o ≡ Some item → IsRead w text item
    cases None eo e = cc
    cases (Some b) eo e = typed b eo (is_typed_raw w b) refl e

-- ---- units

units_fit : (us : List ℕ) → AllByRecursion IsUnit us → AreBytes (flat_map little_endian us)
units_fit [] h = tt
units_fit (u ∷ us) h = (omega arith, (omega (arith, h.0), units_fit us h.1))

pub fit_units : (us : List ℕ) → AreBytes (flat_map little_endian us) → AllByRecursion IsUnit us
fit_units [] h = tt
fit_units (u ∷ us) h = (omega (arith, h.1.0), fit_units us h.1.1)

units_of_bytes : (us : List ℕ) → AllByRecursion IsUnit us → length us ≤ 126 → AreBytes (units_bytes us)
units_of_bytes us h few = (omega arith, (omega arith, units_fit us h))

-- ---- a text between quotes

quote_again : (text : List ℕ) → before_quote (text ++ codes "\"") ≡ Some text
quote_again [] = refl
quote_again (x ∷ []) = refl
quote_again (x ∷ y ∷ text) = ap (option_map (λ (front : List ℕ). x ∷ front)) (quote_again (y ∷ text))

quote_read : (text front : List ℕ) → before_quote text ≡ Some front → text ≡ front ++ codes "\""
quote_read [] front e = cc
quote_read (x ∷ []) front e = cases (x == 34) refl e
  where
    cases : (b : Bool) → (x == 34) ≡ b → cond b (Some []) None ≡ Some front → x ∷ [] ≡ front ++ codes "\""
    cases false eb e = cc
    cases true eb e =
        let none : [] ≡ front = ap (λ (o : Option (List ℕ)). unwrap_or o front) e in
        let is = eqb-true x 34 eb in
        rw (is, ← none) refl
quote_read (x ∷ y ∷ text) front e = cases (before_quote (y ∷ text)) (λ more em. quote_read (y ∷ text) more em) e
  where
    cases : (o : Option (List ℕ)) → ((more : List ℕ) → o ≡ Some more → y ∷ text ≡ more ++ codes "\"") → option_map (λ (front : List ℕ). x ∷ front) o ≡ Some front → x ∷ y ∷ text ≡ front ++ codes "\""
    cases None ih e = cc
    cases (Some more) ih e =
        let is : x ∷ more ≡ front = ap (λ (o : Option (List ℕ)). unwrap_or o front) e in
        rw (← is) (ap (λ (xs : List ℕ). x ∷ xs) (ih more refl))

quoted_again : (text : List ℕ) → quoted (codes " \"" ++ text ++ codes "\"") ≡ Some text
unfolding quoted
quoted_again text = quote_again text

quoted_read : (text inner : List ℕ) → quoted text ≡ Some inner → text ≡ codes " \"" ++ inner ++ codes "\""
unfolding quoted
quoted_read [] inner e = cc
quoted_read (x ∷ []) inner e = cases (x == 32) e
  where
    cases : (b : Bool) → in_quotes (cond b (Some []) None) ≡ Some inner → x ∷ [] ≡ codes " \"" ++ inner ++ codes "\""
    cases false e = cc
    cases true e = cc
quoted_read (x ∷ y ∷ text) inner e = cases (x == 32) (y == 34) refl refl e
  where
    cases : (b q : Bool) → (x == 32) ≡ b → (y == 34) ≡ q → in_quotes (cond b (Some (y ∷ text)) None) ≡ Some inner → x ∷ y ∷ text ≡ codes " \"" ++ inner ++ codes "\""
    cases false q eb eq e = cc
    cases true false eb eq e = absurd (let z : None ≡ Some inner = rw eq at e in cc)
    cases true true eb eq e =
        let z : before_quote text ≡ Some inner = rw eq at e in
        let space = eqb-true x 32 eb in
        let mark = eqb-true y 34 eq in
        rw (space, mark, quote_read text inner z) refl

-- ---- each way

pub item_again : (item : Item) → IsItem item → item_in (item_word item) (item_fields item) ≡ Some item
unfolding item_in languages_in string_in
item_again (fields w b) is =
    let r = row_here w b is.1 in
    described w r.row (item_fields (fields w b)) r.is ∙ ap (option_and_then (untyped w)) (fields_again w b is)
    ∙ ap (λ (t : Bool). cond t None (Some (fields w b))) is.2
item_again (languages []) is = absurd (is.1 refl)
item_again (languages (u ∷ us)) is =
    let few : length (u ∷ us) ≤ 126 = let h = is.0.0 in omega arith in
    ap (λ (o : Option (List ℕ)). option_map languages (some_language o)) (values_again forms.Field 126 [] (u ∷ us) (fit_units (u ∷ us) is.0.1.1) few)
item_again (string us) is =
    let few : length us ≤ 126 = let h = is.0 in omega arith in
    ap (λ (o : Option (List ℕ)). option_map string (option_and_then (values_from forms.Unit 126 []) o)) (quoted_again (flat_map (written forms.Unit) us))
    ∙ ap (option_map string) (values_again forms.Unit 126 [] us (fit_units us is.1.1) few)

languages_read : (text : List ℕ) (item : Item) → option_map languages (some_language (values_from forms.Field 126 [] text)) ≡ Some item → IsRead words.Languages text item
languages_read text item e = cases (values_from forms.Field 126 [] text) refl e
  where
    cases : (o : Option (List ℕ)) → values_from forms.Field 126 [] text ≡ o → option_map languages (some_language o) ≡ Some item → IsRead words.Languages text item
    cases None eo e = cc
    cases (Some []) eo e = cc
    cases (Some (u ∷ us)) eo e =
        let is : languages (u ∷ us) ≡ item = ap (λ (o : Option Item). unwrap_or o item) e in
        let v = values_are forms.Field 126 [] text (u ∷ us) eo in
        let same : v.values ≡ u ∷ us = sym v.are in
        let fits = units_of_bytes (u ∷ us) (subst (AllByRecursion IsUnit) same v.fits) (subst (λ (xs : List ℕ). length xs ≤ 126) same v.few) in
        let some : u ∷ us ≢ [] = λ z. cc in
        subst (IsRead words.Languages text) is (record { word_is = refl; text_is = v.is ∙ ap (flat_map (written forms.Field)) same; is_item = (fits, some) })

string_read : (text : List ℕ) (item : Item) → option_map string (option_and_then (values_from forms.Unit 126 []) (quoted text)) ≡ Some item → IsRead words.String text item
string_read text item e = cases (quoted text) refl e
  where
    made : (inner : List ℕ) → quoted text ≡ Some inner → (o : Option (List ℕ)) → values_from forms.Unit 126 [] inner ≡ o → option_map string o ≡ Some item → IsRead words.String text item
    made inner eq None eo e = cc
    made inner eq (Some us) eo e =
        let is : string us ≡ item = ap (λ (o : Option Item). unwrap_or o item) e in
        let v = values_are forms.Unit 126 [] inner us eo in
        let same : v.values ≡ us = sym v.are in
        let inner_is : inner ≡ flat_map (written forms.Unit) us = v.is ∙ ap (flat_map (written forms.Unit)) same in
        let fits = units_of_bytes us (subst (AllByRecursion IsUnit) same v.fits) (subst (λ (xs : List ℕ). length xs ≤ 126) same v.few) in
        subst (IsRead words.String text) is
        (record { word_is = refl; text_is = quoted_read text inner eq ∙ ap (λ (xs : List ℕ). codes " \"" ++ xs ++ codes "\"") inner_is; is_item = fits })

    cases : (o : Option (List ℕ)) → quoted text ≡ o → option_map string (option_and_then (values_from forms.Unit 126 []) o) ≡ Some item → IsRead words.String text item
    cases None eo e = cc
    cases (Some inner) eo e = made inner eo (values_from forms.Unit 126 [] inner) refl e

pub item_read : (w : Word) (text : List ℕ) (item : Item) → item_in w text ≡ Some item → IsRead w text item
unfolding item_in languages_in string_in
item_read words.Languages text item e = languages_read text item e
item_read words.String text item e = string_read text item e
item_read w text item e = by_fields w _ text item refl e

-- ---- a line without its line feed

but_last : List ℕ → List ℕ
but_last [] = []
but_last (x ∷ []) = []
but_last (x ∷ y ∷ xs) = x ∷ but_last (y ∷ xs)

but_last-end : (xs : List ℕ) (a : ℕ) → but_last (xs ++ a ∷ []) ≡ xs
unfolding but_last
but_last-end [] a = refl
but_last-end (x ∷ []) a = refl
but_last-end (x ∷ y ∷ xs) a = ap (λ (zs : List ℕ). x ∷ zs) (but_last-end (y ∷ xs) a)

same_front : (xs ys : List ℕ) (a : ℕ) → xs ++ a ∷ [] ≡ ys ++ a ∷ [] → xs ≡ ys
same_front xs ys a e = sym (but_last-end xs a) ∙ ap but_last e ∙ but_last-end ys a

-- a line says its word and what stands behind it
pub said_is : (line : List ℕ) (item : Item) → Says line item → line ≡ word_text (item_word item) ++ item_fields item
said_is line item says = same_front line (word_text (item_word item) ++ item_fields item) 10 (says.text ∙ line_is item says.is_item)

-- behind the word a space stands, or nothing
text_begins : (widths : List Width) (tail : Bool) (body : List ℕ) → first_word (body_text widths tail body) ≡ []
text_begins [] true [] = refl
text_begins [] true (x ∷ body) = refl
text_begins [] false body = refl
text_begins (One ∷ widths) tail [] = refl
text_begins (One ∷ widths) tail (x ∷ body) = refl
text_begins (Two ∷ widths) tail [] = refl
text_begins (Two ∷ widths) tail (x ∷ []) = refl
text_begins (Two ∷ widths) tail (x ∷ y ∷ body) = refl

row_begins : (o : Option Row) (b : List ℕ) → first_word (row_text o b) ≡ []
row_begins None b = refl
row_begins (Some row) b = text_begins row.widths row.tail (drop (length row.front) (drop 1 b))

spaced : (item : Item) → first_word (item_fields item) ≡ []
spaced (fields w b) = row_begins (row_for w) b
spaced (languages []) = refl
spaced (languages (u ∷ us)) = refl
spaced (string us) = refl

-- its first word is the descriptor's
pub said_word : (line : List ℕ) (item : Item) → Says line item → first_word line ≡ word_text (item_word item)
said_word line item says = ap first_word (said_is line item says) ∙ first_behind (item_word item) (item_fields item) (spaced item)

pub said_is_read : (line : List ℕ) (item : Item) → Says line item → item_of_line line ≡ Some item
unfolding item_of_line
said_is_read line item says =
    let w = item_word item in
    let found : word_in (first_word line) ≡ Some w = ap word_in (said_word line item says) ∙ word_again w in
    ap (option_and_then (λ (word : Word). item_in word (drop (length (word_text word)) line))) found
    ∙ ap (item_in w) (ap (drop (length (word_text w))) (said_is line item says) ∙ drop_front (word_text w) (item_fields item))
    ∙ item_again item says.is_item

pub read_is_said : (line : List ℕ) (item : Item) → item_of_line line ≡ Some item → Says line item
unfolding item_of_line
read_is_said line item e = cases (word_in (first_word line)) refl e
  where
    cases : (o : Option Word) → word_in (first_word line) ≡ o → option_and_then (λ (word : Word). item_in word (drop (length (word_text word)) line)) o ≡ Some item → Says line item
    cases None eo e = cc
    cases (Some w) eo e =
        let first = word_read (first_word line) w eo in
        let r = item_read w (drop (length (word_text w)) line) item e in
        let parts : line ≡ word_text w ++ drop (length (word_text w)) line = subst (λ (xs : List ℕ). line ≡ xs ++ drop (length xs) line) first (word_first line) in
        let same : word_text w ++ drop (length (word_text w)) line ≡ word_text (item_word item) ++ item_fields item =
        ap (λ (xs : List ℕ). word_text w ++ xs) r.text_is ∙ ap (λ (v : Word). word_text v ++ item_fields item) (sym r.word_is) in
        record { is_item = r.is_item; text = ap (λ (xs : List ℕ). xs ++ codes "\n") (parts ∙ same) ∙ sym (line_is item r.is_item) }

-- each descriptor that a line can say has a line
abbrev pub line_of : Item → List ℕ
line_of item = word_text (item_word item) ++ item_fields item

pub line_of-says : (item : Item) → IsItem item → Says (line_of item) item
line_of-says item is = record { is_item = is; text = sym (line_is item is) }
