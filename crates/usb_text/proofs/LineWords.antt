-- What may be put into lines, and what they are then.
use Rattle.std.proofs.Common.{◌≡◌, ℕ, zero, suc, ◌-◌, ◌/◌, ◌%◌, ◌<◌, ◌==◌, nat_lt, max, Bool, true, false, cond, if◌then◌else◌, codes, count_by, decimal, length, List, [], ◌∷◌, ◌++◌, replicate, refl, ◌∙◌, add-zero, arith}
use Rattle.hex.specs.Hex.{encode_lower, encode_with}
use Rattle.std.specs.Fmt.{digit_glyph, digits, digits_onto}
use Rattle.std.specs.List.{list_all}
use Rattle.std.proofs.lemmas.Bool.{and_parts}
use Rattle.std.proofs.lemmas.Bool.Decides.{nat_tests}
use Rattle.std.proofs.lemmas.List.Folds.{list_all-append}
use Rattle.std.proofs.lemmas.List.Sums.{sum_by-append, sum_by-cons}
use Rattle.usb_fields.specs.Bytes.{big_endian}
use Rattle.usb_text.specs.Lines.{column, filling, is_line_feed, is_printable}
use Rattle.usb_text.specs.Numbers.{byte_code, count, release, short_byte, word_code}
use Rattle.usb_text.specs.Written.{is_of_line, is_of_lines, is_words}
use Rattle.usb_text.proofs.Printables.{digits_printable, encoded_printable, high_digit, joined, low_digit, two_fit}

-- bytes of a line are bytes of lines, and none of them is a line feed
of_line : (utf8 : Bool) (x : ℕ) → is_of_line utf8 x ≡ true → is_of_lines utf8 x ≡ true
of_line utf8 x h = rw h refl

no_feed : (utf8 : Bool) (x : ℕ) → is_of_line utf8 x ≡ true → is_line_feed x ≡ false
no_feed utf8 x h = grind (arith, nat_tests)

line_fits : (utf8 : Bool) (xs : List ℕ) → list_all (is_of_line utf8) xs ≡ true → list_all (is_of_lines utf8) xs ≡ true
line_fits utf8 [] h = refl
line_fits utf8 (x ∷ xs) h =
    let p = and_parts (is_of_line utf8 x) (list_all (is_of_line utf8) xs) h in
    rw (of_line utf8 x p.0, line_fits utf8 xs p.1) refl

line_counts : (utf8 : Bool) (xs : List ℕ) → list_all (is_of_line utf8) xs ≡ true → count_by is_line_feed xs ≡ 0
line_counts utf8 [] h = refl
line_counts utf8 (x ∷ xs) h =
    let p = and_parts (is_of_line utf8 x) (list_all (is_of_line utf8) xs) h in
    sum_by-cons (λ y. cond (is_line_feed y) 1 0) x xs ∙ rw (no_feed utf8 x p.0, line_counts utf8 xs p.1) refl

-- lines, with bytes of a line put after them
pub put_fits : (utf8 : Bool) (old more : List ℕ) → list_all (is_of_lines utf8) old ≡ true → list_all (is_of_line utf8) more ≡ true
    → list_all (is_of_lines utf8) (old ++ more) ≡ true
put_fits utf8 old more h k = list_all-append (is_of_lines utf8) old more ∙ rw (h, line_fits utf8 more k) refl

pub put_counts : (utf8 : Bool) (old more : List ℕ) → list_all (is_of_line utf8) more ≡ true
    → count_by is_line_feed (old ++ more) ≡ count_by is_line_feed old
put_counts utf8 old more k =
    sum_by-append (λ y. cond (is_line_feed y) 1 0) old more ∙ rw (line_counts utf8 more k, add-zero) refl

-- words are of a line
pub words_of_line : (utf8 : Bool) (xs : List ℕ) → is_words xs ≡ true → list_all (is_of_line utf8) xs ≡ true
words_of_line utf8 [] h = refl
words_of_line utf8 (x ∷ xs) h =
    let p = and_parts (is_printable x) (is_words xs) h in
    rw (p.0, words_of_line utf8 xs p.1) refl

pub words_fit : (utf8 : Bool) (old more : List ℕ) → list_all (is_of_lines utf8) old ≡ true → is_words more ≡ true
    → list_all (is_of_lines utf8) (old ++ more) ≡ true
words_fit utf8 old more h k = put_fits utf8 old more h (words_of_line utf8 more k)

pub words_count : (old more : List ℕ) → is_words more ≡ true → count_by is_line_feed (old ++ more) ≡ count_by is_line_feed old
words_count old more k = put_counts false old more (words_of_line false more k)

-- decimal digits
digit_plain : (d : ℕ) → d < 10 → is_printable (digit_glyph false d) ≡ true
digit_plain d lt = grind (arith, nat_tests)

chosen : (b : Bool) (xs ys : List ℕ) → is_words xs ≡ true → is_words ys ≡ true → is_words (cond b xs ys) ≡ true
chosen true xs ys h k = h
chosen false xs ys h k = k

onto_words : (k n : ℕ) (behind : List ℕ) → is_words behind ≡ true → is_words (digits_onto (suc k) 10 false n behind) ≡ true
onto_words zero n behind h =
    let more : is_words (digit_glyph false (n % 10) ∷ behind) ≡ true = rw (digit_plain (n % 10) (omega arith), h) refl in
    chosen (n / 10 == 0) _ _ more more
onto_words (suc k) n behind h =
    let more : is_words (digit_glyph false (n % 10) ∷ behind) ≡ true = rw (digit_plain (n % 10) (omega arith), h) refl in
    chosen (n / 10 == 0) _ _ more (onto_words k (n / 10) (digit_glyph false (n % 10) ∷ behind) more)

pub decimal_words : (n : ℕ) → is_words (decimal n) ≡ true
unfolding digits
decimal_words n = onto_words 63 n [] refl

-- spaces, and a column
pub spaces_words : (n : ℕ) → is_words (replicate n 32) ≡ true
spaces_words zero = refl
spaces_words (suc n) = spaces_words n

pub column_words : (width : ℕ) (words : List ℕ) → is_words words ≡ true → is_words (column width words) ≡ true
column_words width words h = joined words (filling width (length words)) h (spaces_words (max (width - length words) 1))

-- numbers in words
plural_words : (n : ℕ) → is_words (if n == 1 then [] else codes "s") ≡ true
plural_words n = chosen (n == 1) [] (codes "s") refl refl

pub count_words : (n : ℕ) (noun : List ℕ) → is_words noun ≡ true → is_words (count n noun) ≡ true
unfolding count
count_words n noun h =
    joined (decimal n ++ codes " " ++ noun) _ (joined (decimal n ++ codes " ") noun (joined (decimal n) (codes " ") (decimal_words n) refl) h) (plural_words n)

pub pair_words : (b : ℕ) → b < 256 → is_words (encode_lower (b ∷ [])) ≡ true
pair_words b lt = encoded_printable (b ∷ []) (lt, tt)

pub byte_code_words : (n : ℕ) → n < 256 → is_words (byte_code n) ≡ true
unfolding byte_code
byte_code_words n lt = pair_words n lt

pub word_code_words : (n : ℕ) → n < 65536 → is_words (word_code n) ≡ true
unfolding word_code
word_code_words n lt = encoded_printable (big_endian n) (two_fit n lt)

short_words : (n : ℕ) → n < 256 → is_words (short_byte n) ≡ true
unfolding encode_with
short_words n lt =
    let both : is_words (high_digit n ∷ low_digit n ∷ []) ≡ true = digits_printable n [] lt refl in
    let last = and_parts (is_printable (high_digit n)) (is_words (low_digit n ∷ [])) both in
    chosen (nat_lt n 16) (low_digit n ∷ []) (high_digit n ∷ low_digit n ∷ []) last.1 both

pub release_words : (n : ℕ) → n < 65536 → is_words (release n) ≡ true
unfolding release
release_words n lt =
    joined (short_byte (n / 256) ++ codes ".") (encode_lower (n % 256 ∷ [])) (joined (short_byte (n / 256)) (codes ".") (short_words (n / 256) (omega arith)) refl) (pair_words (n % 256) (omega arith))

pub ruleset numbers = (decimal_words, spaces_words, column_words, count_words, pair_words, byte_code_words, word_code_words, release_words, encoded_printable)
