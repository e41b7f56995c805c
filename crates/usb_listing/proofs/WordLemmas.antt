-- On the first word of a line.
use Rattle.std.proofs.Common.{◌≡◌, ◌≢◌, ℕ, zero, suc, ◌+◌, ◌<◌, ◌==◌, Bool, not, true, false, cond, List, [], ◌∷◌, ◌++◌, Option, Some, None, unwrap_or, length, take, drop, slice_index, refl, ap, sym, subst, ◌∙◌, arith}
use Rattle.std.specs.Str.{bytes_eq}
use Rattle.std.proofs.Math.Seq.{take-append_seam}
use Rattle.std.proofs.lemmas.List.{length-append, take-append-drop}
use Rattle.std.proofs.lemmas.Bool.{true≢false, eqb-true, eq-eqb}
use Rattle.std.proofs.lemmas.Slice.Eq.{bytes_eq-Decides}
use Rattle.memchr.specs.Find.{IsFirstByte, is_byte}
use Rattle.usb_listing.specs.declared.word.Word.{Word}
use Rattle.usb_listing.specs.declared.word.Word.TheVariants as words
use Rattle.usb_listing.specs.declared.word.ExtraWord.TheVariants as extra
use Rattle.usb_listing.specs.Words.{first_word, word_text}
use Rattle.usb_listing.specs.inside.Rows.{all_extra_words, often_words, or_among, other_words, word_among, word_in, word_with, IsSplit, ends_word, likely_word}
use Rattle.usb_listing.specs.inside.Walking.{Cut, HasNo}

-- ---- a word and its text

pub word_again : (w : Word) → word_in (word_text w) ≡ Some w
unfolding word_in
word_again words.Device = refl
word_again (words.Extra extra.Raw) = refl
word_again w = refl

among : (ws : List Word) (text : List ℕ) (w : Word) → word_among ws text ≡ Some w → text ≡ word_text w
among [] text w e = cc
among (v ∷ ws) text w e = cases (bytes_eq text (word_text v)) refl (λ e. among ws text w e) e
  where
    cases : (b : Bool) → bytes_eq text (word_text v) ≡ b → (word_among ws text ≡ Some w → text ≡ word_text w) → cond b (Some v) (word_among ws text) ≡ Some w → text ≡ word_text w
    cases false eb ih e = ih e
    cases true eb ih e =
        let is : v ≡ w = ap (λ (o : Option Word). unwrap_or o w) e in
        (bytes_eq-Decides text (word_text v)).0 eb ∙ ap word_text is

or_among-read : (o : Option Word) (ws : List Word) (text : List ℕ) (w : Word) → (o ≡ Some w → text ≡ word_text w) → or_among o ws text ≡ Some w → text ≡ word_text w
or_among-read None ws text w before e = among ws text w e
or_among-read (Some v) ws text w before e = before e

pub word_read : (text : List ℕ) (w : Word) → word_in text ≡ Some w → text ≡ word_text w
unfolding word_in
word_read text w e =
    or_among-read (or_among (word_among often_words text) all_extra_words text) other_words text w
    (or_among-read (word_among often_words text) all_extra_words text w (among often_words text w)) e

-- ---- the first of a byte

has_no : (c : ℕ) (text : List ℕ) → ((k : ℕ) → k < length text → slice_index text k ≢ c) → HasNo c text
has_no c [] h = tt
has_no c (x ∷ text) h = (h zero (omega arith), has_no c text (λ k lt. h (suc k) (omega arith)))

found : (c : ℕ) (text : List ℕ) (n : ℕ) → n < length text → ((k : ℕ) → k < n → slice_index text k ≢ c) → slice_index text n ≡ c → Cut c text (take n text) (drop (n + 1) text)
found c [] n lt before here = absurd (omega arith)
found c (x ∷ text) zero lt before here = record { parts = rw here refl; none = tt }
found c (x ∷ text) (suc n) lt before here =
    let more : suc n + 1 ≡ suc (n + 1) = omega arith in
    let cut = found c text n (omega arith) (λ k below. before (suc k) (omega arith)) here in
    record { parts = rw more (ap (λ (xs : List ℕ). x ∷ xs) cut.parts); none = (before zero (omega arith), cut.none) }

pub byte_found : (c : ℕ) (text : List ℕ) (r : Option ℕ) (n : ℕ) → IsFirstByte (is_byte c) text r → r ≡ Some n → Cut c text (take n text) (drop (n + 1) text)
byte_found c text r n is e = at (subst (IsFirstByte (is_byte c) text) e is)
  where
    at : IsFirstByte (is_byte c) text (Some n) → Cut c text (take n text) (drop (n + 1) text)
    at (none, here) =
        found c text n none.high (λ k below feed. none.before k (omega arith) below (eq-eqb (slice_index text k) c feed)) (eqb-true (slice_index text n) c here)

pub byte_nowhere : (c : ℕ) (text : List ℕ) (r : Option ℕ) → IsFirstByte (is_byte c) text r → r ≡ None → HasNo c text
byte_nowhere c text r is e = at (subst (IsFirstByte (is_byte c) text) e is)
  where
    at : IsFirstByte (is_byte c) text None → HasNo c text
    at nowhere = has_no c text (λ k lt feed. nowhere k (omega arith) lt (eq-eqb (slice_index text k) c feed))

-- ---- the first word

-- a word with such a text behind it is the first word
pub first_behind : (w : Word) (text : List ℕ) → first_word text ≡ [] → first_word (word_text w ++ text) ≡ word_text w
first_behind words.Device text h = rw h refl
first_behind (words.Extra extra.Raw) text h = rw h refl
first_behind w text h = rw h refl

-- a line begins with its first word
pub word_first : (line : List ℕ) → line ≡ first_word line ++ drop (length (first_word line)) line
word_first [] = refl
word_first (x ∷ line) = cases (x == 32) (word_first line)
  where
    cases : (b : Bool) → line ≡ first_word line ++ drop (length (first_word line)) line
        → x ∷ line ≡ cond b [] (x ∷ first_word line) ++ drop (length (cond b [] (x ∷ first_word line))) (x ∷ line)
    cases true ih = refl
    cases false ih = ap (λ (xs : List ℕ). x ∷ xs) ih

-- after its first word a line ends, or a space follows
pub word_end : (line : List ℕ) → first_word (drop (length (first_word line)) line) ≡ []
word_end [] = refl
word_end (x ∷ line) = cases (x == 32) refl (word_end line)
  where
    cases : (b : Bool) → (x == 32) ≡ b → first_word (drop (length (first_word line)) line) ≡ [] → first_word (drop (length (cond b [] (x ∷ first_word line))) (x ∷ line)) ≡ []
    cases true is ih = rw is refl
    cases false is ih = ih

ended_word : (rest : List ℕ) → ends_word rest ≡ true → first_word rest ≡ []
ended_word [] ends = refl
ended_word (x ∷ rest) ends = let is : (x == 32) ≡ true = ends in rw is refl

-- ---- a line that begins with a word

-- where nothing or a space follows a text without a space, it is the first word
pub first_split : (w : Word) (line rest : List ℕ) → IsSplit line (word_text w) rest → first_word line ≡ word_text w
first_split w line rest split = ap first_word split.parts ∙ first_behind w rest (ended_word rest split.ends)

pub split_is : (w : Word) (line rest : List ℕ) → IsSplit line (word_text w) rest → (word_in (first_word line) ≡ Some w) × (line ≡ first_word line ++ rest)
split_is w line rest split =
    let first = first_split w line rest split in
    (ap word_in first ∙ word_again w, split.parts ∙ ap (λ (xs : List ℕ). xs ++ rest) (sym first))

-- the letter of a word
abbrev letter : Word → ℕ
letter w = slice_index (word_text w) 0

letter_again : (w : Word) → word_with (letter w) ≡ Some w
letter_again (words.Extra extra.Raw) = refl
letter_again (words.Extra extra.Association) = refl
letter_again w = refl

no_text : (w : Word) → [] ≢ word_text w
no_text (words.Extra extra.Raw) e = cc
no_text (words.Extra extra.Association) e = cc
no_text w e = cc

-- a line whose first word is one begins with its letter
letter_of : (x : ℕ) (line : List ℕ) (w : Word) → first_word (x ∷ line) ≡ word_text w → word_with x ≡ Some w
letter_of x line w e = cases (x == 32) e
  where
    cases : (b : Bool) → cond b [] (x ∷ first_word line) ≡ word_text w → word_with x ≡ Some w
    cases true e = absurd (no_text w e)
    cases false e = ap word_with (ap (λ (xs : List ℕ). slice_index xs 0) e) ∙ letter_again w

none_where : (line : List ℕ) → ((w : Word) → first_word line ≢ word_text w) → word_in (first_word line) ≡ None
none_where line h = cases (word_in (first_word line)) refl
  where
    cases : (o : Option Word) → word_in (first_word line) ≡ o → word_in (first_word line) ≡ None
    cases None e = e
    cases (Some w) e = absurd (h w (word_read (first_word line) w e))

pub none_likely : (line : List ℕ) → likely_word line ≡ None → word_in (first_word line) ≡ None
none_likely [] none = none_where [] no_text
none_likely (x ∷ line) none = none_where (x ∷ line) (λ w e. let is = letter_of x line w e in cc)

pub no_other : (line : List ℕ) (w : Word) → likely_word line ≡ Some w → first_word line ≢ word_text w → word_in (first_word line) ≡ None
no_other [] w is other = none_where [] no_text
no_other (x ∷ line) w is other =
    none_where (x ∷ line) (λ v e. let same : v ≡ w = ap (λ (o : Option Word). unwrap_or o w) (sym (letter_of x line v e) ∙ is) in other (e ∙ ap word_text same))

-- what is after a text that a line begins with
pub is_split : (line word rest : List ℕ) → bytes_eq (take (length word) line) word ≡ true → rest ≡ drop (length word) line → ends_word rest ≡ true → IsSplit line word rest
is_split line word rest begins is ends =
    let front = (bytes_eq-Decides (take (length word) line) word).0 begins in
    record { parts = sym (take-append-drop (length word) line) ∙ ap (λ (xs : List ℕ). xs ++ drop (length word) line) front ∙ ap (λ (xs : List ℕ). word ++ xs) (sym is); ends = ends }

front_is : (line word : List ℕ) → first_word line ≡ word → take (length word) line ≡ word
front_is line word e =
    ap (λ (xs : List ℕ). take (length word) xs) (subst (λ (xs : List ℕ). line ≡ xs ++ drop (length xs) line) e (word_first line)) ∙ take-append_seam word (drop (length word) line)

pub not_split : (line word : List ℕ) → bytes_eq (take (length word) line) word ≡ false → first_word line ≢ word
not_split line word differs e = true≢false (sym ((bytes_eq-Decides (take (length word) line) word).1 (front_is line word e)) ∙ differs)

-- where no space follows, the line's first word is longer
more_word : (rest : List ℕ) → ends_word rest ≡ false → first_word rest ≢ []
more_word [] more e = cc
more_word (x ∷ rest) more e =
    let is : (x == 32) ≡ false = more in
    let here : first_word (x ∷ rest) ≡ x ∷ first_word rest = rw is refl in
    cc

pub not_ended : (line word rest : List ℕ) → rest ≡ drop (length word) line → ends_word rest ≡ false → first_word line ≢ word
not_ended line word rest is more e = more_word rest more (ap first_word is ∙ subst (λ (xs : List ℕ). first_word (drop (length xs) line) ≡ []) e (word_end line))

-- ---- a line whose first bytes, as many as a word has, are looked at

not_false : (b : Bool) → not b ≡ false → b ≡ true
not_false true e = refl
not_false false e = absurd (true≢false e)

pub chunk_split : (line word first rest : List ℕ) (n : ℕ) → length word ≡ n → first ≡ take n line → rest ≡ drop n line → not (bytes_eq first word) ≡ false
    → ends_word rest ≡ true → IsSplit line word rest
chunk_split line word first rest n len front behind same ends =
    let begins = subst (λ (xs : List ℕ). bytes_eq xs word ≡ true) (front ∙ ap (λ (k : ℕ). take k line) (sym len)) (not_false (bytes_eq first word) same) in
    is_split line word rest begins (behind ∙ ap (λ (k : ℕ). drop k line) (sym len)) ends

pub chunk_not_ended : (line word rest : List ℕ) (n : ℕ) → length word ≡ n → rest ≡ drop n line → ends_word rest ≡ false → first_word line ≢ word
chunk_not_ended line word rest n len behind more = not_ended line word rest (behind ∙ ap (λ (k : ℕ). drop k line) (sym len)) more

pub line_short : (line word : List ℕ) → length line < length word → first_word line ≢ word
line_short line word short e =
    let whole = ap length (word_first line) ∙ length-append (first_word line) (drop (length (first_word line)) line) in
    let same = ap length e in
    absurd (omega (arith, whole, same, short))
