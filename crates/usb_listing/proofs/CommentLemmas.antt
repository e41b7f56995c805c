-- What is dropped of a text, line by line.
use Rattle.std.proofs.Common.{◌≡◌, ◌≢◌, ℕ, zero, suc, ◌<◌, ◌≤◌, ◌==◌, ◌||◌, Bool, true, false, cond, List, [], ◌∷◌, ◌++◌, length, refl, ap, sym, subst, ◌∙◌, append_assoc, arith, codes}
use Rattle.std.specs.List.{All, AllByRecursion, flat_map, list_all, list_any, onto_first}
use Rattle.std.proofs.lemmas.List.Elements.{All-cons, All-nil}
use Rattle.std.proofs.lemmas.List.Splits.{length-slice_split, slice_split_at, slice_split_none}
use Rattle.std.proofs.lemmas.Bool.{and_parts, eq-eqb, eqb-true, eqb-false, ne_eqb, or_parts}
use Rattle.usb_file_data.specs.declared.file.DescriptorFile.{DescriptorFile}
use Rattle.usb_file_data.specs.File.{File}
use Rattle.usb_listing.specs.Listing.{file_lines}
use Rattle.usb_listing.specs.declared.word.ExtraWord.TheVariants as extra
use Rattle.usb_listing.specs.declared.word.Word.{Word}
use Rattle.usb_listing.specs.declared.word.Word.TheVariants as words
use Rattle.usb_listing.specs.Words.{word_text}
use Rattle.usb_text.specs.Lines.{is_printable}
use Rattle.usb_listing.specs.Comments.{IsUncommented, is_dropped, kept_of, last_piece, lines_before, pieces, uncommented, whole_lines, without_last, without_return}
use Rattle.usb_listing.specs.Says.{IsItem, Item, item_line, item_word}
use Rattle.usb_listing.specs.Order.{file_items}
use Rattle.usb_listing.specs.inside.Walking.{Cut, HasNo}
use Rattle.usb_listing.proofs.FileLineLemmas.{lines_are}
use Rattle.usb_listing.proofs.PrintableLemmas.{line_of-printable}
use Rattle.usb_text.proofs.Printables.{Printable}
use Rattle.usb_listing.proofs.SaysLemmas.{item_fields, line_of, line_of-says}
use Rattle.usb_listing.proofs.WholeLemmas.{file_begun}

-- ---- a carriage return at the end

return_last : (rest : List ℕ) (x : ℕ) → without_return (rest ++ x ∷ []) ≡ cond (x == 13) rest (rest ++ x ∷ [])
return_last [] x = refl
return_last (y ∷ []) x = cases (x == 13)
  where
    cases : (b : Bool) → y ∷ cond b [] (x ∷ []) ≡ cond b (y ∷ []) (y ∷ x ∷ [])
    cases true = refl
    cases false = refl
return_last (y ∷ z ∷ rest) x = ap (λ (xs : List ℕ). y ∷ xs) (return_last (z ∷ rest) x) ∙ cases (x == 13)
  where
    cases : (b : Bool) → y ∷ cond b (z ∷ rest) (z ∷ rest ++ x ∷ []) ≡ cond b (y ∷ z ∷ rest) (y ∷ z ∷ rest ++ x ∷ [])
    cases true = refl
    cases false = refl

pub return_there : (line rest : List ℕ) (x : ℕ) → line ≡ rest ++ x ∷ [] → x ≡ 13 → rest ≡ without_return line
return_there line rest x e is = sym (ap without_return e ∙ return_last rest x ∙ ap (λ (b : Bool). cond b rest (rest ++ x ∷ [])) (eq-eqb x 13 is))

pub return_elsewhere : (line rest : List ℕ) (x : ℕ) → line ≡ rest ++ x ∷ [] → x ≢ 13 → line ≡ without_return line
return_elsewhere line rest x e other =
    e ∙ sym (return_last rest x ∙ ap (λ (b : Bool). cond b rest (rest ++ x ∷ [])) (ne_eqb x 13 other)) ∙ ap without_return (sym e)

pub return_nowhere : (line : List ℕ) → length line ≡ 0 → line ≡ without_return line
return_nowhere [] e = refl
return_nowhere (x ∷ line) e = absurd (omega (arith, e))

no_return : (line : List ℕ) → HasNo 13 line → without_return line ≡ line
no_return [] h = refl
no_return (x ∷ []) h = rw (ne_eqb x 13 h.0) refl
no_return (x ∷ y ∷ line) h = ap (λ (xs : List ℕ). x ∷ xs) (no_return (y ∷ line) h.1)

-- a byte that isn't there isn't there without it either
none_without : (c : ℕ) (line : List ℕ) → HasNo c line → HasNo c (without_return line)
none_without c [] h = tt
none_without c (x ∷ []) h = cases (x == 13)
  where
    cases : (b : Bool) → HasNo c (cond b [] (x ∷ []))
    cases true = tt
    cases false = h
none_without c (x ∷ y ∷ line) h = (h.0, none_without c (y ∷ line) h.1)

-- ---- the first line

other_bytes : (c : ℕ) (line : List ℕ) → HasNo c line → All (λ x. (x == c) ≡ false) line
other_bytes c [] h = All-nil (λ x. (x == c) ≡ false)
other_bytes c (x ∷ line) h = All-cons (λ x. (x == c) ≡ false) x line (ne_eqb x c h.0) (other_bytes c line h.1)

some_piece : (text : List ℕ) → 0 < length (pieces text)
some_piece text = let count = length-slice_split (λ (x : ℕ). x == 10) text in omega (arith, count)

pieces_cut : (text line more : List ℕ) → Cut 10 text line more → pieces text ≡ line ∷ pieces more
pieces_cut text line more cut = ap pieces cut.parts ∙ slice_split_at (λ (x : ℕ). x == 10) line 10 more (other_bytes 10 line cut.none) refl

pieces_none : (text : List ℕ) → HasNo 10 text → pieces text ≡ text ∷ []
pieces_none text h = slice_split_none (λ (x : ℕ). x == 10) text (other_bytes 10 text h)

one_before : (line : List ℕ) (ps : List (List ℕ)) → 0 < length ps → without_last (line ∷ ps) ≡ line ∷ without_last ps
one_before line [] some = absurd (omega (arith, some))
one_before line (p ∷ ps) some = refl

last_behind : (line : List ℕ) (ps : List (List ℕ)) → 0 < length ps → last_piece (line ∷ ps) ≡ last_piece ps
last_behind line [] some = absurd (omega (arith, some))
last_behind line (p ∷ ps) some = refl

pub whole_lines_cut : (text line more : List ℕ) → Cut 10 text line more → whole_lines text ≡ line ∷ whole_lines more
whole_lines_cut text line more cut = ap without_last (pieces_cut text line more cut) ∙ one_before line (pieces more) (some_piece more)

pub whole_lines_none : (text : List ℕ) → HasNo 10 text → whole_lines text ≡ []
whole_lines_none text h = ap without_last (pieces_none text h)

pub uncommented_cut : (text line more : List ℕ) → Cut 10 text line more → uncommented text ≡ kept_of line ++ uncommented more
uncommented_cut text line more cut =
    ap (λ (ls : List (List ℕ)). flat_map kept_of ls ++ last_piece (pieces text)) (whole_lines_cut text line more cut)
    ∙ ap (λ (xs : List ℕ). (kept_of line ++ flat_map kept_of (whole_lines more)) ++ xs) (ap last_piece (pieces_cut text line more cut) ∙ last_behind line (pieces more) (some_piece more))
    ∙ append_assoc (kept_of line) (flat_map kept_of (whole_lines more)) (last_piece (pieces more))

pub uncommented_none : (text : List ℕ) → HasNo 10 text → uncommented text ≡ text
uncommented_none text h = ap (λ (ps : List (List ℕ)). flat_map kept_of (without_last ps) ++ last_piece ps) (pieces_none text h)

-- it is kept
pub kept_cut : (text line more : List ℕ) → Cut 10 text line more → is_dropped (without_return line) ≡ false → Cut 10 (uncommented text) (without_return line) (uncommented more)
kept_cut text line more cut e =
    let kept = without_return line in
    record {
      parts =
          uncommented_cut text line more cut ∙ ap (λ (b : Bool). cond b [] (kept ++ codes "\n") ++ uncommented more) e
          ∙ append_assoc kept (codes "\n") (uncommented more);
      none = none_without 10 line cut.none;
    }

-- or dropped
pub dropped_cut : (text line more : List ℕ) → Cut 10 text line more → is_dropped (without_return line) ≡ true → uncommented text ≡ uncommented more
dropped_cut text line more cut e =
    uncommented_cut text line more cut ∙ ap (λ (b : Bool). cond b [] (without_return line ++ codes "\n") ++ uncommented more) e

-- ---- numbers of lines

pub none_before : (text line more : List ℕ) → Cut 10 text line more → is_dropped (without_return line) ≡ false → lines_before (whole_lines text) 0 ≡ 0
none_before text line more cut e =
    ap (λ (ls : List (List ℕ)). lines_before ls 0) (whole_lines_cut text line more cut)
    ∙ ap (λ (b : Bool). cond b (suc (lines_before (whole_lines more) 0)) 0) e

pub none_before_rest : (text : List ℕ) → HasNo 10 text → lines_before (whole_lines text) 0 ≡ 0
none_before_rest text h = ap (λ (ls : List (List ℕ)). lines_before ls 0) (whole_lines_none text h)

pub before_kept : (text line more : List ℕ) (k : ℕ) → Cut 10 text line more → is_dropped (without_return line) ≡ false
    → lines_before (whole_lines text) (suc k) ≡ suc (lines_before (whole_lines more) k)
before_kept text line more k cut e =
    ap (λ (ls : List (List ℕ)). lines_before ls (suc k)) (whole_lines_cut text line more cut)
    ∙ ap (λ (b : Bool). suc (lines_before (whole_lines more) (cond b (suc k) k))) e

pub before_dropped : (text line more : List ℕ) (k : ℕ) → Cut 10 text line more → is_dropped (without_return line) ≡ true
    → lines_before (whole_lines text) k ≡ suc (lines_before (whole_lines more) k)
before_dropped text line more zero cut e =
    ap (λ (ls : List (List ℕ)). lines_before ls zero) (whole_lines_cut text line more cut)
    ∙ ap (λ (b : Bool). cond b (suc (lines_before (whole_lines more) zero)) zero) e
before_dropped text line more (suc k) cut e =
    ap (λ (ls : List (List ℕ)). lines_before ls (suc k)) (whole_lines_cut text line more cut)
    ∙ ap (λ (b : Bool). suc (lines_before (whole_lines more) (cond b (suc k) k))) e

-- a line that more kept ones are before is no earlier one
pub before_grows : (lines : List (List ℕ)) (j k : ℕ) → j ≤ k → lines_before lines j ≤ lines_before lines k
before_grows [] j k le = le
before_grows (line ∷ lines) zero zero le = omega arith
before_grows (line ∷ lines) (suc j) zero le = absurd (omega (arith, le))
before_grows (line ∷ lines) zero (suc k) le = cases (is_dropped (without_return line)) (before_grows lines zero (suc k) (omega arith))
  where
    cases : (b : Bool) → lines_before lines zero ≤ lines_before lines (suc k)
        → cond b (suc (lines_before lines zero)) zero ≤ suc (lines_before lines (cond b (suc k) k))
    cases true ih = omega (arith, ih)
    cases false ih = omega arith
before_grows (line ∷ lines) (suc j) (suc k) le =
    cases (is_dropped (without_return line)) (before_grows lines (suc j) (suc k) le) (before_grows lines j k (omega (arith, le)))
  where
    cases : (b : Bool) → lines_before lines (suc j) ≤ lines_before lines (suc k) → lines_before lines j ≤ lines_before lines k
        → suc (lines_before lines (cond b (suc j) j)) ≤ suc (lines_before lines (cond b (suc k) k))
    cases true dropped kept = omega (arith, dropped)
    cases false dropped kept = omega (arith, kept)

-- ---- texts of which nothing is dropped

has_no_any : (c : ℕ) (text : List ℕ) → HasNo c text → list_any (λ x. x == c) text ≡ false
has_no_any c [] h = refl
has_no_any c (x ∷ text) h = rw (ne_eqb x c h.0) (has_no_any c text h.1)

any_has_no : (c : ℕ) (text : List ℕ) → list_any (λ x. x == c) text ≡ false → HasNo c text
any_has_no c [] e = tt
any_has_no c (x ∷ text) e = let p = or_parts (x == c) (list_any (λ x. x == c) text) e in (eqb-false x c p.0, any_has_no c text p.1)

no_more : (c : ℕ) (xs ys : List ℕ) → HasNo c xs → HasNo c ys → HasNo c (xs ++ ys)
no_more c [] ys hx hy = hy
no_more c (x ∷ xs) ys hx hy = (hx.0, no_more c xs ys hx.1 hy)

-- such a line keeps its bytes
all_kept : (line : List ℕ) → HasNo 13 line → is_dropped line ≡ false → kept_of line ≡ line ++ codes "\n"
all_kept line h e =
    ap (λ (l : List ℕ). cond (is_dropped l) [] (l ++ codes "\n")) (no_return line h) ∙ ap (λ (b : Bool). cond b [] (line ++ codes "\n")) e

-- the pieces, joined again
abbrev joined : List (List ℕ) → List ℕ
joined ps = flat_map (λ (line : List ℕ). line ++ codes "\n") (without_last ps) ++ last_piece ps

joined_onto : (x : ℕ) (ps : List (List ℕ)) → 0 < length ps → joined (onto_first x ps) ≡ x ∷ joined ps
joined_onto x [] some = absurd (omega (arith, some))
joined_onto x (p ∷ []) some = refl
joined_onto x (p ∷ q ∷ ps) some = refl

joined_feed : (ps : List (List ℕ)) → 0 < length ps → joined ([] ∷ ps) ≡ 10 ∷ joined ps
joined_feed [] some = absurd (omega (arith, some))
joined_feed (p ∷ ps) some = refl

joined_again : (text : List ℕ) → joined (pieces text) ≡ text
joined_again [] = refl
joined_again (x ∷ text) = cases (x == 10) refl (joined_again text)
  where
    cases : (b : Bool) → (x == 10) ≡ b → joined (pieces text) ≡ text → joined (cond b ([] ∷ pieces text) (onto_first x (pieces text))) ≡ x ∷ text
    cases true e more = joined_feed (pieces text) (some_piece text) ∙ ap (λ (xs : List ℕ). 10 ∷ xs) more ∙ ap (λ (y : ℕ). y ∷ text) (sym (eqb-true x 10 e))
    cases false e more = joined_onto x (pieces text) (some_piece text) ∙ ap (λ (xs : List ℕ). x ∷ xs) more

-- a byte that isn't in the text is in none of them
none_onto : (c x : ℕ) (ps : List (List ℕ)) → x ≢ c → AllByRecursion (HasNo c) ps → AllByRecursion (HasNo c) (onto_first x ps)
none_onto c x [] other h = ((other, tt), tt)
none_onto c x (p ∷ ps) other h = ((other, h.0), h.1)

none_in_pieces : (c : ℕ) (text : List ℕ) → HasNo c text → AllByRecursion (HasNo c) (pieces text)
none_in_pieces c [] h = (tt, tt)
none_in_pieces c (x ∷ text) h = cases (x == 10) (none_in_pieces c text h.1)
  where
    cases : (b : Bool) → AllByRecursion (HasNo c) (pieces text) → AllByRecursion (HasNo c) (cond b ([] ∷ pieces text) (onto_first x (pieces text)))
    cases true more = (tt, more)
    cases false more = none_onto c x (pieces text) h.0 more

all_before : (P : List ℕ → Type 0) (ps : List (List ℕ)) → AllByRecursion P ps → AllByRecursion P (without_last ps)
all_before P [] h = tt
all_before P (p ∷ []) h = tt
all_before P (p ∷ q ∷ ps) h = (h.0, all_before P (q ∷ ps) h.1)

no_returns : (text : List ℕ) → IsUncommented text → AllByRecursion (HasNo 13) (whole_lines text)
no_returns text u = all_before (HasNo 13) (pieces text) (none_in_pieces 13 text (any_has_no 13 text u.no_return))

lines_kept : (lines : List (List ℕ)) → AllByRecursion (HasNo 13) lines → list_any is_dropped lines ≡ false
    → flat_map kept_of lines ≡ flat_map (λ (line : List ℕ). line ++ codes "\n") lines
lines_kept [] h e = refl
lines_kept (line ∷ lines) h e =
    let p = or_parts (is_dropped line) (list_any is_dropped lines) e in
    ap (λ (xs : List ℕ). xs ++ flat_map kept_of lines) (all_kept line h.0 p.0) ∙ ap (λ (xs : List ℕ). (line ++ codes "\n") ++ xs) (lines_kept lines h.1 p.1)

numbers_kept : (lines : List (List ℕ)) → AllByRecursion (HasNo 13) lines → list_any is_dropped lines ≡ false → (k : ℕ) → lines_before lines k ≡ k
numbers_kept [] h e k = refl
numbers_kept (line ∷ lines) h e k =
    let p = or_parts (is_dropped line) (list_any is_dropped lines) e in
    at k (ap is_dropped (no_return line h.0) ∙ p.0) (numbers_kept lines h.1 p.1)
  where
    at : (k : ℕ) → is_dropped (without_return line) ≡ false → ((j : ℕ) → lines_before lines j ≡ j) → lines_before (line ∷ lines) k ≡ k
    at zero e ih = ap (λ (b : Bool). cond b (suc (lines_before lines zero)) zero) e
    at (suc j) e ih = ap (λ (b : Bool). suc (lines_before lines (cond b (suc j) j))) e ∙ ap suc (ih j)

pub text_stays : (text : List ℕ) → IsUncommented text → uncommented text ≡ text
text_stays text u =
    ap (λ (xs : List ℕ). xs ++ last_piece (pieces text)) (lines_kept (whole_lines text) (no_returns text u) u.no_line) ∙ joined_again text

pub numbers_stay : (text : List ℕ) (k : ℕ) → IsUncommented text → lines_before (whole_lines text) k ≡ k
numbers_stay text k u = numbers_kept (whole_lines text) (no_returns text u) u.no_line k

-- ---- a listing that is written

none_printable : (c : ℕ) (line : List ℕ) → is_printable c ≡ false → Printable line → HasNo c line
none_printable c [] bad h = tt
none_printable c (x ∷ line) bad h =
    let p = and_parts (is_printable x) (list_all is_printable line) h in
    ((λ is. let e = sym bad ∙ ap is_printable (sym is) ∙ p.0 in cc), none_printable c line bad p.1)

word_kept : (w : Word) (text : List ℕ) → is_dropped (word_text w ++ text) ≡ false
word_kept words.Device text = refl
word_kept (words.Extra extra.Raw) text = refl
word_kept w text = refl

items_stay : (items : List Item) → AllByRecursion IsItem items → IsUncommented (flat_map item_line items)
items_stay [] h = record { no_return = refl; no_line = refl }
items_stay (i ∷ items) h =
    let rest = flat_map item_line items in
    let line = line_of i in
    let print = line_of-printable i h.0 in
    let more = items_stay items h.1 in
    let parts : item_line i ++ rest ≡ line ++ 10 ∷ rest = ap (λ (xs : List ℕ). xs ++ rest) (sym (line_of-says i h.0).text) ∙ append_assoc line (codes "\n") rest in
    let cut : Cut 10 (item_line i ++ rest) line rest = record { parts = parts; none = none_printable 10 line refl print } in
    record {
      no_return =
          ap (list_any (λ x. x == 13)) parts
          ∙ has_no_any 13 (line ++ 10 ∷ rest) (no_more 13 line (10 ∷ rest) (none_printable 13 line refl print) ((λ e. cc), any_has_no 13 rest more.no_return));
      no_line =
          ap (list_any is_dropped) (whole_lines_cut (item_line i ++ rest) line rest cut)
          ∙ ap (λ (b : Bool). b || list_any is_dropped (whole_lines rest)) (word_kept (item_word i) (item_fields i)) ∙ more.no_line;
    }

pub written_stays : (f : DescriptorFile) (b : List ℕ) → File f b → IsUncommented (file_lines f)
written_stays f b is =
    let ordered = (file_begun f b is).0 in
    subst IsUncommented (sym (lines_are f ordered)) (items_stay (file_items f) ordered.said)
