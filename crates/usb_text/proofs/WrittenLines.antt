-- What a writer gained of lines.
use Rattle.std.proofs.Common.{◌≡◌, ℕ, zero, suc, ◌+◌, ◌-◌, ◌<◌, ◌≤◌, ◌==◌, length, slice_index, Bool, true, false, replicate, cond, count_by, List, [], ◌∷◌, ◌++◌, refl, sym, ap, subst, ◌∙◌, append-nil, append_assoc, arith}
use Rattle.std.specs.Io.KnownBytes.{Appends}
use Rattle.std.specs.List.{list_all}
use Rattle.std.proofs.lemmas.Bool.{and_parts}
use Rattle.std.proofs.lemmas.List.Folds.{list_all-append}
use Rattle.std.proofs.lemmas.List.Sums.{sum_by-append, sum_by-cons}
use Rattle.usb_text.specs.Lines.{is_line_feed}
use Rattle.usb_text.specs.Output.{AppendsFront, AppendsLess, Held}
use Rattle.usb_text.specs.Written.{AreLines, PutsLines, WritesLess, WritesLines, Written, is_of_lines, is_whole, more_lines, no_lines, written}
use Rattle.usb_text.specs.inside.Pages.{EndedLines}
use Rattle.usb_text.proofs.Pages.{appends_more, appends_nothing, keeps_refl, less_is_front}

abbrev feeds : List ℕ → ℕ
feeds xs = count_by is_line_feed xs

feeds_joined : (xs ys : List ℕ) → feeds (xs ++ ys) ≡ feeds xs + feeds ys
feeds_joined xs ys = sum_by-append (λ x. cond (is_line_feed x) 1 0) xs ys

feeds_more : (x : ℕ) (xs : List ℕ) → feeds (x ∷ xs) ≡ cond (is_line_feed x) 1 0 + feeds xs
feeds_more x xs = sum_by-cons (λ y. cond (is_line_feed y) 1 0) x xs

-- a text that ends with a line feed has one
pub whole_counts : (x : ℕ) (xs : List ℕ) → is_whole (x ∷ xs) ≡ true → 0 < feeds (x ∷ xs)
whole_counts x [] h = rw (feeds_more x [], h) (omega arith)
whole_counts x (y ∷ ys) h = let more = whole_counts y ys h in let e = feeds_more x (y ∷ ys) in omega (arith, more, e)

whole_behind : (front : List ℕ) (x : ℕ) (rest : List ℕ) → is_whole (front ++ x ∷ rest) ≡ true → is_whole (x ∷ rest) ≡ true
whole_behind [] x rest h = h
whole_behind (a ∷ []) x rest h = h
whole_behind (a ∷ b ∷ front) x rest h = whole_behind (b ∷ front) x rest h

whole_joined : (xs ys : List ℕ) → is_whole xs ≡ true → is_whole ys ≡ true → is_whole (xs ++ ys) ≡ true
whole_joined [] ys h k = k
whole_joined (x ∷ []) [] h k = h
whole_joined (x ∷ []) (y ∷ ys) h k = k
whole_joined (x ∷ a ∷ xs) ys h k = whole_joined (a ∷ xs) ys h k

pub whole_at : (bytes : List ℕ) → 0 < length bytes → is_whole bytes ≡ (slice_index bytes (length bytes - 1) == 10)
whole_at [] some = absurd (omega (arith, some))
whole_at (x ∷ []) some = refl
whole_at (x ∷ y ∷ rest) some =
    let last : length (x ∷ y ∷ rest) - 1 ≡ suc (length (y ∷ rest) - 1) = omega arith in
    whole_at (y ∷ rest) (omega arith) ∙ rw last refl

-- no line, and lines after lines
are_joined : (utf8 : Bool) (m n : ℕ) (xs ys : List ℕ) → AreLines utf8 m xs → AreLines utf8 n ys → AreLines utf8 (m + n) (xs ++ ys)
are_joined utf8 m n xs ys p q = record {
  characters = list_all-append (is_of_lines utf8) xs ys ∙ rw (p.characters, q.characters) refl;
  ended = feeds_joined xs ys ∙ rw (p.ended, q.ended) refl;
  whole = whole_joined xs ys p.whole q.whole;
}

pub no_lines_written : (utf8 : Bool) (a : Held) → WritesLines utf8 0 a a
no_lines_written utf8 a = record { text = []; lines = record { characters = refl; ended = refl; whole = refl }; written = appends_nothing a a (keeps_refl a) }

pub lines_more : (utf8 : Bool) (m n : ℕ) (a b c : Held) → WritesLines utf8 m a b → WritesLines utf8 n b c → WritesLines utf8 (m + n) a c
lines_more utf8 m n a b c p q = record {
  text = p.text ++ q.text;
  lines = are_joined utf8 m n p.text q.text p.lines q.lines;
  written = appends_more a b c p.text q.text p.written q.written;
}

pub less_after : (utf8 : Bool) (m n : ℕ) (a b c : Held) → WritesLines utf8 m a b → WritesLess utf8 n b c → WritesLess utf8 (m + n) a c
less_after utf8 m n a b c p q = record {
  front = p.text ++ q.front;
  characters = list_all-append (is_of_lines utf8) p.text q.front ∙ rw (p.lines.characters, q.characters) refl;
  fewer = (let e = feeds_joined p.text q.front in let is = p.lines.ended in let fewer = q.fewer in omega (arith, e, is, fewer));
  written = appends_more a b c p.text q.front p.written q.written;
}

-- fewer lines than some are fewer than more
pub less_more : (utf8 : Bool) (m n : ℕ) (a b : Held) → m ≤ n → WritesLess utf8 m a b → WritesLess utf8 n a b
less_more utf8 m n a b le p = record { front = p.front; characters = p.characters; fewer = (let fewer = p.fewer in omega (arith, fewer, le)); written = p.written }

-- the lines of a text that have ended
front_fits : (utf8 : Bool) (front rest : List ℕ) → list_all (is_of_lines utf8) (front ++ rest) ≡ true → list_all (is_of_lines utf8) front ≡ true
front_fits utf8 front rest h = (and_parts (list_all (is_of_lines utf8) front) (list_all (is_of_lines utf8) rest) (sym (list_all-append (is_of_lines utf8) front rest) ∙ h)).0

ended_fit : (utf8 : Bool) (text lines : List ℕ) → EndedLines text lines → list_all (is_of_lines utf8) text ≡ true → list_all (is_of_lines utf8) lines ≡ true
ended_fit utf8 text lines e h = front_fits utf8 lines e.begun (ap (list_all (is_of_lines utf8)) (sym e.parts) ∙ h)

ended_count : (text lines : List ℕ) → EndedLines text lines → feeds lines ≡ feeds text
ended_count text lines e = let is = ap feeds e.parts in let more = feeds_joined lines e.begun in let none = e.none in omega (arith, is, more, none)

pub ended_written : (utf8 : Bool) (a b : Held) (text lines : List ℕ) → list_all (is_of_lines utf8) text ≡ true → EndedLines text lines → Appends a b lines
    → WritesLines utf8 (feeds text) a b
ended_written utf8 a b text lines h e w = record {
  text = lines;
  lines = record { characters = ended_fit utf8 text lines e h; ended = ended_count text lines e; whole = e.whole };
  written = w;
}

pub ended_less : (utf8 : Bool) (a b : Held) (text lines : List ℕ) → list_all (is_of_lines utf8) text ≡ true → EndedLines text lines → AppendsLess a b lines
    → WritesLess utf8 (feeds text) a b
ended_less utf8 a b text lines h e w =
    let is : lines ≡ w.front ++ w.missing ∷ w.rest = w.parts in
    record {
      front = w.front;
      characters = front_fits utf8 w.front (w.missing ∷ w.rest) (ap (list_all (is_of_lines utf8)) (sym is) ∙ ended_fit utf8 text lines e h);
      fewer = (
          let some = whole_counts w.missing w.rest (whole_behind w.front w.missing w.rest (ap is_whole (sym is) ∙ e.whole)) in
          let count = ended_count text lines e in
          let parts = ap feeds is ∙ feeds_joined w.front (w.missing ∷ w.rest) in
          omega (arith, some, count, parts)
          );
      written = w.written;
    }

pub all_ended : (text : List ℕ) → is_whole text ≡ true → EndedLines text text
all_ended text h = record { begun = []; parts = sym (append-nil text); none = refl; whole = h }

-- a prefix of the lines that have ended is one of the text
pub front_none : (a : Held) (text : List ℕ) → AppendsFront a a text
front_none a text = record { front = []; rest = text; parts = refl; written = appends_nothing a a (keeps_refl a) }

pub front_all : (a b : Held) (text : List ℕ) → Appends a b text → AppendsFront a b text
front_all a b text w = record { front = text; rest = []; parts = sym (append-nil text); written = w }

pub front_less : (a b : Held) (text : List ℕ) → AppendsLess a b text → AppendsFront a b text
front_less a b text w = less_is_front a b text w

front_ended : (a b : Held) (text lines : List ℕ) → EndedLines text lines → AppendsFront a b lines → AppendsFront a b text
front_ended a b text lines e w = record {
  front = w.front;
  rest = w.rest ++ e.begun;
  parts = e.parts ∙ ap (λ (l : List ℕ). l ++ e.begun) w.parts ∙ append_assoc w.front w.rest e.begun;
  written = w.written;
}

pub ended_front : (a b : Held) (text lines : List ℕ) → EndedLines text lines → Appends a b lines → AppendsFront a b text
ended_front a b text lines e w = front_ended a b text lines e (front_all a b lines w)

pub ended_front_less : (a b : Held) (text lines : List ℕ) → EndedLines text lines → AppendsLess a b lines → AppendsFront a b text
ended_front_less a b text lines e w = front_ended a b text lines e (front_less a b lines w)

-- no line feed is behind these bytes of a text
pub record BegunBehind (text bytes : List ℕ) : Type 0 where
  pub begun : List ℕ
  pub parts : text ≡ bytes ++ begun
  pub none : feeds begun ≡ 0

pub begun_whole : (text bytes : List ℕ) → 0 < length bytes → slice_index bytes (length bytes - 1) ≡ 10 → BegunBehind text bytes → EndedLines text bytes
begun_whole text bytes some last e =
    record { begun = e.begun; parts = e.parts; none = e.none; whole = whole_at bytes some ∙ rw last refl }

-- lines put, and passed on
pub nothing_put : (a : Held) (p : Written) → PutsLines a a p p 0
nothing_put a p = record { gained = 0; parts = omega arith; same = refl; written = no_lines_written p.utf8 a }

pub all_passed : (utf8 : Bool) (a b : Held) (text : List ℕ) → list_all (is_of_lines utf8) text ≡ true → is_whole text ≡ true → Appends a b text
    → PutsLines a b (written (record { utf8 = utf8; bytes = text })) (written (no_lines utf8)) 0
all_passed utf8 a b text h whole w =
    record { gained = feeds text; parts = refl; same = refl; written = ended_written utf8 a b text text h (all_ended text whole) w }

pub not_passed : (utf8 : Bool) (a b : Held) (text : List ℕ) → list_all (is_of_lines utf8) text ≡ true → is_whole text ≡ true → AppendsLess a b text
    → WritesLess utf8 (feeds text) a b
not_passed utf8 a b text h whole w = ended_less utf8 a b text text h (all_ended text whole) w

-- lines put after lines put
same_lines : (utf8 other : Bool) (count : ℕ) (a b : Held) → other ≡ utf8 → WritesLines other count a b → WritesLines utf8 count a b
same_lines utf8 other count a b e p = subst (λ (u : Bool). WritesLines u count a b) e p

pub puts_lines : {a b : Held} {p q r : Written} {n : ℕ} (k : ℕ) → PutsLines a b p q n → r ≡ more_lines k q → PutsLines a b p r (n + k)
puts_lines {q = q} k put more = record {
  gained = put.gained;
  parts = (let parts = put.parts in let ended = ap (λ (w : Written). w.ended) more in omega (arith, parts, ended));
  same = ap (λ (w : Written). w.utf8) more ∙ put.same;
  written = put.written;
}

pub puts_more : {a b c : Held} {p q r : Written} {m n : ℕ} → PutsLines a b p q m → PutsLines b c q r n → PutsLines a c p r (m + n)
puts_more {a} {b} {c} {p} {q} put more = record {
  gained = put.gained + more.gained;
  parts = (let before = put.parts in let after = more.parts in omega (arith, before, after));
  same = more.same ∙ put.same;
  written = lines_more p.utf8 put.gained more.gained a b c put.written (same_lines p.utf8 q.utf8 more.gained b c put.same more.written);
}

-- lines put, and passed on then
pub puts_passed : {a b c : Held} {p q r s : Written} {n : ℕ} (k : ℕ) → PutsLines a b p q n → r ≡ more_lines k q → PutsLines b c r s 0 → PutsLines a c p s (n + k)
puts_passed {a} {b} {c} {p} {q} {r} {s} {n} k put more passed =
    let count : n + k + 0 ≡ n + k = omega arith in subst (λ (m : ℕ). PutsLines a c p s m) count (puts_more (puts_lines k put more) passed)

pub puts_finished : {a b c : Held} {p q : Written} {n : ℕ} (count : ℕ) → PutsLines a b p q n → WritesLines q.utf8 q.ended b c → p.ended + n ≡ count → WritesLines p.utf8 count a c
puts_finished {a} {b} {c} {p} {q} count put rest is =
    let all : put.gained + q.ended ≡ count = (let parts = put.parts in omega (arith, parts, is)) in
    subst (λ (n : ℕ). WritesLines p.utf8 n a c) all (lines_more p.utf8 put.gained q.ended a b c put.written (same_lines p.utf8 q.utf8 q.ended b c put.same rest))

-- a writer that failed then, of this many lines or more
pub puts_broken : {a b c : Held} {p q : Written} {n : ℕ} (count : ℕ) → PutsLines a b p q n → WritesLess q.utf8 q.ended b c → p.ended + n ≤ count → WritesLess p.utf8 count a c
puts_broken {a} {b} {c} {p} {q} count put less most =
    let parts = put.parts in
    less_more p.utf8 (put.gained + q.ended) count a c (omega (arith, parts, most))
    (less_after p.utf8 put.gained q.ended a b c put.written (subst (λ (u : Bool). WritesLess u q.ended b c) put.same less))

-- what the writer gained, where more lines were to come
pub puts_less : {a b : Held} {p q : Written} {n : ℕ} (count : ℕ) → PutsLines a b p q n → p.ended + n < count → WritesLess p.utf8 count a b
puts_less count put few = record {
  front = put.written.text;
  characters = put.written.lines.characters;
  fewer = (let parts = put.parts in let ended = put.written.lines.ended in omega (arith, parts, ended, few));
  written = put.written.written;
}

-- ---- a text of this many lines with a given prefix

feed_fits : (utf8 : Bool) → is_of_lines utf8 10 ≡ true
feed_fits true = refl
feed_fits false = refl

feeds_fit : (utf8 : Bool) (n : ℕ) → list_all (is_of_lines utf8) (replicate n 10) ≡ true
feeds_fit utf8 zero = refl
feeds_fit utf8 (suc n) = rw (feed_fits utf8, feeds_fit utf8 n) refl

feeds_counted : (n : ℕ) → feeds (replicate n 10) ≡ n
feeds_counted zero = refl
feeds_counted (suc n) = let one = feeds_more 10 (replicate n 10) in let more = feeds_counted n in omega (arith, one, more)

feeds_whole : (n : ℕ) → is_whole (replicate n 10) ≡ true
feeds_whole zero = refl
feeds_whole (suc zero) = refl
feeds_whole (suc (suc n)) = feeds_whole (suc n)

whole_after : (front : List ℕ) (x : ℕ) (rest : List ℕ) → is_whole (x ∷ rest) ≡ true → is_whole (front ++ x ∷ rest) ≡ true
whole_after [] x rest h = h
whole_after (a ∷ []) x rest h = h
whole_after (a ∷ b ∷ front) x rest h = whole_after (b ∷ front) x rest h

-- what the writer gained is a prefix of such a text
pub record FrontOfLines (utf8 : Bool) (count : ℕ) (old new : Held) : Type 0 where
  pub text : List ℕ
  pub lines : AreLines utf8 count text
  pub less : AppendsLess old new text

pub less_completed : (utf8 : Bool) (count : ℕ) (a b : Held) → WritesLess utf8 count a b → FrontOfLines utf8 count a b
less_completed utf8 count a b w =
    let left = count - feeds w.front - 1 in
    record {
      text = w.front ++ 10 ∷ replicate left 10;
      lines = record {
        characters = list_all-append (is_of_lines utf8) w.front (10 ∷ replicate left 10) ∙ rw (w.characters, feed_fits utf8, feeds_fit utf8 left) refl;
        ended = (
            let parts = feeds_joined w.front (10 ∷ replicate left 10) in
            let one = feeds_more 10 (replicate left 10) in
            let more = feeds_counted left in
            let fewer = w.fewer in
            omega (arith, parts, one, more, fewer)
            );
        whole = whole_after w.front 10 (replicate left 10) (feeds_whole (suc left));
      };
      less = record { front = w.front; missing = 10; rest = replicate left 10; parts = refl; written = w.written };
    }

pub some_lines : (utf8 : Bool) (count : ℕ) → AreLines utf8 count (replicate count 10)
some_lines utf8 count = record { characters = feeds_fit utf8 count; ended = feeds_counted count; whole = feeds_whole count }
