-- A line that is found by its line feed.
use Rattle.std.proofs.Common.{◌≡◌, ◌≢◌, ℕ, zero, suc, ◌+◌, ◌-◌, ◌<◌, ◌≤◌, ◌&&◌, ◌⊎◌, inl, inr, slice_index, if◌then◌else◌, Bool, true, false, cond, List, [], ◌∷◌, ◌++◌, Option, Some, None, length, take, drop, refl, ap, sym, subst, ◌∙◌, append_assoc, append-nil, arith}
use Rattle.std.specs.List.{list_all}
use Rattle.std.proofs.lemmas.List.{length-drop, take_all}
use Rattle.memchr.specs.Find.{IsFirst, IsFirstByte, Passes, TakesFirst, first_of, is_byte, places, places_from}
use Rattle.std.proofs.Math.Nat.{eq-or-lt_of_le}
use Rattle.std.proofs.lemmas.Bool.{false≢true}
use Rattle.usb_file_data.specs.declared.file.DescriptorFile.{DescriptorFile}
use Rattle.usb_listing.specs.declared.fault.ListWhy.{ListWhy}
use Rattle.usb_listing.specs.declared.fault.ListWhy.TheVariants as whys
use Rattle.usb_text.specs.Lines.{is_printable}
use Rattle.usb_listing.specs.Listings.{IsBegun, LineFaulty, NoLineGoesOn}
use Rattle.usb_listing.specs.declared.assembly.Form.{Form}
use Rattle.usb_listing.specs.inside.Drafts.{IsJudged, Stops, Reported}
use Rattle.usb_listing.specs.inside.Walking.{line_read, text_read, Cut, HasNo, add_line}
use Rattle.usb_listing.proofs.FormLemmas.{read_cut, read_none}
use Rattle.usb_listing.proofs.ReadingLemmas.{reported_line}
use Rattle.usb_listing.proofs.WalkLemmas.{Printable}
use Rattle.usb_listing.proofs.WordLemmas.{byte_found, byte_nowhere}

-- ---- the search for a line feed

-- the first of the places that pass a test is the first place that does
first_place : (test : ℕ → Bool) (text : List ℕ) (i n : ℕ) → IsFirst (Passes test text) i (i + n) (first_of (places_from test text i n))
unfolding places_from first_of
first_place test text i zero = λ k low high passes. absurd (omega arith)
first_place test text i (suc n) = by (test (slice_index text i)) refl (first_place test text (i + 1) n)
  where
    later : (r : Option ℕ) → test (slice_index text i) ≡ false → IsFirst (Passes test text) (i + 1) (i + 1 + n) r → IsFirst (Passes test text) i (i + suc n) r
    later r e is = wider r is
      where
        not_here : (k : ℕ) → i ≤ k → Passes test text k → i + 1 ≤ k
        not_here k low passes = at (eq-or-lt_of_le low)
          where
            at : (i ≡ k) ⊎ (i < k) → i + 1 ≤ k
            at (inl same) = absurd (false≢true (sym e ∙ ap (λ m. test (slice_index text m)) same ∙ passes))
            at (inr above) = omega (arith, above)

        wider : (r : Option ℕ) → IsFirst (Passes test text) (i + 1) (i + 1 + n) r → IsFirst (Passes test text) i (i + suc n) r
        wider None none = λ k low high passes. none k (not_here k low passes) (omega (arith, high)) passes
        wider (Some k) (first, passes) =
            (record { low = omega (arith, first.low); high = omega (arith, first.high); before = λ m low high there. first.before m (not_here m low there) high there }, passes)

    by : (b : Bool) → test (slice_index text i) ≡ b → IsFirst (Passes test text) (i + 1) (i + 1 + n) (first_of (places_from test text (i + 1) n))
        → IsFirst (Passes test text) i (i + suc n) (first_of (if b then i ∷ places_from test text (i + 1) n else places_from test text (i + 1) n))
    by true e rest = (record { low = omega arith; high = omega arith; before = λ m low high there. absurd (omega (arith, low, high)) }, e)
    by false e rest = later (first_of (places_from test text (i + 1) n)) e rest

pub first_found : (text before after : List ℕ) (r : Option ℕ) → before ≡ places (is_byte 10) text → TakesFirst before r after → IsFirstByte (is_byte 10) text r
unfolding first_of
first_found text before after r all takes = subst (IsFirstByte (is_byte 10) text) (sym (taken r takes ∙ ap first_of all)) first
  where
    taken : (r : Option ℕ) → TakesFirst before r after → r ≡ first_of before
    taken None none = sym (ap first_of none.0)
    taken (Some n) some = sym (ap first_of some)

    count : 0 + (length text - 0) ≡ length text
    count = omega arith

    first : IsFirstByte (is_byte 10) text (first_of (places (is_byte 10) text))
    first = subst (λ end. IsFirst (Passes (is_byte 10) text) 0 end (first_of (places (is_byte 10) text))) count (first_place (is_byte 10) text 0 (length text - 0))

pub feed_found : (text : List ℕ) (r : Option ℕ) (n : ℕ) → IsFirstByte (is_byte 10) text r → r ≡ Some n → Cut 10 text (take n text) (take (length text - (n + 1)) (drop (n + 1) text))
feed_found text r n is e =
    let count = length-drop (n + 1) text in
    let whole = take_all (length text - (n + 1)) (drop (n + 1) text) (omega (arith, count)) in
    rw whole (byte_found 10 text r n is e)

pub feed_nowhere : (text : List ℕ) (r : Option ℕ) → IsFirstByte (is_byte 10) text r → r ≡ None → HasNo 10 text
feed_nowhere text r is e = byte_nowhere 10 text r is e

-- ---- a text without a line feed

-- the bytes that a line may have, and what stops them
record Ends (text : List ℕ) : Type 0 where
  pub line : List ℕ
  pub more : List ℕ
  pub parts : text ≡ line ++ more
  pub printable : Printable line
  pub stop : NoLineGoesOn more

ends : (text : List ℕ) → HasNo 10 text → Ends text
ends [] h = record { line = []; more = []; parts = refl; printable = refl; stop = tt }
ends (x ∷ text) h = cases (is_printable x) refl (ends text h.1)
  where
    cases : (b : Bool) → is_printable x ≡ b → Ends text → Ends (x ∷ text)
    cases false e s = record { line = []; more = x ∷ text; parts = refl; printable = refl; stop = (e, h.0) }
    cases true e s = record {
      line = x ∷ s.line;
      more = s.more;
      parts = ap (λ (xs : List ℕ). x ∷ xs) s.parts;
      printable = both (is_printable x) (list_all is_printable s.line) e s.printable;
      stop = s.stop;
    }
      where
        both : (a b : Bool) → a ≡ true → b ≡ true → (a && b) ≡ true
        both a b ea eb = rw (ea, eb) refl

pub no_feed_faulty : (form : Form) (text : List ℕ) → text ≢ [] → HasNo 10 text → LineFaulty (text_read form text)
no_feed_faulty form text some h = let s = ends text h in subst LineFaulty (sym (read_none form text h)) (s.line, s.more, some, s.parts, s.printable, s.stop)

-- a first line with a byte that no line has
bad_line : (text line more : List ℕ) → Cut 10 text line more → list_all is_printable line ≡ false → LineFaulty text
bad_line text line more cut bad = at (ends line cut.none)
  where
    at : Ends line → LineFaulty text
    at s = cases s.more s.parts s.stop
      where
        cases : (m : List ℕ) → line ≡ s.line ++ m → NoLineGoesOn m → LineFaulty text
        cases [] parts stop =
            absurd (let same : line ≡ s.line = parts ∙ append-nil s.line in let print = subst Printable (sym same) s.printable in let z = sym bad ∙ print in cc)
        cases (x ∷ m) parts stop =
            let whole : text ≡ s.line ++ x ∷ (m ++ 10 ∷ more) =
            cut.parts ∙ ap (λ (xs : List ℕ). xs ++ 10 ∷ more) parts ∙ append_assoc s.line (x ∷ m) (10 ∷ more) in
            (s.line, x ∷ (m ++ 10 ∷ more), λ none. some s.line x (m ++ 10 ∷ more) (sym whole ∙ none), whole, s.printable, stop)
          where
            some : (xs : List ℕ) (x : ℕ) (ys : List ℕ) → xs ++ x ∷ ys ≡ [] → ⊥
            some [] x ys e = cc
            some (y ∷ xs) x ys e = cc

-- ---- a line that was found

-- the first reason that holds of a line that was refused
first_reported : (s : Option DescriptorFile) (text line more : List ℕ) (why : ListWhy) → IsBegun s → Cut 10 text line more → Stops (add_line s line) why → IsJudged s line why
    → Reported s text (cond (list_all is_printable line) why whys.Line)
first_reported s text line more why begun cut refused judged = cases (list_all is_printable line) refl
  where
    cases : (b : Bool) → list_all is_printable line ≡ b → Reported s text (cond b why whys.Line)
    cases true e = reported_line s text line more why begun (record { parts = cut.parts; printable = e }) refused judged
    cases false e = bad_line text line more cut e

pub read_reported : (form : Form) (s : Option DescriptorFile) (text line more read : List ℕ) (why : ListWhy) → IsBegun s → Cut 10 text line more → line_read form line ≡ Some read
    → Stops (add_line s read) why → IsJudged s read why → Reported s (text_read form text) (cond (list_all is_printable read) why whys.Line)
read_reported form s text line more read why begun cut is refused judged =
    first_reported s (text_read form text) read (text_read form more) why begun (read_cut form text line more read cut is) refused judged
