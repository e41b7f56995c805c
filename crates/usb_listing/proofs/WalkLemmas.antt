-- A listing read byte by byte: what is so of the bytes so far.
use Rattle.std.proofs.Common.{◌≡◌, ◌≢◌, ℕ, ◌&&◌, Bool, true, false, cond, List, [], ◌∷◌, ◌++◌, Option, Some, None, unwrap_or, Result, Ok, Err, refl, ap, sym, ◌∙◌, append_assoc, append-nil}
use Rattle.std.specs.List.{list_all}
use Rattle.usb_file_data.specs.declared.file.DescriptorFile.{DescriptorFile}
use Rattle.usb_listing.specs.declared.fault.ListWhy.{ListWhy}
use Rattle.usb_listing.specs.declared.fault.ListWhy.TheVariants as whys
use Rattle.usb_listing.specs.declared.word.Word.{Word}
use Rattle.usb_listing.specs.Words.{first_word, word_text}
use Rattle.usb_text.specs.Lines.{is_printable}
use Rattle.usb_listing.specs.Says.{Item, Says, item_word}
use Rattle.usb_listing.specs.Order.{file_items, has_over, items_of}
use Rattle.usb_listing.specs.Listings.{FirstLine, IsBegun, RestFaulty}
use Rattle.usb_listing.specs.inside.Rows.{word_in, item_of_line}
use Rattle.usb_listing.specs.inside.Growing.{may_stand}
use Rattle.usb_listing.specs.inside.Walking.{Walk, add, add_item, add_line, add_word, after_line, going, grown, stopped, walk, walk_byte}
use Rattle.usb_listing.proofs.LessLemmas.{may_is}
use Rattle.usb_listing.proofs.MoreLemmas.{AreOrdered, more}
use Rattle.usb_listing.proofs.PrintableLemmas.{said_printable}
use Rattle.usb_listing.proofs.SaysLemmas.{read_is_said, said_is_read, said_word}
use Rattle.usb_listing.proofs.StandLemmas.{may_then}
use Rattle.usb_listing.proofs.WordLemmas.{word_again, word_read}

abbrev pub Printable : List ℕ → Type 0
Printable line = list_all is_printable line ≡ true

-- ---- the walk over pieces

pub walk-append : (w : Walk) (xs ys : List ℕ) → walk w (xs ++ ys) ≡ walk (walk w xs) ys
walk-append w [] ys = refl
walk-append w (x ∷ xs) ys = walk-append (walk_byte w x) xs ys

pub walk_stopped : (n : ℕ) (why : ListWhy) (text : List ℕ) → walk (stopped n why) text ≡ stopped n why
unfolding walk_byte
walk_stopped n why [] = refl
walk_stopped n why (x ∷ text) = walk_stopped n why text

printable_parts : (x : ℕ) (line : List ℕ) → Printable (x ∷ line) → (is_printable x ≡ true) × Printable line
printable_parts x line h = cases (is_printable x) refl h
  where
    cases : (b : Bool) → is_printable x ≡ b → (b && list_all is_printable line) ≡ true → (is_printable x ≡ true) × Printable line
    cases true e h = (e, h)
    cases false e h = cc

-- one byte that a line may have
byte_taken : (s : Option DescriptorFile) (n : ℕ) (line : List ℕ) (x : ℕ) → is_printable x ≡ true → walk_byte (going s n line) x ≡ going s n (line ++ x ∷ [])
unfolding walk_byte
byte_taken s n line x e = pick (is_printable x) e _ _
  where
    pick : (b : Bool) → b ≡ true → (u v : Walk) → cond b u v ≡ u
    pick true e u v = refl
    pick false e u v = cc

pub walk_line : (s : Option DescriptorFile) (n : ℕ) (line text rest : List ℕ) → Printable text → walk (going s n line) (text ++ rest) ≡ walk (going s n (line ++ text)) rest
walk_line s n line [] rest h = ap (λ (l : List ℕ). walk (going s n l) rest) (sym (append-nil line))
walk_line s n line (x ∷ text) rest h =
    let p = printable_parts x text h in
    ap (λ (w : Walk). walk w (text ++ rest)) (byte_taken s n line x p.0) ∙ walk_line s n (line ++ x ∷ []) text rest p.1
    ∙ ap (λ (l : List ℕ). walk (going s n l) rest) (append_assoc line (x ∷ []) text)

-- a line feed
pub walk_feed : (s : Option DescriptorFile) (n : ℕ) (line more : List ℕ) → walk (going s n line) (10 ∷ more) ≡ walk (after_line n (add_line s line)) more
unfolding walk_byte
walk_feed s n line more = refl

pub walk_whole : (s : Option DescriptorFile) (n : ℕ) (line more : List ℕ) → Printable line → walk (going s n []) (line ++ 10 ∷ more) ≡ walk (after_line n (add_line s line)) more
walk_whole s n line more h = walk_line s n [] line (10 ∷ more) h ∙ walk_feed s n line more

-- ---- what a line makes of a front

-- a fault that more text does not change
abbrev pub Lasts : Option DescriptorFile → List ℕ → ListWhy → Type 0
Lasts s rest whys.Line = (line more : List ℕ) × (x : ℕ) × (rest ≡ line ++ x ∷ more) × Printable line × (is_printable x ≡ false) × (x ≢ 10)
Lasts s rest whys.Missing = ⊥
Lasts s rest why = RestFaulty s rest why

-- the line made this of it: a front with its descriptor, or a fault that lasts
abbrev pub Makes : Option DescriptorFile → List ℕ → Result DescriptorFile ListWhy → Type 0
Makes s line (Ok f) = IsBegun (Some f) × (item : Item) × (file_items f ≡ items_of s ++ item ∷ []) × Says line item
Makes s line (Err why) = Lasts s (line ++ 10 ∷ []) why

whole : (line : List ℕ) → Printable line → FirstLine (line ++ 10 ∷ []) line []
whole line h = record { parts = refl; printable = h }

-- the descriptor's own word stood there
pub same_word : (line : List ℕ) (item : Item) (w : Word) → Says line item → first_word line ≡ word_text w → item_word item ≡ w
same_word line item w says first =
    let is : Some (item_word item) ≡ Some w = sym (word_again (item_word item)) ∙ ap word_in (sym (said_word line item says) ∙ first) ∙ word_again w in
    ap (λ (o : Option Word). unwrap_or o w) is

pub ordered_of : (s : Option DescriptorFile) → IsBegun s → AreOrdered s
ordered_of None h = tt
ordered_of (Some f) h = h.0

makes_said : (s : Option DescriptorFile) (line : List ℕ) (item : Item) → IsBegun s → Printable line → Says line item → may_stand s (item_word item) ≡ true → Makes s line (add s item)
makes_said s line item begun print says may = cases (has_over (grown s item)) refl
  where
    cases : (b : Bool) → has_over (grown s item) ≡ b → Makes s line (cond b (Err whys.TooLong) (Ok (grown s item)))
    cases true e = let m = more s item (ordered_of s begun) says.is_item may in record { line = line; more = []; first = whole line print; fault = (item, grown s item, says, m, e) }
    cases false e = let m = more s item (ordered_of s begun) says.is_item may in ((m.ordered, e), item, m.items, says)

makes_item : (s : Option DescriptorFile) (line : List ℕ) (w : Word) → IsBegun s → Printable line → first_word line ≡ word_text w → may_stand s w ≡ true
    → (found : Option Item) → item_of_line line ≡ found → Makes s line (add_item s found)
makes_item s line w begun print first may None e = record {
  line = line;
  more = [];
  first = whole line print;
  fault = (w, first, may_then s w (ordered_of s begun) may, λ item says. let read = sym e ∙ said_is_read line item says in cc);
}
makes_item s line w begun print first may (Some item) e =
    let says = read_is_said line item e in
    makes_said s line item begun print says (ap (may_stand s) (same_word line item w says first) ∙ may)

makes_word : (s : Option DescriptorFile) (line : List ℕ) → IsBegun s → Printable line → (o : Option Word) → word_in (first_word line) ≡ o → Makes s line (add_word s o (item_of_line line))
makes_word s line begun print None e = record {
  line = line;
  more = [];
  first = whole line print;
  fault = λ word first. let found = sym e ∙ ap word_in first ∙ word_again word in cc;
}
makes_word s line begun print (Some w) e = cases (may_stand s w) refl
  where
    cases : (b : Bool) → may_stand s w ≡ b → Makes s line (cond b (add_item s (item_of_line line)) (Err whys.Place))
    cases false em = record {
      line = line;
      more = [];
      first = whole line print;
      fault = (w, word_read (first_word line) w e, λ m. let may = sym em ∙ may_is s w (ordered_of s begun) m in cc);
    }
    cases true em = makes_item s line w begun print (word_read (first_word line) w e) em (item_of_line line) refl

pub makes : (s : Option DescriptorFile) (line : List ℕ) → IsBegun s → Printable line → Makes s line (add_line s line)
unfolding add_line
makes s line begun print = makes_word s line begun print (word_in (first_word line)) refl

-- a line that was read has only bytes that a line may have
pub made_printable : (s : Option DescriptorFile) (line : List ℕ) (f : DescriptorFile) → add_line s line ≡ Ok f → Printable line
unfolding add_line
made_printable s line f e = by_word (word_in (first_word line)) e
  where
    by_item : (o : Option Item) → item_of_line line ≡ o → add_item s o ≡ Ok f → Printable line
    by_item None eo e = cc
    by_item (Some item) eo e = said_printable line item (read_is_said line item eo)

    by_place : (b : Bool) → cond b (add_item s (item_of_line line)) (Err whys.Place) ≡ Ok f → Printable line
    by_place true e = by_item (item_of_line line) refl e
    by_place false e = cc

    by_word : (o : Option Word) → add_word s o (item_of_line line) ≡ Ok f → Printable line
    by_word None e = cc
    by_word (Some w) e = by_place (may_stand s w) e
