-- A listing, walked, is its file, and a text with a fault that fault.
use Rattle.std.proofs.Common.{◌≡◌, ◌≢◌, ℕ, zero, suc, ◌+◌, ◌≤◌, ◌==◌, Bool, true, false, cond, List, [], ◌∷◌, ◌++◌, Option, Some, None, Result, Ok, Err, length, refl, ap, sym, ◌∙◌, length-append, arith}
use Rattle.std.proofs.lemmas.Bool.{ne_eqb}
use Rattle.usb_file_data.specs.declared.file.DescriptorFile.{DescriptorFile}
use Rattle.usb_listing.specs.declared.fault.ListWhy.{ListWhy}
use Rattle.usb_listing.specs.declared.fault.ListWhy.TheVariants as whys
use Rattle.usb_listing.specs.declared.word.Word.{Word}
use Rattle.usb_listing.specs.Words.{first_word, word_text}
use Rattle.usb_text.specs.Lines.{is_printable}
use Rattle.usb_listing.specs.Says.{Item, Says, item_word}
use Rattle.usb_listing.specs.Order.{MayStand, file_items, has_over, items_of}
use Rattle.usb_listing.specs.Listings.{Begins, FirstLine, IsBegun, ListFaulty, Lists, NoLineGoesOn, RestFaulty, is_whole, lines_of}
use Rattle.usb_listing.specs.inside.Rows.{word_in, item_of_line}
use Rattle.usb_listing.specs.inside.Growing.{may_stand}
use Rattle.usb_listing.specs.inside.Walking.{Walk, add, add_line, after_line, answer_of, fault_behind, file_end, going, grown, stopped, walk, walk_byte, walk_end}
use Rattle.usb_listing.proofs.LessLemmas.{Less, less, less_items, may_is, next, over_of}
use Rattle.usb_listing.proofs.MoreLemmas.{AreOrdered}
use Rattle.usb_listing.proofs.PrintableLemmas.{line_of-printable}
use Rattle.usb_listing.proofs.ReadingLemmas.{lines_more}
use Rattle.usb_listing.proofs.SaysLemmas.{line_of, line_of-says, read_is_said, said_is_read, said_word}
use Rattle.usb_listing.proofs.StandLemmas.{may_then}
use Rattle.usb_listing.proofs.StepLemmas.{no_place, no_word, placed}
use Rattle.usb_listing.proofs.WalkLemmas.{Printable, ordered_of, walk-append, walk_line, walk_stopped, walk_whole}
use Rattle.usb_listing.proofs.WholeLemmas.{file_begun, file_whole}
use Rattle.usb_listing.proofs.WordLemmas.{word_again, word_read}

-- ---- the lines of a file so far

-- a line that says a descriptor, which may stand there
said_made : (s : Option DescriptorFile) (line : List ℕ) (item : Item) → Says line item → may_stand s (item_word item) ≡ true → add_line s line ≡ add s item
said_made s line item says may =
    placed s line (item_word item) (Some item) (ap word_in (said_word line item says) ∙ word_again (item_word item)) may (said_is_read line item says)

-- one line more
walk_last : (f : DescriptorFile) → IsBegun (Some f) → (l : Less f) → walk (going None 0 []) (lines_of l.before) ≡ going l.before (length (items_of l.before)) []
    → walk (going None 0 []) (lines_of (Some f)) ≡ going (Some f) (length (file_items f)) []
walk_last f begun l before =
    let n = length (items_of l.before) in
    let line = line_of l.item in
    let says = line_of-says l.item l.is_item in
    let made : add l.before l.item ≡ Ok f = ap (λ (g : DescriptorFile). cond (has_over g) (Err whys.TooLong) (Ok g)) l.grown_is ∙ ap (λ (b : Bool). cond b (Err whys.TooLong) (Ok f)) begun.1 in
    let count : n + 1 ≡ length (file_items f) = sym (ap length (less_items f l) ∙ length-append (items_of l.before) (l.item ∷ [])) in
    ap (walk (going None 0 [])) (lines_more l.before f l.item line l.ordered begun.0 (less_items f l) says)
    ∙ walk-append (going None 0 []) (lines_of l.before) (line ++ 10 ∷ [])
    ∙ ap (λ (w : Walk). walk w (line ++ 10 ∷ [])) before
    ∙ walk_whole l.before n line [] (line_of-printable l.item l.is_item)
    ∙ ap (after_line n) (said_made l.before line l.item says l.may ∙ made)
    ∙ ap (λ (k : ℕ). going (Some f) k []) count

begun_less : (f : DescriptorFile) → IsBegun (Some f) → (l : Less f) → IsBegun l.before
begun_less f begun l = both l.before l.ordered (l.over begun.1)
  where
    both : (s : Option DescriptorFile) → AreOrdered s → over_of s ≡ false → IsBegun s
    both None h e = tt
    both (Some g) h e = (h, e)

walk_within : (n : ℕ) (s : Option DescriptorFile) → IsBegun s → length (items_of s) ≤ n → walk (going None 0 []) (lines_of s) ≡ going s (length (items_of s)) []
walk_within n None begun few = refl
walk_within zero (Some f) begun few = absurd (omega (arith, few))
walk_within (suc n) (Some f) begun few =
    let l = less f begun.0 in
    let count : length (file_items f) ≡ length (items_of l.before) + 1 = ap length (less_items f l) ∙ length-append (items_of l.before) (l.item ∷ []) in
    walk_last f begun l (walk_within n l.before (begun_less f begun l) (omega (arith, count, few)))

-- the lines of a file so far, walked, are that file
pub walk_begun : (s : Option DescriptorFile) → IsBegun s → walk (going None 0 []) (lines_of s) ≡ going s (length (items_of s)) []
walk_begun s begun = walk_within (length (items_of s)) s begun (omega arith)

-- behind them the rest of the text is walked
pub walk_front : (text : List ℕ) (s : Option DescriptorFile) (rest : List ℕ) (line : ℕ) → Begins text s rest line
    → walk (going None 0 []) text ≡ walk (going s (length (items_of s)) []) rest
walk_front text s rest line b =
    ap (walk (going None 0 [])) b.parts ∙ walk-append (going None 0 []) (lines_of s) rest ∙ ap (λ (w : Walk). walk w rest) (walk_begun s b.begun)

-- ---- a listing

end_whole : (f : DescriptorFile) (n : ℕ) → is_whole (Some f) ≡ true → file_end (Some f) n ≡ Ok f
end_whole f n e = ap (λ (b : Bool). cond b (Ok f) (Err (fault_behind n whys.Missing))) e

pub answer_listing : (text : List ℕ) (f : DescriptorFile) → Lists text f → answer_of text ≡ Ok f
unfolding answer_of
answer_listing text f l =
    ap walk_end (ap (walk (going None 0 [])) l.lines ∙ walk_begun (Some f) (file_begun f l.bytes l.file))
    ∙ end_whole f (length (file_items f)) (file_whole f l.bytes l.file)

-- ---- a fault

-- a line of which nothing can be made
stops : (s : Option DescriptorFile) (n : ℕ) (rest line more : List ℕ) (why : ListWhy) → FirstLine rest line more → add_line s line ≡ Err why
    → walk_end (walk (going s n []) rest) ≡ Err (fault_behind n why)
stops s n rest line more why first e =
    ap walk_end
    (ap (walk (going s n [])) first.parts ∙ walk_whole s n line more first.printable
    ∙ ap (λ (r : Result DescriptorFile ListWhy). walk (after_line n r) more) e ∙ walk_stopped n why more)

-- no byte of a line, and no line feed
byte_stops : (s : Option DescriptorFile) (n : ℕ) (line : List ℕ) (x : ℕ) → is_printable x ≡ false → x ≢ 10 → walk_byte (going s n line) x ≡ stopped n whys.Line
unfolding walk_byte
byte_stops s n line x bad other = pick (is_printable x) (x == 10) bad (ne_eqb x 10 other) _ _ _
  where
    pick : (a b : Bool) → a ≡ false → b ≡ false → (u v w : Walk) → cond a u (cond b v w) ≡ w
    pick a b ea eb u v w = rw (ea, eb) refl

line_stops : (s : Option DescriptorFile) (n : ℕ) (line more : List ℕ) → line ++ more ≢ [] → Printable line → NoLineGoesOn more → walk_end (walk (going s n []) (line ++ more)) ≡ Err (fault_behind n whys.Line)
line_stops s n line [] some print end = ap walk_end (walk_line s n [] line [] print) ∙ cut line some
  where
    cut : (line : List ℕ) → line ++ [] ≢ [] → walk_end (going s n line) ≡ Err (fault_behind n whys.Line)
    cut [] some = absurd (some refl)
    cut (x ∷ line) some = refl
line_stops s n line (x ∷ more) some print end =
    ap walk_end
    (walk_line s n [] line (x ∷ more) print ∙ ap (λ (w : Walk). walk w more) (byte_stops s n line x end.0 end.1) ∙ walk_stopped n whys.Line more)

no_word_in : (line : List ℕ) → ((word : Word) → first_word line ≢ word_text word) → (o : Option Word) → word_in (first_word line) ≡ o → o ≡ None
no_word_in line none None e = refl
no_word_in line none (Some w) e = absurd (none w (word_read (first_word line) w e))

no_item_in : (line : List ℕ) → ((item : Item) → Says line item → ⊥) → (o : Option Item) → item_of_line line ≡ o → o ≡ None
no_item_in line none None e = refl
no_item_in line none (Some item) e = absurd (none item (read_is_said line item e))

no_stand : (s : Option DescriptorFile) (w : Word) → IsBegun s → (MayStand s w → ⊥) → may_stand s w ≡ false
no_stand s w begun none = cases (may_stand s w) refl
  where
    cases : (b : Bool) → may_stand s w ≡ b → b ≡ false
    cases true e = absurd (none (may_then s w (ordered_of s begun) e))
    cases false e = refl

end_missing : (s : Option DescriptorFile) (n : ℕ) → is_whole s ≡ false → file_end s n ≡ Err (fault_behind n whys.Missing)
end_missing None n e = refl
end_missing (Some f) n e = ap (λ (b : Bool). cond b (Ok f) (Err (fault_behind n whys.Missing))) e

fault_reported : (s : Option DescriptorFile) (n : ℕ) (rest : List ℕ) (why : ListWhy) → IsBegun s → RestFaulty s rest why → walk_end (walk (going s n []) rest) ≡ Err (fault_behind n why)
fault_reported s n rest whys.Line begun (line, more, some, parts, print, end) =
    ap (λ (xs : List ℕ). walk_end (walk (going s n []) xs)) parts ∙ line_stops s n line more (λ e. some (parts ∙ e)) print end
fault_reported s n rest whys.Word begun h =
    stops s n rest h.line h.more whys.Word h.first (no_word s h.line (no_word_in h.line h.fault (word_in (first_word h.line)) refl))
fault_reported s n rest whys.Place begun h =
    let w = h.fault.0 in
    stops s n rest h.line h.more whys.Place h.first (no_place s h.line w (ap word_in h.fault.1 ∙ word_again w) (no_stand s w begun h.fault.2))
fault_reported s n rest whys.Field begun h =
    let w = h.fault.0 in
    stops s n rest h.line h.more whys.Field h.first
    (placed s h.line w None (ap word_in h.fault.1 ∙ word_again w) (may_is s w (ordered_of s begun) h.fault.2) (no_item_in h.line h.fault.3 (item_of_line h.line) refl))
fault_reported s n rest whys.TooLong begun h =
    let item = h.fault.0 in
    let is = next s item h.fault.1 (ordered_of s begun) h.fault.3 in
    stops s n rest h.line h.more whys.TooLong h.first
    (said_made s h.line item h.fault.2 is.may ∙ ap (λ (b : Bool). cond b (Err whys.TooLong) (Ok (grown s item))) (ap has_over is.is ∙ h.fault.4))
fault_reported s n rest whys.Missing begun (none, due) = ap (λ (xs : List ℕ). walk_end (walk (going s n []) xs)) none ∙ end_missing s n due
fault_reported s n rest whys.Memory begun h = absurd h.fault

pub answer_faulty : (text : List ℕ) (line : ℕ) (why : ListWhy) → ListFaulty text line why → answer_of text ≡ Err (record { line = line; why = why })
unfolding answer_of
answer_faulty text line why l =
    let b = l.begins in
    ap walk_end (walk_front text l.so_far l.rest line b)
    ∙ fault_reported l.so_far (length (items_of l.so_far)) l.rest why b.begun l.fault
    ∙ ap (λ (k : ℕ). Err (record { line = k; why = why })) (sym b.line_is)
